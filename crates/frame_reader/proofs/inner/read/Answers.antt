-- `inner::read` meets its contract: the data is read into arrays of zeros, and what it leaves there is finished.
-- Assumes nothing.
use Prim.Native.Nat.{◌*◌}
use mathlib.Core.Path.{◌≡◌, sym, ap, ◌∙◌}
use lib.ListN.{length, replicate}
use lib.IntN.{pos}
use Rattle.common.specs.Reply.{accepted}
use Rattle.common.specs.TableSets.{coded_of}
use Rattle.common.proofs.Sets.{coded-lent}
use Rattle.buffer_reader.specs.declared.Cursor.{Cursor}
use Rattle.frame_reader.specs.Frame.{read_data}
use Rattle.frame_reader.specs.Private.{Held, held, data_of}
use Rattle.frame_reader.proofs.Whole.{on-refused, on-standing, on-most, on-length, on-levels, on-accepted}
use Rattle.frame_reader.proofs.inner.read.Goals as goal
use Rattle.frame_reader.proofs.inner.read.Goals.{In-Ok}

-- the data that was read, as the arrays have it
abbrev held_at : In-Ok → Held × Cursor
held_at c = (record { known = c.in-Ok.known; indices = c.read_data.new.stored.indices; lines = c.read_data.new.stored.lines; levels = c.read_data.new.stored.levels }, c.in-Ok.at)

held-at : (c : In-Ok) →
    let a = c.args in
    held (replicate 400 (pos 0)) (replicate 200 0) (read_data a.configuration (coded_of a.tables.now) (8 * length a.frame.now) a.ne a.frame.now (record { head = 0; tail = 0 })) ≡ accepted (held_at c)
held-at c = sym c.read_data.ensures ∙ ap (λ r. data_of r c.read_data.new.stored.indices c.read_data.new.stored.lines c.read_data.new.stored.levels) c.in-Ok.is

pub finish-requires : goal.finish-requires
finish-requires c =
    let a = c.args in
    let p = c.requires in
    let t = coded_of a.tables.now in
    let ok = (goal.at.finish-requires c).In-Ok in (
      on-standing a.configuration a.ne a.frame.now t (coded-lent a.tables.now) p.0 (held_at ok) (held-at ok),
      p.1,
      on-length a.configuration a.ne a.frame.now t (coded-lent a.tables.now) p.0 (held_at ok) (held-at ok),
      on-levels a.configuration a.ne a.frame.now t (coded-lent a.tables.now) p.0 (held_at ok) (held-at ok),
      on-most a.configuration a.ne a.frame.now t (coded-lent a.tables.now) p.0 (held_at ok) (held-at ok),
    )

pub returns-in-Ok : goal.returns-in-Ok
returns-in-Ok c =
    let a = c.args in
    let ok = (goal.at.returns-in-Ok c).In-Ok in
    c.finish.ensures ∙ on-accepted a.configuration a.ne a.frame.now (coded_of a.tables.now) (coded-lent a.tables.now) c.requires.0 (held_at ok) (held-at ok) a.lines.now

pub returns-in-Err : goal.returns-in-Err
returns-in-Err c =
    let a = c.args in
    let r = c.refused.ensures in
    rw (r.outcome, r.indices, r.residual)
    (on-refused a.configuration a.ne a.frame.now (coded_of a.tables.now) (coded-lent a.tables.now) c.requires.0 a.lines.now (sym c.read_data.ensures ∙ ap (λ r. data_of r c.read_data.new.stored.indices c.read_data.new.stored.lines c.read_data.new.stored.levels) c.in-Err.is))
