-- `inner::read_pairs` meets its contract: the pairs that are left, behind what the arrays hold already, are the pairs of the whole.
-- Assumes nothing.
use Rattle.spectral_data.proofs.Pairs.{fill_start, fill-turn, fill-refused, fill_end}
use Rattle.spectral_data.proofs.Sizes.{context-low}
use Rattle.spectral_data.proofs.Bounds.{Sized, pair-going}
use Rattle.coding.proofs.Keeps.{BothMoved, both-here, Behind, keeps-at}
use Rattle.spectral_data.specs.Private.{pair_in}
use Rattle.spectral_data.specs.Spectral.{Pair, read_pair}
use Rattle.coding.specs.Coding.{Coded}
use Rattle.buffer_reader.specs.declared.Cursor.{Cursor}
use Rattle.contexts.specs.Contexts.{lookup_start}
use Rattle.common.specs.Reply.{accepted}
use Rattle.std.proofs.lemmas.Result.{err_from_is_err_and}
use native.Mathlib.Omega.{arith}
use mathlib.Core.Path.{◌≡◌, sym, ap, ◌∙◌}
use Prim.Native.Nat.{ℕ, ◌*◌}
use Rattle.spectral_data.proofs.inner.read_pairs.Goals as goal
use Rattle.spectral_data.proofs.inner.read_pairs.Goals.{After-lookup_start-start, In_ok-read}

-- the pair's lookup begins where the definition has it
starts_at : (c : After-lookup_start-start) →
    let a = c.args in
    let t = a.tables.now in
    read_pair t.lookup.now t.frequencies.now a.standard a.lsb c.loop-p.p (lookup_start c.loop-p.context a.rate a.ne (2 * c.loop-p.p)) c.loop-p.here a.buf.now c.loop-p.place
    ≡ read_pair t.lookup.now t.frequencies.now a.standard a.lsb c.loop-p.p c.lookup_start-start.result c.loop-p.here a.buf.now c.loop-p.place
starts_at c =
    let a = c.args in
    let t = a.tables.now in
    ap (λ (start : ℕ). read_pair t.lookup.now t.frequencies.now a.standard a.lsb c.loop-p.p start c.loop-p.here a.buf.now c.loop-p.place) (sym c.lookup_start-start.ensures)

-- a pair that was read
abbrev pair_at : (c : In_ok-read) → Coded Pair × Cursor
pair_at c = (record { value = pair_in c.in_ok-read.read; state = c.in_ok-read.after }, c.in_ok-read.next)

pair_read : (c : In_ok-read) →
    let a = c.args in
    let t = a.tables.now in
    read_pair t.lookup.now t.frequencies.now a.standard a.lsb c.loop-p.p (lookup_start c.loop-p.context a.rate a.ne (2 * c.loop-p.p)) c.loop-p.here a.buf.now c.loop-p.place ≡ accepted (pair_at c)
pair_read c = starts_at (goal.at.In_ok-read c).After-lookup_start-start ∙ sym c.in_ok-read.ensures

-- it keeps its bounds, and the range behind it passes
behind : (c : In_ok-read) → Behind BothMoved (Sized c.args.standard) c.args.buf.now c.loop-p.place (pair_at c)
behind c =
    let a = c.args in
    let t = a.tables.now in
    keeps-at (pair-going t.lookup.now t.frequencies.now t.looked t.rows a.standard a.lsb c.loop-p.p (lookup_start c.loop-p.context a.rate a.ne (2 * c.loop-p.p))) c.loop-p.here a.buf.now c.loop-p.place c.requires.0.short c.loop-p.invariant.1 (both-here a.buf.now c.loop-p.place) (pair_read c)

pub loop-p-init : goal.loop-p-init
loop-p-init c =
    let a = c.args in
    let t = a.tables.now in
    (omega arith, c.requires.0.range, fill_start t.lookup.now t.frequencies.now a.standard a.lsb a.rate a.ne a.pairs a.lines.now a.levels.now a.state a.buf.now a.at)

pub store-requires : goal.store-requires
store-requires c =
    (omega arith, omega arith, (behind (goal.at.store-requires c).In_ok-read).known.few)

pub context_behind-context-requires : goal.context_behind-context-requires
context_behind-context-requires c = (behind (goal.at.context_behind-context-requires c).In_ok-read).known.symbol_most

pub loop-p-preserved : goal.loop-p-preserved
loop-p-preserved c =
    let a = c.args in
    let t = a.tables.now in
    let l = c.loop-p in
    let x = pair_at (goal.at.loop-p-preserved c).In_ok-read in
    let bounds = behind (goal.at.loop-p-preserved c).In_ok-read in (
      rw c.context_behind-context.ensures (context-low l.context x.0.value.last x.0.value.escapes bounds.known.symbol_most),
      bounds.range,
      rw (c.store.ensures.lines_after, c.store.ensures.levels_after, c.context_behind-context.ensures)
          (fill-turn t.lookup.now t.frequencies.now a.standard a.lsb a.rate a.ne l.p a.pairs l.context l.lines l.levels l.here a.buf.now l.place c.loop-p-test.true (omega arith) (omega arith) x.0.value x.0.state x.1 (pair_read (goal.at.loop-p-preserved c).In_ok-read) ∙ l.invariant.2),
    )

pub returns-in_err-read : goal.returns-in_err-read
returns-in_err-read c =
    let a = c.args in
    let t = a.tables.now in
    let l = c.loop-p in
    let (e, is, same) = err_from_is_err_and c.from_residual.result c.from_residual.ensures.1 in
    rw (is, same)
    (sym (fill-refused t.lookup.now t.frequencies.now a.standard a.lsb a.rate a.ne l.p a.pairs l.context l.lines l.levels l.here a.buf.now l.place c.loop-p-test.true _ (starts_at (goal.at.returns-in_err-read c).After-lookup_start-start ∙ sym c.in_err-read.ensures)) ∙ l.invariant.2)

pub returns : goal.returns
returns c =
    let a = c.args in
    let t = a.tables.now in
    let l = c.loop-p in
    sym (fill_end t.lookup.now t.frequencies.now a.standard a.lsb a.rate a.ne l.p a.pairs l.context l.lines l.levels l.here a.buf.now l.place (omega (arith, l.auto.p-end, c.loop-p-test.false))) ∙ l.invariant.2
