-- `inner::finish` meets its contract: by the bits that are left it is refused 12, or goes on by its mode.
-- Assumes nothing.
use Prim.Native.Nat.{◌*◌}
use mathlib.Core.Path.{◌≡◌, sym, ap, ◌∙◌}
use lib.ListN.{length}
use Rattle.common.specs.Reply.{accepted}
use Rattle.residual_data.specs.Residual.{available}
use Rattle.residual_data.specs.Private.{available_of}
use Rattle.frame_reader.proofs.Shown.{room_in}
use Rattle.frame_reader.proofs.inner.finish.Goals as goal
use Rattle.frame_reader.proofs.inner.finish.Goals.{In-Some}

-- the bits that are left
room_at : (c : In-Some) →
    let a = c.args in
    available (8 * length a.buf.now) a.at a.known.range ≡ accepted c.in-Some.room
room_at c = sym c.available.ensures ∙ ap available_of c.in-Some.is

pub with_late-requires : goal.with_late-requires
with_late-requires c =
    let a = c.args in
    let p = c.requires in
    (p.0, room_in a.buf.now a.at a.known.range c.in-Some.room p.0.least p.0.most (room_at (goal.at.with_late-requires c).In-Some), p.1, p.2, p.3, p.4)

pub with_residual-requires : goal.with_residual-requires
with_residual-requires c =
    let a = c.args in
    let p = c.requires in
    (p.0, room_in a.buf.now a.at a.known.range c.in-Some.room p.0.least p.0.most (room_at (goal.at.with_residual-requires c).In-Some), p.1, p.2, p.4)
