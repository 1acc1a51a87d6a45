-- `writer::room_for` meets its contract: the fields that are left, from the tail reached, ask what all of them ask.
-- Assumes nothing.
use Prim.Native.Nat.{◌^◌}
use mathlib.Core.Path.{refl, sym, ◌∙◌}
use Rattle.side_info.proofs.Room.{room-turn, room-end, start-bounded}
use Rattle.side_info.proofs.writer.room_for.Goals as goal

pub returns-then-passes_start : goal.returns-then-passes_start
returns-then-passes_start c =
    let a = c.args in
    let l = c.loop-width in
    rw (← l.invariant.1, room-turn a.bits l.tail l.width-index a.fields.now c.loop-width-test.true, ← c.passes_start.ensures, c.if-passes_start.true, c.no_tail_room.ensures) refl

pub loop-width-preserved : goal.loop-width-preserved
loop-width-preserved c =
    let a = c.args in
    let l = c.loop-width in
    let turn = room-turn a.bits l.tail l.width-index a.fields.now c.loop-width-test.true in (
      start-bounded a.bits l.tail _ (2 ^ 64) c.ranges.bits.fits l.invariant.0 (sym c.passes_start.ensures ∙ c.if-passes_start.false),
      sym (rw (← c.passes_start.ensures, c.if-passes_start.false) at turn) ∙ l.invariant.1,
    )

pub returns : goal.returns
returns c =
    let a = c.args in
    let l = c.loop-width in
    sym (room-end a.bits l.tail l.width-index a.fields.now c.loop-width-test.false) ∙ l.invariant.1
