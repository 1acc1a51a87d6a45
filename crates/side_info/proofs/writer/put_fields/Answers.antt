-- `writer::put_fields` meets its contract: what is left to lay, into the frame as it is now, makes the frame that all of it asks for.
-- Assumes nothing.
use mathlib.Core.Path.{sym, ◌∙◌}
use native.Mathlib.Omega.{arith}
use Rattle.buffer_writer.proofs.Places.{put-field-length}
use Rattle.side_info.proofs.Room.{length-turn, put-turn, put-end}
use Rattle.side_info.proofs.writer.put_fields.Goals as goal

pub put_field-requires : goal.put_field-requires
put_field-requires c =
    let l = c.loop-width in
    let t = length-turn 0 0 l.width-index c.args.fields.now c.loop-width-test.true in
    (omega (arith, l.invariant, c.requires), omega (arith, l.invariant, c.requires, t))

pub overflow_add-at : goal.overflow_add-at
overflow_add-at c =
    let l = c.loop-width in
    omega (arith, l.invariant, c.requires, length-turn 0 0 l.width-index c.args.fields.now c.loop-width-test.true)

pub loop-width-preserved : goal.loop-width-preserved
loop-width-preserved c =
    let l = c.loop-width in
    let fields = c.args.fields.now in
    let t = length-turn 0 0 l.width-index fields c.loop-width-test.true in (
      rw (c.put_field.ensures, put-field-length l.buf l.at _ _) l.invariant.0,
      omega (arith, l.invariant, t),
      rw (c.put_field.ensures, ← (put-turn 0 l.at l.width-index fields c.loop-width-test.true l.buf)) l.invariant.2,
    )

pub returns : goal.returns
returns c =
    let l = c.loop-width in
    sym (put-end l.buf l.at l.width-index c.args.fields.now c.loop-width-test.false) ∙ l.invariant.2
