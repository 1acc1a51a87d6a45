-- `inner::put_field` meets its contract: what is left to write, of the value's bits that are left, makes the same buffer.
-- Assumes nothing.
use Prim.Native.Nat.{◌+◌, ◌-◌, ◌%◌}
use mathlib.Core.Path.{◌≡◌, sym, ◌∙◌}
use native.Mathlib.Omega.{arith}
use Rattle.buffer_writer.proofs.Places.{put-none, put-turn, put-length}
use Rattle.buffer_writer.proofs.inner.put_field.Goals as goal

pub loop-at-preserved : goal.loop-at-preserved
loop-at-preserved c =
    let l = c.loop-at in
    let end = c.args.place + c.args.num_bits in
    let next : end - l.at - 1 ≡ end - (l.at + 1) = omega arith in (
      rw (c.put_bit.ensures, put-length l.buf l.at (l.rest % 2)) l.invariant.0,
      rw (c.put_bit.ensures, ← next, ← put-turn l.buf l.at l.rest (end - l.at) (omega arith)) l.invariant.1,
    )

pub returns : goal.returns
returns c =
    let l = c.loop-at in
    let end = c.args.place + c.args.num_bits in
    let none : end - l.at ≡ 0 = omega arith in
    sym (put-none l.buf l.at l.rest) ∙ rw none at l.invariant.1
