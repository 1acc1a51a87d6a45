-- `inner::put_residual` meets its contract: behind i turns the first i bits of the list are put, and their values are the list's low bits.
-- Assumes nothing.
use Rattle.std.proofs.Common.{◌≡◌, ◌<◌, min, true, length, sym, refl, arith, length-take, get_or-take}
use Rattle.sending.proofs.Puts.{put-all-none}
use Rattle.residual_data.proofs.Puts.{residual-turn, residual-cut}
use Rattle.residual_data.proofs.inner.put_residual.Goals as goal

pub loop-i-init : goal.loop-i-init
loop-i-init c = sym (put-all-none true c.args.buf.now c.args.place)

pub loop-i-preserved : goal.loop-i-preserved
loop-i-preserved c =
    let a = c.args in
    let i = c.loop-i.i in
    let before : i < c.min-n.result = omega (arith, length-take c.min-n.result a.residual.now) in
    rw (c.put_bit.ensures, c.from.ensures, get_or-take c.min-n.result a.residual.now i 0 before, residual-turn a.lines.now a.residual.now c.requires.2 a.buf.now a.place i (omega arith), ← c.loop-i.invariant) refl

pub returns : goal.returns
returns c =
    let a = c.args in
    let e : c.loop-i.i ≡ min a.room (length a.residual.now) = omega (arith, length-take c.min-n.result a.residual.now, c.min-n.ensures) in
    rw (c.loop-i.invariant, e, residual-cut a.lines.now a.residual.now c.requires.2 a.room) refl
