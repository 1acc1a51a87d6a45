-- `inner::seed` meets its contract: each line adds its magnitude times its index, and a sum cut to 32 bits on the way is cut the same.
-- Assumes nothing.
use Rattle.std.proofs.Common.{◌≡◌, ◌<◌, get_or, pos, nat_abs, refl, arith, length-take-le, get_or-take}
use Rattle.residual_data.proofs.Lines.{same_line}
use Rattle.residual_data.proofs.Seeds.{sum-none, sum_one}
use Rattle.residual_data.proofs.inner.seed.Goals as goal

pub loop-k-init : goal.loop-k-init
loop-k-init c = sum-none c.args.lines.now

pub loop-k-preserved : goal.loop-k-preserved
loop-k-preserved c =
    let lines = c.args.lines.now in
    let k = c.loop-k.k in
    let before : k < c.args.ne = omega (arith, length-take-le c.args.ne lines c.requires.1) in
    let told : c.unsigned_abs.result ≡ nat_abs (get_or lines k (pos 0)) =
    rw (c.unsigned_abs.ensures.value, get_or-take c.args.ne lines k (pos 0) before, same_line (get_or lines k (pos 0)) (c.requires.2 k)) refl in
    rw told (sum_one lines k c.loop-k.sum (omega arith) c.loop-k.invariant)
