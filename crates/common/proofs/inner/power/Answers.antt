-- `inner::power` meets its contract: a one shifted by less than 24 stays within its word. Assumes nothing.
use Prim.Native.Nat.{◌*◌, ◌%◌, ◌^◌, ◌<◌}
use mathlib.Core.Path.{◌≡◌}
use native.Mathlib.Omega.{arith}
use native.Mathlib.Nat.{one-mul, mod-eq_of_lt}
use lib.Pow.{pow-lt, pow_pos}
use Rattle.common.proofs.inner.power.Goals as goal

pub returns : goal.returns
returns c =
    let k = c.args.k in
    let small : 2 ^ k < 2 ^ 24 = pow-lt c.requires in
    let e : 1 * 2 ^ k % 4294967296 ≡ 2 ^ k = rw (one-mul (2 ^ k)) (mod-eq_of_lt (omega arith)) in
    (e, rw e (pow_pos k), rw e small)
