-- What a symbol's share of the 1,024 is of a decoder's range: at least one unit, and within the whole. Assumes nothing.
use Prim.Native.Nat.{ℕ, ◌+◌, ◌*◌, ◌≤◌}
use native.Mathlib.Omega.{arith}
use native.Mathlib.Nat.{mul-le-mul}
use Rattle.common.proofs.Cumulatives.{Shares, share-within}
use Rattle.range_decoder.specs.Decoder.{unit_of}

-- what the unit of a range gives a symbol: at least 64, and with what lies below it at most the range
pub record Given (range cum freq : ℕ) : Type 0 where
  pub least : 64 ≤ unit_of range * freq
  pub most : unit_of range * cum + unit_of range * freq ≤ range

pub shares-given : (range cum freq : ℕ) → 0x10000 ≤ range → Shares cum freq → Given range cum freq
shares-given range cum freq least s =
    let unit : 64 ≤ unit_of range = omega arith in
    let own : 64 * 1 ≤ unit_of range * freq = mul-le-mul unit s.some in
    let all = share-within (unit_of range) cum freq s.most in
    record { least = omega arith; most = omega arith }
