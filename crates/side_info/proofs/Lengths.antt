-- The side information has 57 to 74 bits in every configuration: what its widths add up to, so that it fits into every frame.
-- Assumes nothing.
use Prim.Native.Nat.{ℕ, ◌+◌, ◌≤◌, ◌<◌}
use mathlib.Core.Path.{◌≡◌, refl}
use mathlib.Core.Bool.{Bool, true, false}
use native.Mathlib.Omega.{arith}
use native.Mathlib.Decide.{dec_lt}
use lib.Dec.{leb, eqb}
use Rattle.side_info.specs.Reader.{bandwidth_bits, part_bits, joint_bits}
use Rattle.side_info.specs.Record.{if_there}
use Rattle.side_info.specs.Layout.{length_of, side_length}
use Rattle.side_info.specs.declared.SideInfo.{SideInfo}
use Rattle.side_info.proofs.Widths.{bandwidth-low, bandwidth-high, lastnz-range, by-msb}

-- a field that may be absent has at most its width
pub if-there : (t : Bool) (n : ℕ) → if_there t n ≤ n
if-there true n = omega arith
if-there false n = omega arith

pub bandwidth-most : (fs : ℕ) → fs ≤ 4 → bandwidth_bits fs ≤ 3
bandwidth-most fs h = go (dec_lt fs 3)
  where
    go : Dec (fs < 3) → bandwidth_bits fs ≤ 3
    go (yes l) = rw (bandwidth-low fs l) (omega arith)
    go (no l) = rw (bandwidth-high fs (omega (arith, l)) h) (omega arith)

-- the gain's part and J have 26 bits together
pub shape-sum : (msb : ℕ) → part_bits msb + joint_bits msb ≡ 26
shape-sum msb = by-msb (λ part joint. part + joint ≡ 26) msb refl refl

pub length-range : (fs ne : ℕ) (s : SideInfo) → fs ≤ 4 → 60 ≤ ne → ne ≤ 400 → (57 ≤ side_length fs ne s) × (side_length fs ne s ≤ 74)
unfolding length_of
length-range fs ne s f l m =
    let b = bandwidth-most fs f in
    let w = lastnz-range ne l m in
    let second = if-there (leb 3 s.bandwidth) 1 in
    let both = shape-sum s.sns.msb in
    let active = if-there (eqb s.pitch 1) 1 in
    let index = if-there (eqb s.pitch 1) 9 in
    omega arith
