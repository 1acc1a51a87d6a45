-- A line is its magnitude with its sign, and without its lowest bit it is the even magnitude at or below its own with that sign.
-- Assumes nothing.
use Prim.Native.Nat.{ℕ, ◌*◌, ◌/◌, ◌%◌}
use mathlib.Core.Path.{◌≡◌, refl, sym, ap, ◌∙◌}
use mathlib.Core.Bool.{cond}
use native.Mathlib.Omega.{arith}
use native.Mathlib.Numerals.{add-one}
use lib.Dec.{eqb}
use lib.IntN.{ℤ, pos, negsuc, neg_ℤ, nat_abs}
use Rattle.contexts.specs.Lines.{minus, evened}

-- a magnitude with a line's sign
abbrev pub signed_as : ℤ → ℕ → ℤ
signed_as z m = cond (eqb (minus z) 1) (neg_ℤ (pos m)) (pos m)

pub signed_same : (z : ℤ) → signed_as z (nat_abs z) ≡ z
signed_same (pos n) = refl
signed_same (negsuc n) = refl

pub signed-zero : (z : ℤ) → signed_as z 0 ≡ pos 0
signed-zero (pos n) = refl
signed-zero (negsuc n) = refl

pub signed-evened : (z : ℤ) → signed_as z (nat_abs z / 2 * 2) ≡ evened z
signed-evened (pos n) = refl
signed-evened (negsuc n) = rw (add-one n) refl

-- an even magnitude has nothing to clear, and a 1 loses all
pub evened-even : (z : ℤ) → nat_abs z % 2 ≡ 0 → evened z ≡ z
evened-even z h =
    let same : nat_abs z / 2 * 2 ≡ nat_abs z = omega arith in
    sym (signed-evened z) ∙ ap (λ (m : ℕ). signed_as z m) same ∙ signed_same z

pub evened-one : (z : ℤ) → nat_abs z ≡ 1 → evened z ≡ pos 0
evened-one z h =
    let none : nat_abs z / 2 * 2 ≡ 0 = omega arith in
    sym (signed-evened z) ∙ ap (λ (m : ℕ). signed_as z m) none ∙ signed-zero z
