-- A line whose magnitude is far below 2^31 fits 32 bits, and so do its negation and what is one larger: the code's arithmetic on it is
-- exact. Assumes nothing.
use Rattle.std.proofs.Common.{◌≡◌, suc, ◌-◌, ◌^◌, ◌≤◌, Bool, true, false, cond, T, eqb, ℤ, pos, negsuc, ◌+ℤ◌, ◌-ℤ◌, nat_abs, sym, refl, ap, true≢false, add-zero, zero-add, add-one, arith, to_z-of_z, w32, Fits, SFits, to_z, of_z, ltb-true, ne_eqb}
use lib.Signed.{lt_z, non_neg}
use Rattle.residual_data.specs.Residual.{larger}

-- such a line is itself as the code holds it
pub line-fits : (z : ℤ) → nat_abs z ≤ 81920 → SFits w32 z
line-fits (pos n) f = record { sfits = omega arith }
line-fits (negsuc n) f = record { sfits = omega arith }

pub same_line : (z : ℤ) → nat_abs z ≤ 81920 → to_z w32 (of_z w32 z) ≡ z
same_line z f = to_z-of_z (line-fits z f)

-- a line is 0 exactly if its bits are
pub zero-line : (z : ℤ) → SFits w32 z → eqb (of_z w32 z) 0 ≡ eqb (nat_abs z) 0
zero-line (pos n) f = refl
zero-line (negsuc n) f = rw (ne_eqb (2 ^ 32 - suc n) 0 (λ e. omega (arith, f.sfits)), ne_eqb (suc n) 0 (λ e. omega arith)) refl

-- what a test of a line as the code holds it says of the line
pub zero-told : (z : ℤ) {r : Bool} → SFits w32 z → r ≡ eqb (nat_abs (to_z w32 (of_z w32 z))) 0 → eqb (nat_abs z) 0 ≡ r
zero-told z f e = sym (rw (to_z-of_z f) at e)

-- a line below 0 is negated, and its negation is its magnitude
pub record Negated (z : ℤ) : Type 0 where
  pub there : SFits w32 (pos 0 -ℤ z)
  pub sign : T (non_neg (pos 0 -ℤ z))
  pub size : nat_abs (pos 0 -ℤ z) ≡ nat_abs z

pub negated : (z : ℤ) → nat_abs z ≤ 81920 → lt_z z (pos 0) ≡ true → Negated z
negated (pos n) f e = absurd (omega (arith, ltb-true n 0 e))
negated (negsuc n) f e = record { there = record { sfits = omega arith }; sign = tt; size = rw zero-add refl }

-- any other line is its magnitude
pub not_negative : (z : ℤ) → lt_z z (pos 0) ≡ false → T (non_neg z)
not_negative (pos n) e = tt
not_negative (negsuc n) e = absurd (true≢false e)

pub magnitude-fits : (z : ℤ) → nat_abs z ≤ 81920 → Fits w32 (nat_abs z)
magnitude-fits z f = record { fits = omega arith }

-- one larger: a line below 0 less one, any other and one
pub record Larger (z w : ℤ) : Type 0 where
  pub there : SFits w32 w
  pub same : w ≡ larger z

pub larger-below : (z : ℤ) → nat_abs z ≤ 81919 → lt_z z (pos 0) ≡ true → Larger z (z -ℤ pos 1)
larger-below (pos n) f e = absurd (omega (arith, ltb-true n 0 e))
larger-below (negsuc n) f e = record { there = record { sfits = omega arith }; same = rw add-zero refl }

-- and is itself as the code holds it, as is a magnitude of 1 with its sign
pub larger-held : (z : ℤ) → nat_abs z ≤ 81919 → to_z w32 (of_z w32 (larger z)) ≡ larger z
larger-held (pos n) f = same_line (pos (suc n)) (omega arith)
larger-held (negsuc n) f = same_line (negsuc (suc n)) (omega arith)

pub sign-held : (minus : Bool) → to_z w32 (of_z w32 (cond minus (negsuc 0) (pos 1))) ≡ cond minus (negsuc 0) (pos 1)
sign-held true = refl
sign-held false = refl

pub larger-above : (z : ℤ) → nat_abs z ≤ 81919 → lt_z z (pos 0) ≡ false → Larger z (z +ℤ pos 1)
larger-above (pos n) f e = record { there = record { sfits = omega arith }; same = ap pos (add-one n) }
larger-above (negsuc n) f e = absurd (true≢false e)
