-- A 16-bit line is itself at 32 bits, where its negation fits too: so its magnitude is found without loss, at most 32,768.
-- Assumes nothing.
use Prim.Native.Nat.{ℕ, ◌≤◌, ◌<◌}
use mathlib.Core.Path.{◌≡◌, refl, ap}
use mathlib.Core.Bool.{true, false, true≢false}
use mathlib.Core.List.{List}
use native.Mathlib.Omega.{arith}
use native.Mathlib.Nat.{zero-add}
use borrow.Author.Tests.{ltb-true}
use lib.Dec.{T}
use lib.ListN.{length, get_or, length-map, get_or-map}
use lib.IntN.{ℤ, pos, negsuc, nat_abs, ◌-ℤ◌}
use lib.Signed.{lt_z, non_neg}
use mir.Syntax.{w16, w32, w64}
use mir.Val.{Fits, SFits, to_z, of_z}
use mir.Facts.{to_z-of_z}
use Rattle.contexts.specs.Contexts.{magnitudes}
use Rattle.contexts.specs.Lines.{minus}

module _ (z : ℤ) (fits : SFits w16 z) where
  -- what the code holds of a line
  abbrev pub widened : ℤ
  widened = to_z w32 (of_z w32 (to_z w16 (of_z w16 z)))

  wider : SFits w32 z
  wider = record { sfits = omega (arith, fits.sfits) }

  pub wide_fits : SFits w32 (to_z w16 (of_z w16 z))
  wide_fits = rw (to_z-of_z fits) wider

  pub widened_same : widened ≡ z
  widened_same = rw (to_z-of_z fits, to_z-of_z wider) refl

-- at most 32,768
pub magnitude-most : (z : ℤ) → SFits w16 z → nat_abs z ≤ 32768
magnitude-most (pos n) f = omega (arith, f.sfits)
magnitude-most (negsuc n) f = omega (arith, f.sfits)

-- and at most 32,767 but for -32768
pub magnitude-below : (z : ℤ) → SFits w16 z → (z ≡ negsuc 32767 → ⊥) → nat_abs z ≤ 32767
magnitude-below (pos n) f h = omega (arith, f.sfits)
magnitude-below (negsuc n) f h =
    let other : n ≡ 32767 → ⊥ = λ e. h (ap negsuc e) in
    omega (arith, f.sfits, other)

-- a line below 0 is negated, and its negation is its magnitude
pub record Negated (z : ℤ) : Type 0 where
  pub there : SFits w32 (pos 0 -ℤ z)
  pub sign : T (non_neg (pos 0 -ℤ z))
  pub size : nat_abs (pos 0 -ℤ z) ≡ nat_abs z

pub negated : (z : ℤ) → SFits w16 z → lt_z z (pos 0) ≡ true → Negated z
negated (pos n) f e = absurd (omega (arith, ltb-true n 0 e))
negated (negsuc n) f e =
    record { there = record { sfits = omega (arith, f.sfits) }; sign = tt; size = rw zero-add refl }

-- any other line is its magnitude
pub not_negative : (z : ℤ) → lt_z z (pos 0) ≡ false → T (non_neg z)
not_negative (pos n) e = tt
not_negative (negsuc n) e = absurd (true≢false e)

pub magnitude-fits : (z : ℤ) → SFits w16 z → Fits w64 (nat_abs z)
magnitude-fits z f = record { fits = omega (arith, magnitude-most z f) }

-- the magnitude at a place
pub magnitude-read : (lines : List ℤ) (k : ℕ) → get_or (magnitudes lines) k 0 ≡ nat_abs (get_or lines k (pos 0))
magnitude-read lines k = get_or-map nat_abs lines k (pos 0)

pub magnitudes-length : (lines : List ℤ) → length (magnitudes lines) ≡ length lines
magnitudes-length lines = length-map lines nat_abs

pub minus-low : (z : ℤ) → minus z < 2
minus-low (pos n) = omega arith
minus-low (negsuc n) = omega arith
