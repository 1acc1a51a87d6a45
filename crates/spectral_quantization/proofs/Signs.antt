-- A size with its sign, as the machine works it out in 16 bits. Assumes nothing.
use mathlib.Core.Path.{◌≡◌, ap, ◌∙◌}
use mathlib.Core.Bool.{true, false}
use Prim.Native.Nat.{ℕ, zero, suc, ◌≤◌, ◌<◌}
use native.Mathlib.Omega.{arith}
use lib.IntN.{ℤ, pos, negsuc, neg_ℤ, ◌-ℤ◌, +ℤ_idl}
use mir.Syntax.{w16}
use mir.Val.{SFits, to_z, of_z}
use mir.ValLaws.{to_z_pos, to_z-of_z}
use Rattle.spectral_quantization.specs.Quantiser.{held}
use Rattle.spectral_quantization.proofs.Wholes.{held-large, held_small}

-- ---- from 32768 on

module _ (size : ℕ) (large : 32768 ≤ size) where
  -- the lower end
  pub held_below : negsuc 32767 ≡ held true size
  held_below = ap (λ (n : ℕ). neg_ℤ (pos n)) (held-large 32768 size large)

  -- the upper end
  pub held-above : pos 32767 ≡ held false size
  held-above = ap pos (held-large 32767 size (omega arith))

-- ---- below 32768

module _ (size : ℕ) (small : size < 32768) where
  -- 0 - size
  negated : pos 0 -ℤ to_z w16 size ≡ neg_ℤ (pos size)
  negated = ap (λ (z : ℤ). pos 0 -ℤ z) (to_z_pos w16 size small) ∙ +ℤ_idl (neg_ℤ (pos size))

  negative_fits : (n : ℕ) → n < 32768 → SFits w16 (neg_ℤ (pos n))
  negative_fits zero h = record { sfits = h }
  negative_fits (suc n) h = record { sfits = omega arith }

  -- it is a 16-bit number
  pub negated_fits : SFits w16 (pos 0 -ℤ to_z w16 size)
  negated_fits = rw negated (negative_fits size small)

  -- a negative line
  pub signed_below : to_z w16 (of_z w16 (pos 0 -ℤ to_z w16 size)) ≡ held true size
  signed_below =
      to_z-of_z w16 (pos 0 -ℤ to_z w16 size) negated_fits
      ∙ negated
      ∙ ap (λ (n : ℕ). neg_ℤ (pos n)) (held_small 32768 size (omega arith))

  -- a positive line
  pub signed_above : to_z w16 size ≡ held false size
  signed_above = to_z_pos w16 size small ∙ ap pos (held_small 32767 size (omega arith))
