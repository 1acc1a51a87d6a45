-- A float cut toward zero, by its bits: the exponent's field and the digits, with their leading one, give its size where that is
-- 1 or more. Below 1 they give another size below 1, and for an infinity one that is held. Assumes nothing.
use mathlib.Core.Path.{◌≡◌, refl, sym, ap, subst, ◌∙◌}
use mathlib.Core.Bool.{Bool, true, false, not, cond}
use Prim.Native.Nat.{ℕ, zero, suc, ◌+◌, ◌-◌, ◌*◌, ◌/◌, ◌%◌, ◌^◌, ◌≤◌, ◌<◌, min}
use native.Mathlib.Nat.{mod-lt, mul_assoc, add_comm}
use native.Mathlib.Numerals.{add-one}
use native.Mathlib.Omega.{arith}
use lib.Dec.{T, leb, eqb, lit≤}
use lib.IntN.{pos, neg_ℤ}
use lib.Pow.{pow_pos, pow-add, shl-shr, shr-shr, field}
use lib.Bits.{bit_and, and_mask}
use lib.Ieee.{Float, nan, inf, fin, up, down, binary32, odd, fits, is_nan, of_fields, of_bits, to_bits, ne, to_signed}
use lib.Ieee.Fits.{down_pos}
use lib.Ieee.Bits.{of_bits-to_bits}
use lib.Ieee.Compare.{differs_from_itself, nan_differs}
use lib.Ieee.Exact.{HasValue, odd_sign}
use lib.Ieee.Nearest.{div_same}
use borrow.Author.Tests.{eqb-true}
use Rattle.spectral_quantization.specs.Quantiser.{held, cut}
use Rattle.spectral_quantization.proofs.Wholes.{nothing_left, whole-held}

-- the cut is Rust's `as i16`, as the logic has it
pub cut-is-cast : (v : Float) → cut v ≡ to_signed 15 v
unfolding to_signed
cut-is-cast nan = refl
cut-is-cast (inf true) = refl
cut-is-cast (inf false) = refl
cut-is-cast (fin true m e) = refl
cut-is-cast (fin false m e) = refl

-- ---- NaN

-- what differs from itself is cut to 0
pub nan-cut : (v : Float) → ne v v ≡ true → pos 0 ≡ cut v
nan-cut v h = ap cut (sym (differs_from_itself v (rw h tt)))

-- what does not is a number or an infinity
pub no_nan : (v : Float) → ne v v ≡ false → T (not (is_nan v))
unfolding is_nan
no_nan nan h = subst T (sym nan_differs ∙ h) tt
no_nan (inf s) h = tt
no_nan (fin s m e) h = tt

-- ---- a finite value, by any fraction a / c that its size equals

cut-of-value : (v : Float) (s : Bool) (a c : ℕ) → 0 < c → HasValue v s a c → cut v ≡ held s (a / c)
cut-of-value nan s a c p h = absurd h
cut-of-value (inf t) s a c p h = absurd h
cut-of-value (fin t m e) s a c p h =
    ap (λ (b : Bool). held b (m * up e / down e)) h.0
    ∙ ap (held s) (div_same (m * up e) (down e) a c (down_pos e) p h.1)

-- ---- a size that is held to 32768 already

held-again : (s : Bool) (n : ℕ) → held s (min n 32768) ≡ held s n
held-again true n = ap (λ (k : ℕ). neg_ℤ (pos k)) (again n)
  where
    again : (n : ℕ) → min (min n 32768) 32768 ≡ min n 32768
    again n = omega arith
held-again false n = ap pos (again n)
  where
    again : (n : ℕ) → min (min n 32768) 32767 ≡ min n 32767
    again n = omega arith

-- ---- by the three fields of a pattern

-- the size by bits, of an exponent's field x and the digits t
abbrev size_of : ℕ → ℕ → ℕ
size_of x t = (t + 2 ^ 23) * 2 ^ x / 2 ^ 150

-- the highest field is an infinity's or a NaN's
at_top : (b z s : Bool) (v : Float) (n : ℕ) → (b ≡ true → held s 32768 ≡ held s n) → cut v ≡ held s n
    → T (not (is_nan (cond b (cond z (inf s) nan) v)))
    → cut (cond b (cond z (inf s) nan) v) ≡ held s n
unfolding is_nan
at_top true true s v n top rest number = top refl
at_top true false s v n top rest number = absurd number
at_top false z s v n top rest number = rest

-- it counts from 2^-150, one bit below the format's smallest value
one_more : (d j : ℕ) → d * 2 ^ j / 2 ^ 149 ≡ d * 2 ^ suc j / 2 ^ 150
one_more d j =
    ap (λ (n : ℕ). n / 2 ^ 149) (sym (shl-shr (d * 2 ^ j) 1))
    ∙ shr-shr (d * 2 ^ j * 2 ^ 1) 1 149
    ∙ ap (λ (n : ℕ). n / 2 ^ 150) (mul_assoc d (2 ^ j) (2 ^ 1) ∙ ap (λ (n : ℕ). d * n) (sym (pow-add 2 j 1)))
    ∙ ap (λ (n : ℕ). d * 2 ^ n / 2 ^ 150) (add-one j)

module _ (s : Bool) (t : ℕ) (few : t < 2 ^ 23) where
  digits_low : 2 ^ 23 ≤ t + 2 ^ 23
  digits_low = omega arith

  digits-high : t + 2 ^ 23 < 2 ^ 24
  digits-high = omega arith

  -- an infinity, at field 255
  infinite : (j : ℕ) → eqb (suc j) 255 ≡ true → held s 32768 ≡ held s (size_of (suc j) t)
  infinite j e =
      ap (held s) (whole-held (suc j) (t + 2 ^ 23) digits_low digits-high (high (suc j) (eqb-true (suc j) 255 e)))
      ∙ held-again s (size_of (suc j) t)
    where
      high : (x : ℕ) → x ≡ 255 → 142 ≤ x
      high x h = omega arith

  -- a normal value
  normal : (j : ℕ) → cut (odd 24 s (2 ^ 23 + t) j 149) ≡ held s (size_of (suc j) t)
  normal j =
      cut-of-value (odd 24 s (2 ^ 23 + t) j 149) s ((2 ^ 23 + t) * 2 ^ j) (2 ^ 149) (pow_pos 149) (odd_sign 24 s (2 ^ 23 + t) j 149)
      ∙ ap (held s) (ap (λ (d : ℕ). d * 2 ^ j / 2 ^ 149) (add_comm (2 ^ 23) t) ∙ one_more (t + 2 ^ 23) j)

  -- every field: at 0 a subnormal value or a zero, which is below 1
  fields-cut : (x : ℕ) → T (not (is_nan (of_fields binary32 s x t))) → cut (of_fields binary32 s x t) ≡ held s (size_of x t)
  unfolding of_fields
  fields-cut zero number =
      cut-of-value (odd 24 s t 0 149) s (t * 2 ^ 0) (2 ^ 149) (pow_pos 149) (odd_sign 24 s t 0 149)
      ∙ ap (held s) (nothing_left t 23 0 149 few (lit≤ tt) ∙ sym (nothing_left (t + 2 ^ 23) 24 0 150 digits-high (lit≤ tt)))
  fields-cut (suc j) number =
      at_top (eqb (suc j) 255) (eqb t 0) s (odd 24 s (2 ^ 23 + t) j 149) (size_of (suc j) t) (infinite j) (normal j) number

-- ---- by the pattern

bits-cut : (b : ℕ) → T (not (is_nan (of_bits binary32 b)))
    → cut (of_bits binary32 b) ≡ held (leb (2 ^ 31) b) (size_of (b % 2 ^ 31 / 2 ^ 23) (b % 2 ^ 23))
unfolding of_bits
bits-cut b number = fields-cut (leb (2 ^ 31) b) (b % 2 ^ 23) (mod-lt b (pow_pos 23)) (b % 2 ^ 31 / 2 ^ 23) number

-- what the bits of a pattern give is the value, cut
module _ (v : Float) (fit : T (fits binary32 v)) (number : T (not (is_nan v))) where
  abbrev b : ℕ
  b = to_bits binary32 v

  pub cut-by-bits :
      held (leb (2 ^ 31) b) (min ((bit_and b (2 ^ 23 - 1) + 2 ^ 23) * 2 ^ bit_and (b / 2 ^ 23) (2 ^ 8 - 1) / 2 ^ 150) 32768) ≡ cut v
  cut-by-bits =
      held-again (leb (2 ^ 31) b) ((bit_and b (2 ^ 23 - 1) + 2 ^ 23) * 2 ^ bit_and (b / 2 ^ 23) (2 ^ 8 - 1) / 2 ^ 150)
      ∙ ap (λ (t : ℕ). held (leb (2 ^ 31) b) (size_of (bit_and (b / 2 ^ 23) (2 ^ 8 - 1)) t)) (and_mask b 23)
      ∙ ap (λ (x : ℕ). held (leb (2 ^ 31) b) (size_of x (b % 2 ^ 23))) (and_mask (b / 2 ^ 23) 8 ∙ sym (field b 8 23))
      ∙ sym (bits-cut b (subst (λ (y : Float). T (not (is_nan y))) (sym (of_bits-to_bits binary32 v fit)) number))
      ∙ ap cut (of_bits-to_bits binary32 v fit)
