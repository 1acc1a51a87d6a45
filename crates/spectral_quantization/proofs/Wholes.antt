-- The whole part of digits * 2^(exponent - 150), by a shift: below 1 it is 0, from 32768 on it is held, and between the two the
-- shift down cuts it. Assumes nothing.
use mathlib.Core.Path.{◌≡◌, sym, ap, ◌∙◌}
use Prim.Native.Nat.{ℕ, ◌+◌, ◌-◌, ◌*◌, ◌/◌, ◌^◌, ◌≤◌, zero-le, ◌<◌, min}
use native.Mathlib.Nat.{le_trans, le_of_lt, lt_of_lt_of_le, mul-le-mul, div-eq_of_lt, le-div_iff_mul-le}
use native.Mathlib.Omega.{arith}
use lib.Dec.{lit≤}
use lib.Pow.{pow_pos, pow_mono, shl_lt, shl-shr, shr-shr, shr_lt}

-- ---- a size that is held to an end

-- from the end on it is the end
pub held-large : (end n : ℕ) → end ≤ n → end ≡ min n end
held-large end n h = omega arith

-- up to the end it is itself
pub held_small : (end n : ℕ) → n ≤ end → n ≡ min n end
held_small end n h = omega arith

-- ---- a shift

-- what has fewer digits than the divisor leaves nothing
pub nothing_left : (digits p x l : ℕ) → digits < 2 ^ p → p + x ≤ l → digits * 2 ^ x / 2 ^ l ≡ 0
nothing_left digits p x l few h = div-eq_of_lt (lt_of_lt_of_le (shl_lt p x few) (pow_mono h))

-- a shift up by x and down by l is one shift down
pub shifted_down : (digits x l : ℕ) → x ≤ l → digits / 2 ^ (l - x) ≡ digits * 2 ^ x / 2 ^ l
shifted_down digits x l h =
    ap (λ (n : ℕ). n / 2 ^ (l - x)) (sym (shl-shr digits x))
    ∙ shr-shr (digits * 2 ^ x) x (l - x)
    ∙ ap (λ (n : ℕ). digits * 2 ^ x / 2 ^ n) (joined x l h)
  where
    joined : (x l : ℕ) → x ≤ l → x + (l - x) ≡ l
    joined x l h = omega arith

-- ---- the three ways, for digits with their leading one

module _ (exponent digits : ℕ) (low : 2 ^ 23 ≤ digits) (high : digits < 2 ^ 24) where
  abbrev size : ℕ
  size = digits * 2 ^ exponent / 2 ^ 150

  -- below 1
  pub whole-none : exponent < 127 → 0 ≡ min size 32768
  whole-none h = sym none ∙ held_small 32768 size (rw none zero-le)
    where
      reach : (x : ℕ) → x < 127 → 24 + x ≤ 150
      reach x h = omega arith

      none : size ≡ 0
      none = nothing_left digits 24 exponent 150 high (reach exponent h)

  -- from 2^15 on
  pub whole-held : 142 ≤ exponent → 32768 ≡ min size 32768
  whole-held h = held-large 32768 size ((le-div_iff_mul-le (pow_pos 150)).1 (le_trans (lit≤ tt) (mul-le-mul low (pow_mono h))))

  -- between
  pub whole-shifted : exponent < 142 → digits / 2 ^ (150 - exponent) ≡ min size 32768
  whole-shifted h =
      let cut : digits / 2 ^ (150 - exponent) ≡ size = shifted_down digits exponent 150 (le_of_lt (lt_of_lt_of_le h (lit≤ tt))) in
      let small : digits / 2 ^ (150 - exponent) < 32768 = shr_lt 15 (150 - exponent) (lt_of_lt_of_le high (pow_mono (reach exponent h))) in
      cut ∙ held_small 32768 size (le_of_lt (rw cut at small))
    where
      reach : (x : ℕ) → x < 142 → 24 ≤ 15 + (150 - x)
      reach x h = omega arith
