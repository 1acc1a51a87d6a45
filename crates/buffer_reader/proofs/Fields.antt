-- The bytes gathered hold the field: bits b to b + n of the number that k tail bytes make are the field at those places,
-- for every width at once. Assumes nothing.
use Prim.Native.Nat.{ℕ, zero, suc, ◌+◌, ◌-◌, ◌*◌, ◌/◌, ◌%◌, ◌^◌, ◌≤◌, ◌<◌}
use mathlib.Core.Path.{◌≡◌, refl, sym, ap, ◌∙◌}
use mathlib.Core.List.{List}
use native.Mathlib.Omega.{arith}
use native.Mathlib.Decide.{dec_lt}
use native.Mathlib.Nat.{mod-one, mul_comm, add_comm}
use lib.ListN.{length, get_or}
use lib.Pow.{shr-shr, shl-shr}
use lib.Pow.{field as Pow·field}
use Rattle.buffer_reader.specs.Tail.{tail_byte, tail_bit, field}
use Rattle.buffer_reader.specs.Private.{tail_number}
use Rattle.buffer_reader.proofs.Tails.{field-none, field-more, cut-more, bit_below, tail-byte-there, tail-byte-fits}

pub number-none : (f : List ℕ) (j : ℕ) → tail_number f j 0 ≡ 0
unfolding tail_number
number-none f j = refl

pub number_more : (f : List ℕ) (j k : ℕ) → tail_number f j (suc k) ≡ tail_byte f j + 256 * tail_number f (j + 1) k
unfolding tail_number
number_more f j k = refl

-- a bit of the lowest byte of a number
low_bit : (b r i : ℕ) → i < 8 → (b + 256 * r) / 2 ^ i % 2 ≡ b / 2 ^ i % 2
low_bit b r i h = rw (add_comm b (256 * r), mul_comm 256 r) (bit_below r 8 b i h)

module _ (f : List ℕ) (bytes : (i : ℕ) → get_or f i 0 < 256) where
  -- bit i of the number of k bytes is the tail bit there
  number_bit : (k j i : ℕ) → i < 8 * k → tail_number f j k / 2 ^ i % 2 ≡ tail_bit f (8 * j + i)
  number_bit zero j i h = absurd (omega arith)
  number_bit (suc k) j i h = go (dec_lt i 8) (number_bit k (j + 1))
    where
      go : Dec (i < 8) → ((m : ℕ) → m < 8 * k → tail_number f (j + 1) k / 2 ^ m % 2 ≡ tail_bit f (8 * (j + 1) + m)) → tail_number f j (suc k) / 2 ^ i % 2 ≡ tail_bit f (8 * j + i)
      go (yes l) ih =
          let byte : (8 * j + i) / 8 ≡ j = omega arith in
          let bit : (8 * j + i) % 8 ≡ i = omega arith in
          rw (number_more f j k, low_bit (tail_byte f j) (tail_number f (j + 1) k) i l, byte, bit) refl
      go (no l) ih =
          let place : 8 + (i - 8) ≡ i = omega (arith, l) in
          let high : tail_number f j (suc k) / 256 ≡ tail_number f (j + 1) k = omega (arith, number_more f j k, tail-byte-fits f j bytes) in
          let shift : tail_number f j (suc k) / 2 ^ i ≡ tail_number f (j + 1) k / 2 ^ (i - 8) =
          ap (λ (x : ℕ). tail_number f j (suc k) / 2 ^ x) (sym place) ∙ sym (shr-shr (tail_number f j (suc k)) 8 (i - 8)) ∙ ap (λ (x : ℕ). x / 2 ^ (i - 8)) high in
          let at : 8 * (j + 1) + (i - 8) ≡ 8 * j + i = omega (arith, l) in
          rw shift (ih (i - 8) (omega (arith, l)) ∙ ap (tail_bit f) at)

  -- over the width n
  pub number-field : (j k b n : ℕ) → b + n ≤ 8 * k → tail_number f j k / 2 ^ b % 2 ^ n ≡ field f (8 * j + b) n
  number-field j k b zero h = rw (field-none f (8 * j + b), mod-one) refl
  number-field j k b (suc n) h =
      let at : 8 * j + (b + 1) ≡ 8 * j + b + 1 = omega arith in
      let rest : tail_number f j k / 2 ^ b / 2 % 2 ^ n ≡ field f (8 * j + b + 1) n =
      ap (λ (x : ℕ). x % 2 ^ n) (shr-shr (tail_number f j k) b 1) ∙ number-field j k (b + 1) n (omega arith) ∙ ap (λ (i : ℕ). field f i n) at in
      rw (cut-more (tail_number f j k / 2 ^ b) n, field-more f (8 * j + b) n, number_bit k j b (omega arith), rest) refl

-- the bits that are not wanted are shifted out above a word of 32 bits, then below
pub shifted-out : (v s b n : ℕ) → s + b + n ≡ 32 → v * 2 ^ s % 4294967296 / 2 ^ (s + b) ≡ v / 2 ^ b % 2 ^ n
shifted-out v s b n e =
    let width : 32 ≡ n + (s + b) = omega arith in
    let word : 4294967296 ≡ 2 ^ (n + (s + b)) = ap (λ (k : ℕ). 2 ^ k) width in
    rw (word, Pow·field (v * 2 ^ s) n (s + b), ← shr-shr (v * 2 ^ s) s b, shl-shr v s) refl

-- the number by the bytes at their places from the start: one to four of them
module _ (f : List ℕ) (j : ℕ) where
  abbrev back : ℕ → ℕ
  back d = get_or f (length f - j - suc d) 0

  placed : (d i : ℕ) → j + d ≡ i → i < length f → back d ≡ tail_byte f i
  placed d i e h =
      let at : length f - j - suc d ≡ length f - 1 - i = omega arith in
      ap (λ (k : ℕ). get_or f k 0) at ∙ sym (tail-byte-there f i h)

  pub number-one : j + 1 ≤ length f → tail_number f j 1 ≡ back 0
  number-one h = omega (arith, number_more f j 0, number-none f (j + 1), placed 0 j (omega arith) (omega arith))

  pub number-two : j + 2 ≤ length f → tail_number f j 2 ≡ back 0 + back 1 * 256
  number-two h = omega (arith, number_more f j 1, number_more f (j + 1) 0, number-none f (j + 1 + 1), placed 0 j (omega arith) (omega arith), placed 1 (j + 1) (omega arith) (omega arith))

  pub number-three : j + 3 ≤ length f → tail_number f j 3 ≡ back 0 + back 1 * 256 + back 2 * 65536
  number-three h = omega (arith, number_more f j 2, number_more f (j + 1) 1, number_more f (j + 1 + 1) 0, number-none f (j + 1 + 1 + 1), placed 0 j (omega arith) (omega arith), placed 1 (j + 1) (omega arith) (omega arith), placed 2 (j + 1 + 1) (omega arith) (omega arith))

  pub number-four : j + 4 ≤ length f → tail_number f j 4 ≡ back 0 + back 1 * 256 + back 2 * 65536 + back 3 * 16777216
  number-four h = omega (arith, number_more f j 3, number_more f (j + 1) 2, number_more f (j + 1 + 1) 1, number_more f (j + 1 + 1 + 1) 0, number-none f (j + 1 + 1 + 1 + 1), placed 0 j (omega arith) (omega arith), placed 1 (j + 1) (omega arith) (omega arith), placed 2 (j + 1 + 1) (omega arith) (omega arith), placed 3 (j + 1 + 1 + 1) (omega arith) (omega arith))
