-- A byte with some bits replaced: it stays a byte, the bits replaced are the new ones, and the others are as they were.
-- Assumes nothing.
use Prim.Native.Nat.{ℕ, suc, ◌+◌, ◌-◌, ◌*◌, ◌/◌, ◌%◌, ◌^◌, ◌≤◌, ◌<◌}
use mathlib.Core.Path.{◌≡◌, refl, sym, ap, ◌∙◌}
use native.Mathlib.Omega.{arith}
use native.Mathlib.Decide.{dec_lt}
use native.Mathlib.Nat.{mod-lt, pow-suc}
use lib.Arith.{digits_lt}
use lib.Pow.{pow_pos, pow-add, shr_lt, shr-shr, split}
use lib.Pow.{high as Pow·high}
use Rattle.buffer_reader.proofs.Tails.{bit_below}
use Rattle.buffer_writer.specs.Writes.{with_bit, with_top}

-- what a number below 2 ^ a times 2 ^ b and a remainder come to
word_lt : (q r a b : ℕ) → q < 2 ^ a → r < 2 ^ b → a + b ≡ 8 → q * 2 ^ b + r < 256
word_lt q r a b p s e =
    let size : 2 ^ a * 2 ^ b ≡ 256 = sym (pow-add 2 a b) ∙ ap (λ (x : ℕ). 2 ^ x) e in
    rw size at (digits_lt p s)

below_word : (x k a : ℕ) → x < 256 → a + k ≡ 8 → x / 2 ^ k < 2 ^ a
below_word x k a p e = shr_lt a k (rw e p)

pub with-bit-lt : (byte k bit : ℕ) → byte < 256 → k < 8 → bit < 2 → with_bit byte k bit < 256
with-bit-lt byte k bit p h b =
    let up : byte / 2 ^ k < 2 ^ suc (7 - k) = below_word byte k (suc (7 - k)) p (omega arith) in
    word_lt (byte / 2 ^ k / 2 * 2 + bit) (byte % 2 ^ k) (suc (7 - k)) k (omega (arith, up, pow-suc 2 (7 - k))) (mod-lt byte (pow_pos k)) (omega arith)

pub with-top-lt : (byte val n : ℕ) → val < 256 → n ≤ 8 → with_top byte val n < 256
with-top-lt byte val n p h =
    word_lt (val / 2 ^ (8 - n)) (byte % 2 ^ (8 - n)) n (8 - n) (below_word val (8 - n) n p (omega arith)) (mod-lt byte (pow_pos (8 - n))) (omega arith)

pub with-bit-same : (byte k bit : ℕ) → bit < 2 → with_bit byte k bit / 2 ^ k % 2 ≡ bit
with-bit-same byte k bit b = rw (Pow·high (byte / 2 ^ k / 2 * 2 + bit) k (mod-lt byte (pow_pos k))) (omega arith)

-- a number's bits below k are those of its remainder
remainder-bit : (x k j : ℕ) → j < k → x % 2 ^ k / 2 ^ j % 2 ≡ x / 2 ^ j % 2
remainder-bit x k j h = sym (bit_below (x / 2 ^ k) k (x % 2 ^ k) j h) ∙ ap (λ (y : ℕ). y / 2 ^ j % 2) (split x k)

above : (x k d : ℕ) → x / 2 ^ (k + (1 + d)) ≡ x / 2 ^ k / 2 / 2 ^ d
above x k d = sym (shr-shr x k (1 + d)) ∙ sym (shr-shr (x / 2 ^ k) 1 d)

pub with-bit-other : (byte k bit j : ℕ) → bit < 2 → (j ≡ k → ⊥) → with_bit byte k bit / 2 ^ j % 2 ≡ byte / 2 ^ j % 2
with-bit-other byte k bit j b ne = go (dec_lt j k)
  where
    go : Dec (j < k) → with_bit byte k bit / 2 ^ j % 2 ≡ byte / 2 ^ j % 2
    go (yes h) = bit_below (byte / 2 ^ k / 2 * 2 + bit) k (byte % 2 ^ k) j h ∙ remainder-bit byte k j h
    go (no h) =
        let place : j ≡ k + (1 + (j - k - 1)) = omega (arith, h, ne) in
        let half : (byte / 2 ^ k / 2 * 2 + bit) / 2 ≡ byte / 2 ^ k / 2 = omega arith in
        rw (place, above (with_bit byte k bit) k (j - k - 1), above byte k (j - k - 1), Pow·high (byte / 2 ^ k / 2 * 2 + bit) k (mod-lt byte (pow_pos k)), half) refl

-- the bits below the top n are as they were
pub with-top-other : (byte val n j : ℕ) → j < 8 - n → with_top byte val n / 2 ^ j % 2 ≡ byte / 2 ^ j % 2
with-top-other byte val n j h =
    bit_below (val / 2 ^ (8 - n)) (8 - n) (byte % 2 ^ (8 - n)) j h ∙ remainder-bit byte (8 - n) j h

-- and the top n are the other byte's
pub with-top-same : (byte val n j : ℕ) → 8 - n ≤ j → with_top byte val n / 2 ^ j % 2 ≡ val / 2 ^ j % 2
with-top-same byte val n j h =
    let place : j ≡ 8 - n + (j - (8 - n)) = omega arith in
    rw (place, ← shr-shr (with_top byte val n) (8 - n) (j - (8 - n)), ← shr-shr val (8 - n) (j - (8 - n)), Pow·high (val / 2 ^ (8 - n)) (8 - n) (mod-lt byte (pow_pos (8 - n)))) refl
