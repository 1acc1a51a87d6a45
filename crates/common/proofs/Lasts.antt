-- The last place at which a test holds is the one place at which it holds and behind which it does not. So the floor of a
-- logarithm is the one exponent n with 2^n at most the number and 2^(n+1) above it. Assumes nothing.
use Prim.Native.Nat.{ℕ, zero, suc, ◌-◌, ◌^◌, ◌≤◌, ◌<◌}
use mathlib.Core.Path.{◌≡◌, refl}
use mathlib.Core.Bool.{Bool, true, false}
use mathlib.Core.Logic.{⊎_elim}
use native.Mathlib.Omega.{arith}
use native.Mathlib.Nat.{lt_of_lt_of_le, lt_of_le_of_lt, lt_of_not-le, not-le_of_lt, pow-le-pow_right, eq-or-lt_of_le}
use borrow.Author.Tests.{le-leb, lt-leb}
use lib.Dec.{leb}
use lib.Count.{count_leading_zeros, leading_top}
use lib.Pow.{pow_mono}
use Rattle.common.specs.Last.{last_below, floor_log2}

-- it holds at k and at no place behind k, so k is the last
pub last-is : (holds : ℕ → Bool) (n k : ℕ) → k < n → holds k ≡ true → ((j : ℕ) → k < j → j < n → holds j ≡ false) → last_below holds n ≡ k
unfolding last_below
last-is holds zero k l e after = absurd (omega arith)
last-is holds (suc n) k l e after =
    let most : k ≤ n = omega arith in
    ⊎_elim
    (λ same. rw (← same, e) refl)
    (λ less. rw (after n less (omega arith)) (last-is holds n k less e (λ j a b. after j a (omega arith))))
    (eq-or-lt_of_le most)

-- the exponent of the power of two at or below a 32-bit number, with the next power above it
pub log_is : (n k : ℕ) → k < 32 → 2 ^ k ≤ n → n < 2 ^ suc k → floor_log2 n ≡ k
unfolding floor_log2
log_is n k small low high =
    last-is (λ j. leb (2 ^ j) n) 32 k small (le-leb (2 ^ k) n low)
    (λ j a b. lt-leb (2 ^ j) n (lt_of_lt_of_le high (pow-le-pow_right (omega arith) a)))

-- what it is: 2 to it is at most the number, and 2 to one more is above
pub record Log (n k : ℕ) : Type 0 where
  pub small : k < 32
  pub low : 2 ^ k ≤ n
  pub high : n < 2 ^ suc k

zeros-log : (n : ℕ) → 0 < n → n < 2 ^ 32 → (floor_log2 n ≡ 31 - count_leading_zeros 32 n) × Log n (floor_log2 n)
zeros-log n pos fits =
    let top = leading_top 32 n pos fits in
    let small : top.0 < 32 = omega (arith, top.1) in
    let e : floor_log2 n ≡ top.0 = log_is n top.0 small top.2 top.3 in (
      rw e (omega (arith, top.1)),
      rw e (record { small = small; low = top.2; high = top.3 }),
    )

pub log-zeros : (n : ℕ) → 0 < n → n < 2 ^ 32 → 31 - count_leading_zeros 32 n ≡ floor_log2 n
log-zeros n pos fits = rw (zeros-log n pos fits).0 refl

pub log-law : (n : ℕ) → 0 < n → n < 2 ^ 32 → Log n (floor_log2 n)
log-law n pos fits = (zeros-log n pos fits).1

-- a number that is not 0 has at most 31 leading zero bits
pub zeros-most : (n : ℕ) → 0 < n → n < 2 ^ 32 → count_leading_zeros 32 n ≤ 31
zeros-most n pos fits = omega (arith, (leading_top 32 n pos fits).1)

-- a smaller power of two has a smaller exponent
pub power_below : (i j : ℕ) → 2 ^ i < 2 ^ j → i < j
power_below i j l = lt_of_not-le (λ h. not-le_of_lt l (pow_mono h))

-- between two symbols the floor of the range's logarithm is 16 to 23
pub log-range : (range : ℕ) → 0x10000 ≤ range → range < 0x1000000 → (16 ≤ floor_log2 range) × (floor_log2 range ≤ 23)
log-range range least fits =
    let log : Log range (floor_log2 range) = log-law range (omega arith) (omega arith) in
    let low : 16 < suc (floor_log2 range) = power_below 16 (suc (floor_log2 range)) (lt_of_le_of_lt least log.high) in
    let high : floor_log2 range < 24 = power_below (floor_log2 range) 24 (lt_of_le_of_lt log.low fits) in
    (omega arith, omega arith)
