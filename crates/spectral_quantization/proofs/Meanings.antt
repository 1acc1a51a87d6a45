-- What the numbers of the estimate mean: the ceiling is the least whole number of bits, the pairs behind lastnz are all zero, the lines
-- kept are no more than the coded ones and cost no more than the target, and the sum stays below a limit. Assumes nothing.
use Prim.Native.Nat.{ℕ, zero, suc, ◌+◌, ◌*◌, ◌/◌, ◌≤◌, ◌<◌}
use mathlib.Core.Path.{◌≡◌}
use mathlib.Core.Bool.{Bool, true, false, not, ◌&&◌}
use mathlib.Core.List.{List}
use mathlib.Core.Logic.{⊎_elim}
use native.Mathlib.Omega.{arith}
use native.Mathlib.Nat.{eq-or-lt_of_le, mul-suc}
use borrow.Author.Tests.{leb-true, not-false}
use lib.Dec.{leb, eqb}
use lib.ListN.{length, get_or}
use Rattle.common.proofs.Bools.{and_right, by-test}
use Rattle.contexts.specs.Contexts.{lookup_start, row_of, escapes, escape_symbol, pair_symbol}
use Rattle.contexts.proofs.Escapes.{escapes-law}
use Rattle.spectral_quantization.specs.Estimate.{whole_bits, sum_below, up_to_last, tail_cost, sign_cost, symbol_cost, pair_cost, first, second, zero_at, pairs_of, context_at, cost_of, kept, consumption}

-- so many whole bits hold the sum, and no fewer do
pub ceiling-holds : (sum : ℕ) → sum ≤ 2048 * whole_bits sum
ceiling-holds sum = omega arith

pub ceiling-least : (sum n : ℕ) → sum ≤ 2048 * n → whole_bits sum ≤ n
ceiling-least sum n h = omega arith

module _ (holds : ℕ → Bool) where
  -- the last place at which a test holds is among those asked for, it holds there, and at no place behind
  last-most : (n : ℕ) → up_to_last holds n ≤ n
  unfolding up_to_last
  last-most zero = omega arith
  last-most (suc n) = by-test (holds n) (λ t. rw t (omega arith)) (λ t. rw t (omega (arith, last-most n)))

  last-here : (P : ℕ → Type 0) → P 0 → ((p : ℕ) → holds p ≡ true → P (suc p)) → (n : ℕ) → P (up_to_last holds n)
  unfolding up_to_last
  last-here P none some zero = none
  last-here P none some (suc n) = by-test (holds n) (λ t. rw t (some n t)) (λ t. rw t (last-here P none some n))

  last-after : (n p : ℕ) → up_to_last holds n ≤ p → p < n → holds p ≡ false
  unfolding up_to_last
  last-after zero p l h = absurd (omega arith)
  last-after (suc n) p l h =
      let most : p ≤ n = omega arith in
      by-test (holds n)
      (λ t. let past : suc n ≤ p = rw t at l in absurd (omega arith))
      (λ t. ⊎_elim (λ same. rw same t) (λ less. last-after n p (rw t at l) less) (eq-or-lt_of_le most))

-- from lastnz on every pair is all zero
pub zeros-behind : (xs : List ℕ) (p : ℕ) → pairs_of xs ≤ p → p < length xs / 2 → zero_at xs p ≡ true
zeros-behind xs p l h = not-false (zero_at xs p) (last-after (λ p. not (zero_at xs p)) (length xs / 2) p (omega arith) h)

module _ (xs lookup bits : List ℕ) (ne rate : ℕ) (mode : Bool) (target : ℕ) where
  -- lastnz_trunc is at most lastnz
  pub truncated-within : (consumption xs lookup bits ne rate mode target).lastnz_trunc ≤ (consumption xs lookup bits ne rate mode target).lastnz
  truncated-within = omega (arith, last-most (kept xs lookup bits ne rate mode target) (pairs_of xs))

  -- nbits_trunc is at most the target
  pub truncated-fits : (consumption xs lookup bits ne rate mode target).nbits_trunc ≤ target
  unfolding sum_below
  truncated-fits =
      last-here (kept xs lookup bits ne rate mode target) (λ n. whole_bits (cost_of xs lookup bits ne rate mode n) ≤ target) (omega arith)
      (λ p t. leb-true (whole_bits (cost_of xs lookup bits ne rate mode (suc p))) target (and_right (not (zero_at xs p)) (leb (whole_bits (cost_of xs lookup bits ne rate mode (suc p))) target) t))
      (pairs_of xs)

-- ---- what a pair adds: 15 entries, 14 pairs of tail bits and two signs at most, so 200 pairs stay within 32 bits

sum-most : (number : ℕ → ℕ) (most : ℕ) → ((k : ℕ) → number k ≤ most) → (n : ℕ) → sum_below number n ≤ most * n
unfolding sum_below
sum-most number most each zero = omega arith
sum-most number most each (suc n) = rw mul-suc (omega (arith, each n, sum-most number most each n))

tail-most : (mode : Bool) (level : ℕ) → tail_cost mode level ≤ 4096
tail-most mode level = by-test (mode && eqb level 0) (λ t. rw t (omega arith)) (λ t. rw t (omega arith))

sign-most : (a : ℕ) → sign_cost a ≤ 2048
sign-most a = by-test (eqb a 0) (λ t. rw t (omega arith)) (λ t. rw t (omega arith))

module _ (lookup bits : List ℕ) (entries : (k : ℕ) → get_or bits k 0 ≤ 65535) where
  pair-most : (mode : Bool) (t a b : ℕ) → a < 65536 → b < 65536 → pair_cost lookup bits mode t a b ≤ 1044465
  unfolding pair_cost
  pair-most mode t a b p q =
      let escaped = sum-most (λ level. symbol_cost lookup bits t level escape_symbol + tail_cost mode level) 69631 (λ level. omega (arith, entries (17 * row_of lookup t level + escape_symbol), tail-most mode level)) (escapes a b) in
      omega (arith, escaped, (escapes-law a b p q).most, entries (17 * row_of lookup t (escapes a b) + pair_symbol a b), sign-most a, sign-most b)

  pub cost-bounded : (xs : List ℕ) → ((k : ℕ) → get_or xs k 0 < 65536) → (ne rate : ℕ) (mode : Bool) (n : ℕ) → cost_of xs lookup bits ne rate mode n ≤ 1044465 * n
  cost-bounded xs small ne rate mode n =
      sum-most (λ p. pair_cost lookup bits mode (lookup_start (context_at xs p) rate ne (2 * p)) (first xs p) (second xs p)) 1044465 (λ p. pair-most mode (lookup_start (context_at xs p) rate ne (2 * p)) (first xs p) (second xs p) (small (2 * p)) (small (2 * p + 1))) n
