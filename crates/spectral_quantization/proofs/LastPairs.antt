-- Going back from the last pair, the first one that is not all zero is the last of all, and the first pair is taken in any case.
-- Assumes nothing.
use Prim.Native.Nat.{ℕ, zero, suc, ◌-◌, ◌≤◌, max}
use mathlib.Core.Path.{◌≡◌, refl}
use mathlib.Core.Bool.{true, false, not}
use mathlib.Core.List.{List}
use native.Mathlib.Omega.{arith}
use Rattle.common.proofs.Bools.{by-test}
use Rattle.spectral_quantization.specs.Estimate.{up_to_last, zero_at}

module _ (xs : List ℕ) where
  -- of the first n pairs, those up to the last that is not all zero, at least one
  abbrev pub coded_of : ℕ → ℕ
  coded_of n = max 1 (up_to_last (λ p. not (zero_at xs p)) n)

  pub pair_found : (n : ℕ) → 1 ≤ n → zero_at xs (n - 1) ≡ false → n ≡ coded_of n
  unfolding up_to_last
  pair_found zero h e = absurd (omega arith)
  pair_found (suc n) h e =
      let less : suc n - 1 ≡ n = omega arith in
      let there : zero_at xs n ≡ false = rw less at e in
      rw there (omega arith)

  pub pair-passed : (n : ℕ) → 1 ≤ n → zero_at xs (n - 1) ≡ true → coded_of (n - 1) ≡ coded_of n
  unfolding up_to_last
  pair-passed zero h e = absurd (omega arith)
  pair-passed (suc n) h e =
      let less : suc n - 1 ≡ n = omega arith in
      let there : zero_at xs n ≡ true = rw less at e in
      rw (there, less) refl

  -- of one pair it is the first, zero or not
  pub pair-first : coded_of 1 ≡ 1
  unfolding up_to_last
  pair-first = by-test (zero_at xs 0) (λ z. rw z refl) (λ z. rw z refl)
