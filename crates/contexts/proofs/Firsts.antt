-- The first place at which a test holds is the one place at which it holds and before which it does not.
-- Assumes nothing.
use Prim.Native.Nat.{ℕ, zero, suc, ◌+◌, ◌≤◌, ◌<◌}
use mathlib.Core.Path.{◌≡◌}
use mathlib.Core.Bool.{Bool, true, false}
use mathlib.Core.Logic.{⊎_elim}
use native.Mathlib.Omega.{arith}
use native.Mathlib.Nat.{eq-or-lt_of_le, suc-add, add-suc, add-zero}
use Rattle.common.proofs.Bools.{by-test}
use Rattle.contexts.specs.First.{first_from}

module _ (holds : ℕ → Bool) where
  -- it holds at j and at no place before, so j is the first
  pub first-is : (k n j : ℕ) → k ≤ j → j ≤ k + n → holds j ≡ true → ((i : ℕ) → i < j → holds i ≡ false) → first_from holds k n ≡ j
  unfolding first_from
  first-is k zero j l m e before = omega arith
  first-is k (suc n) j l m e before =
      ⊎_elim
      (λ same. let here : holds k ≡ true = rw same e in rw here same)
      (λ less. rw (before k less) (first-is (suc k) n j less (omega arith) e before))
      (eq-or-lt_of_le l)

  -- what it is: where the test holds at the end, it holds at the first place, and at none before
  pub record First (k n j : ℕ) : Type 0 where
    pub least : k ≤ j
    pub most : j ≤ k + n
    pub here : holds j ≡ true
    pub before : (i : ℕ) → k ≤ i → i < j → holds i ≡ false

  later : (k n j : ℕ) → holds k ≡ false → First (suc k) n j → First k (suc n) j
  later k n j e f =
      record {
        least = omega (arith, f.least);
        most = omega (arith, f.most);
        here = f.here;
        before = λ i a b. ⊎_elim (λ same. rw (← same) e) (λ less. f.before i less b) (eq-or-lt_of_le a);
      }

  pub first-law : (k n : ℕ) → holds (k + n) ≡ true → First k n (first_from holds k n)
  unfolding first_from
  first-law k zero e =
      record { least = omega arith; most = omega arith; here = rw add-zero at e; before = λ i a b. absurd (omega arith) }
  first-law k (suc n) e =
      by-test (holds k)
      (λ here. rw here (record { least = omega arith; most = omega arith; here = here; before = λ i a b. absurd (omega arith) }))
      (λ fails. rw fails (later k n (first_from holds (suc k) n) fails (first-law (suc k) n (rw (add-suc, ← suc-add) at e))))

  -- it is never past the place behind them
  pub first-most : (k n : ℕ) → first_from holds k n ≤ k + n
  unfolding first_from
  first-most k zero = omega arith
  first-most k (suc n) = by-test (holds k) (λ e. rw e (omega arith)) (λ e. rw e (omega (arith, first-most (suc k) n)))
