-- Refusal 14: one turn of the search for the first line that fails, and what it says of all lines where none does. Assumes nothing.
use Prim.Native.Nat.{ℕ, zero, suc, ◌+◌, ◌-◌, ◌≤◌, ◌<◌}
use mathlib.Core.Path.{◌≡◌, refl, sym, ap, ◌∙◌}
use mathlib.Core.Bool.{Bool, true, false, ◌&&◌, ◌||◌}
use mathlib.Core.List.{List}
use mathlib.Core.Logic.{⊎_elim}
use native.Mathlib.Omega.{arith}
use native.Mathlib.Decide.{dec_lt}
use native.Mathlib.Nat.{eq-or-lt_of_le}
use native.Mathlib.Numerals.{add-one}
use borrow.Author.Tests.{le-leb, ltb-false}
use lib.Dec.{ltb, leb}
use lib.IntN.{ℤ, pos}
use lib.ListN.{length, get_or-eq_default}
use Rattle.common.proofs.Bools.{by-test, or-fails-second, and-first-holds}
use Rattle.contexts.specs.First.{first_from}
use Rattle.contexts.specs.Lines.{magnitude_at}
use Rattle.frame_writer.specs.Private.{fails_at}

module _ (holds : ℕ → Bool) (n k : ℕ) (l : k < n) where
  pub first-here : holds k ≡ true → first_from holds k (n - k) ≡ k
  unfolding first_from
  first-here e = let size : n - k ≡ suc (n - (k + 1)) = omega arith in rw (size, e) refl

  pub first-later : holds k ≡ false → first_from holds k (n - k) ≡ first_from holds (k + 1) (n - (k + 1))
  unfolding first_from
  first-later e = let size : n - k ≡ suc (n - (k + 1)) = omega arith in rw (size, e, add-one) refl

pub first-end : (holds : ℕ → Bool) (n k : ℕ) → n ≤ k → first_from holds k (n - k) ≡ k
unfolding first_from
first-end holds n k l = let size : n - k ≡ 0 = omega arith in rw size refl

-- a test that holds nowhere has its first place behind all
pub first-behind : (holds : ℕ → Bool) (k n : ℕ) → ((i : ℕ) → k ≤ i → i < k + n → holds i ≡ false) → first_from holds k n ≡ k + n
unfolding first_from
first-behind holds k zero h = omega arith
first-behind holds k (suc n) h =
    rw (h k (omega arith) (omega arith)) (first-behind holds (suc k) n (λ i a b. h i (omega arith) (omega arith)) ∙ omega arith)

-- where it is the place behind all, it holds at none
pub first-none : (holds : ℕ → Bool) (k n : ℕ) → k + n ≤ first_from holds k n → (i : ℕ) → k ≤ i → i < k + n → holds i ≡ false
unfolding first_from
first-none holds k zero e i a b = absurd (omega arith)
first-none holds k (suc n) e i a b =
    by-test (holds k)
    (λ here. let m : k + suc n ≤ k = rw here at e in absurd (omega arith))
    (λ fails. let later : k + suc n ≤ first_from holds (suc k) n = rw fails at e in
    ⊎_elim
    (λ same. rw (← same) fails)
    (λ less. first-none holds (suc k) n (omega (arith, later)) i less (omega (arith, b)))
    (eq-or-lt_of_le a))

-- the test of a line by the numbers that the code has
pub fails-told : (lines : List ℤ) (lastnz k m : ℕ) (r : Bool) → m ≡ magnitude_at lines k → r ≡ (ltb 32767 m || leb lastnz k && ltb 0 m) → fails_at lines lastnz k ≡ r
fails-told lines lastnz k m r value judged =
    sym (judged ∙ ap (λ (x : ℕ). ltb 32767 x || leb lastnz k && ltb 0 x) value)

-- a line that does not fail is within 32,767
pub kept-most : (lines : List ℤ) (lastnz k : ℕ) → fails_at lines lastnz k ≡ false → magnitude_at lines k ≤ 32767
kept-most lines lastnz k e =
    by-test (ltb 32767 (magnitude_at lines k))
    (λ t. let z : true ≡ false = rw t at e in let w : ◌≡◌ {A = ℕ} 0 1 = cc in absurd (omega arith))
    (λ t. ltb-false 32767 (magnitude_at lines k) t)

-- and it is 0 from lastnz on
pub kept-zero : (lines : List ℤ) (lastnz k : ℕ) → fails_at lines lastnz k ≡ false → lastnz ≤ k → magnitude_at lines k ≡ 0
kept-zero lines lastnz k e l =
    let second = or-fails-second (ltb 32767 (magnitude_at lines k)) (leb lastnz k && ltb 0 (magnitude_at lines k)) e in
    let none : ltb 0 (magnitude_at lines k) ≡ false = sym (and-first-holds (ltb 0 (magnitude_at lines k)) (le-leb lastnz k l)) ∙ second in
    omega (arith, ltb-false 0 (magnitude_at lines k) none)

-- so are all, where none fails; past the last line there are zeros
pub all-modest : (lines : List ℤ) (lastnz : ℕ) → length lines ≤ first_from (fails_at lines lastnz) 0 (length lines) → (k : ℕ) → magnitude_at lines k ≤ 32767
all-modest lines lastnz e k = go (dec_lt k (length lines))
  where
    go : Dec (k < length lines) → magnitude_at lines k ≤ 32767
    go (yes l) = kept-most lines lastnz k (first-none (fails_at lines lastnz) 0 (length lines) (omega (arith, e)) k (omega arith) (omega (arith, l)))
    go (no l) = rw (get_or-eq_default lines (pos 0) {n = k} (omega (arith, l))) (omega arith)
