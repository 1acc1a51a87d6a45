-- A loop that fills a list from the front with f of each place: one more store is one more entry.
-- Assumes nothing.
use Prim.Native.Nat.{ℕ, zero, suc, ◌+◌, ◌<◌}
use mathlib.Core.Path.{◌≡◌, refl, sym, ap, ◌∙◌}
use mathlib.Core.List.{List, [], ◌∷◌, ◌++◌}
use native.Mathlib.Nat.{add-zero, zero-add, add-suc, suc-add, le_of_eq}
use native.Mathlib.Numerals.{add-one}
use lib.ListN.{length, take, set}
use lib.Seq.{take-suc-set, take_all}
use Rattle.common.specs.Flat.{tabulate}

-- one place more
pub tabulate-more : (f : ℕ → ℕ) (i n : ℕ) → tabulate f i (suc n) ≡ tabulate f i n ++ (f (i + n) ∷ [])
unfolding tabulate
tabulate-more f i zero = rw add-zero refl
tabulate-more f i (suc n) = rw (tabulate-more f (suc i) n, suc-add, ← add-suc) refl

pub fill_none : (f : ℕ → ℕ) (l : List ℕ) → take 0 l ≡ tabulate f 0 0
unfolding tabulate
fill_none f l = refl

pub fill_one : (f : ℕ → ℕ) (l : List ℕ) (i : ℕ) → i < length l → take i l ≡ tabulate f 0 i → take (i + 1) (set l i (f i)) ≡ tabulate f 0 (i + 1)
fill_one f l i h e = rw (add-one, take-suc-set l i (f i) h, tabulate-more, zero-add, e) refl

-- past the end the list is whole
pub fill-all : (f : ℕ → ℕ) (l l₀ : List ℕ) (i : ℕ) → i ≡ length l → length l ≡ length l₀ → take i l ≡ tabulate f 0 i → l ≡ tabulate f 0 (length l₀)
fill-all f l l₀ i e s t = sym (take_all i l (le_of_eq (sym e))) ∙ t ∙ ap (tabulate f 0) (e ∙ s)
