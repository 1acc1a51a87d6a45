-- One turn of each check of the table set: what is left to judge at a place, by the entry there and what is left behind it.
-- Assumes nothing.
use Prim.Native.Nat.{ℕ, zero, suc, ◌+◌, ◌-◌, ◌*◌, ◌≤◌, ◌<◌}
use mathlib.Core.Path.{◌≡◌, refl, sym, ap}
use mathlib.Core.Bool.{Bool, true, false, ◌&&◌}
use mathlib.Core.List.{List, [], ◌∷◌}
use native.Mathlib.Omega.{arith}
use native.Mathlib.Numerals.{add-one}
use native.Mathlib.Nat.{zero-add, add-zero, add_assoc, suc-mul, mul-le-mul_right, add-sub_cancel_left}
use borrow.Author.Tests.{eq-eqb, ne_eqb, lt-leb, le-leb, leb-true}
use lib.Dec.{leb, eqb}
use lib.ListN.{length, get_or, take, drop, drop_of_length-le}
use lib.Seq.{drop-cons, drop-drop}
use Rattle.common.specs.Tables.{total, all_at_least, all_at_most, row_passes, rows_pass, lookup_passes, part_passes}
use Rattle.common.proofs.Bools.{and_left, and_right, and_both, and_assoc, and-false}

-- what is left to judge of a row when its first entries total t
abbrev pub row_from : ℕ → List ℕ → Bool
row_from t xs = all_at_least 1 xs && eqb (t + total xs) 1024

pub row-start : (xs : List ℕ) → row_from 0 xs ≡ row_passes xs
row-start xs = rw zero-add refl

-- past the last entry
pub row-end : (t i : ℕ) (row : List ℕ) → length row ≤ i → row_from t (drop i row) ≡ eqb t 1024
unfolding total all_at_least
row-end t i row h = rw (drop_of_length-le row h, add-zero) refl

module _ (t i : ℕ) (row : List ℕ) (h : i < length row) where
  -- one turn: the entry at i, and what is left behind it
  row-turn : row_from t (drop i row) ≡ (leb 1 (get_or row i 0) && row_from (t + get_or row i 0) (drop (i + 1) row))
  unfolding total all_at_least
  row-turn = rw (drop-cons row i 0 h, add-one, and_assoc, add_assoc) refl

  pub row_zero : get_or row i 0 ≡ 0 → row_from t (drop i row) ≡ false
  row_zero e = rw (row-turn, e) refl

  pub row_next : (get_or row i 0 ≡ 0 → ⊥) → row_from t (drop i row) ≡ row_from (t + get_or row i 0) (drop (i + 1) row)
  row_next e = rw (row-turn, le-leb 1 (get_or row i 0) (omega (arith, e))) refl

  -- an entry that passes what is left of 1,024: no entry behind it can bring the total back
  pub row-over : 1024 < t + get_or row i 0 → row_from t (drop i row) ≡ false
  unfolding total
  row-over e =
      let big : eqb (t + get_or row i 0 + total (drop (i + 1) row)) 1024 ≡ false = ne_eqb (t + get_or row i 0 + total (drop (i + 1) row)) 1024 (λ q. omega arith) in
      rw (row-turn, big, and-false, and-false) refl

module _ (m i : ℕ) (xs : List ℕ) (h : i < length xs) where
  most-turn : all_at_most m (drop i xs) ≡ (leb (get_or xs i 0) m && all_at_most m (drop (i + 1) xs))
  unfolding all_at_most
  most-turn = rw (drop-cons xs i 0 h, add-one) refl

  pub most-over : m < get_or xs i 0 → all_at_most m (drop i xs) ≡ false
  most-over e = rw (most-turn, lt-leb (get_or xs i 0) m e) refl

  pub most-next : get_or xs i 0 ≤ m → all_at_most m (drop i xs) ≡ all_at_most m (drop (i + 1) xs)
  most-next e = rw (most-turn, le-leb (get_or xs i 0) m e) refl

pub most-end : (m i : ℕ) (xs : List ℕ) → length xs ≤ i → all_at_most m (drop i xs) ≡ true
unfolding all_at_most
most-end m i xs h = rw (drop_of_length-le xs h) refl

pub at_most : (m : ℕ) (xs : List ℕ) (k : ℕ) → all_at_most m xs ≡ true → get_or xs k 0 ≤ m
unfolding all_at_most
at_most m [] k e = omega arith
at_most m (x ∷ xs) zero e = leb-true x m (and_left (leb x m) (all_at_most m xs) e)
at_most m (x ∷ xs) (suc k) e = at_most m xs k (and_right (leb x m) (all_at_most m xs) e)

most_all : (m : ℕ) (xs : List ℕ) → ((k : ℕ) → k < length xs → get_or xs k 0 ≤ m) → all_at_most m xs ≡ true
unfolding all_at_most
most_all m [] h = refl
most_all m (x ∷ xs) h = and_both (leb x m) (all_at_most m xs) (le-leb x m (h 0 (omega arith))) (most_all m xs (λ k p. h (suc k) (omega arith)))

-- a test that holds exactly where each entry is at most m
pub most-judged : (m : ℕ) (xs : List ℕ) (b : Bool) → (b ≡ true → (k : ℕ) → k < length xs → get_or xs k 0 ≤ m) → (((k : ℕ) → k < length xs → get_or xs k 0 ≤ m) → b ≡ true) → b ≡ all_at_most m xs
most-judged m xs true each all = sym (most_all m xs (each refl))
most-judged m xs false each all = go (all_at_most m xs) refl
  where
    go : (c : Bool) → all_at_most m xs ≡ c → false ≡ c
    go true e = all (λ k h. at_most m xs k e)
    go false e = refl

rows-turn : (left width : ℕ) (xs : List ℕ) → 0 < left → rows_pass left width xs ≡ (row_passes (take width xs) && rows_pass (left - 1) width (drop width xs))
unfolding rows_pass
rows-turn zero width xs h = absurd (omega arith)
rows-turn (suc n) width xs h = let e : suc n - 1 ≡ n = omega arith in rw e refl

-- the slice of the next row, as the code cuts it
pub next_row : (at width : ℕ) (xs : List ℕ) → take (at + width - at) (drop at xs) ≡ take width (drop at xs)
next_row at width xs = ap (λ n. take n (drop at xs)) (add-sub_cancel_left at width)

module _ (left width at : ℕ) (xs : List ℕ) (h : 0 < left) (passed : Bool) (judged : passed ≡ row_passes (take (at + width - at) (drop at xs))) where
  pub rows-stop : passed ≡ false → rows_pass left width (drop at xs) ≡ false
  rows-stop e = rw (rows-turn left width (drop at xs) h, ← next_row at width xs, ← judged, e) refl

  pub rows_next : passed ≡ true → rows_pass left width (drop at xs) ≡ rows_pass (left - 1) width (drop (at + width) xs)
  rows_next e = rw (rows-turn left width (drop at xs) h, ← next_row at width xs, ← judged, e, drop-drop) refl

pub rows_end : (left width : ℕ) (xs : List ℕ) → left ≤ 0 → rows_pass left width xs ≡ true
unfolding rows_pass
rows_end left width xs h = let e : left ≡ 0 = omega arith in rw e refl

-- so many rows are one row and the rest
pub rows-size : (left width : ℕ) → 0 < left → left * width ≡ (left - 1) * width + width
rows-size zero width h = absurd (omega arith)
rows-size (suc n) width h = let e : suc n - 1 ≡ n = omega arith in rw (e, suc-mul) refl

-- where row k + 1 begins, and that row k of so many ends within them
next-place : (k width : ℕ) → (k + 1) * width ≡ k * width + width
next-place k width = rw (add-one, suc-mul) refl

pub row_fits : (k rows width : ℕ) → k < rows → k * width + width ≤ rows * width
row_fits k rows width h = rw (← next-place k width) (mul-le-mul_right width (omega arith))

-- row k, with the rows behind it
module _ (k rows width : ℕ) (xs : List ℕ) (h : k < rows) (passed : Bool) (judged : passed ≡ row_passes (take (k * width + width - k * width) (drop (k * width) xs))) where
  pub row-stops : passed ≡ false → rows_pass (rows - k) width (drop (k * width) xs) ≡ false
  row-stops e = rows-stop (rows - k) width (k * width) xs (omega arith) passed judged e

  pub row-goes_on : passed ≡ true → rows_pass (rows - k) width (drop (k * width) xs) ≡ rows_pass (rows - (k + 1)) width (drop ((k + 1) * width) xs)
  row-goes_on e =
      let one : rows - (k + 1) ≡ rows - k - 1 = omega arith in
      rw (one, next-place k width) (rows_next (rows - k) width (k * width) xs (omega arith) passed judged e)

-- the parts of the set, once their sizes are judged
pub lookup-sized : (xs : List ℕ) → length xs ≡ 4096 → lookup_passes xs ≡ all_at_most 63 xs
lookup-sized xs e = rw (eq-eqb (length xs) 4096 e) refl

pub part-sized : (rows width : ℕ) (xs : List ℕ) → length xs ≡ rows * width → part_passes rows width xs ≡ rows_pass rows width xs
part-sized rows width xs e = rw (eq-eqb (length xs) (rows * width) e) refl

pub part-unsized : (rows width : ℕ) (xs : List ℕ) → (length xs ≡ rows * width → ⊥) → part_passes rows width xs ≡ false
part-unsized rows width xs e = rw (ne_eqb (length xs) (rows * width) e) refl
