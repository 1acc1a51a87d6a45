-- The laws of a row's cumulatives: each entry adds itself, they rise in a row that passes, and end at 1,024, so each symbol has a
-- share of the 1,024 and of any range. And of the rows of a part that passes: each of them passes. Assumes nothing.
use Prim.Native.Nat.{ℕ, zero, suc, ◌+◌, ◌-◌, ◌*◌, ◌≤◌, ◌<◌}
use mathlib.Core.Path.{◌≡◌, refl, ap, ◌∙◌}
use mathlib.Core.Bool.{true}
use mathlib.Core.List.{List, [], ◌∷◌, ◌++◌}
use native.Mathlib.Omega.{arith}
use native.Mathlib.Numerals.{add-one}
use mathlib.Core.Logic.{⊎_elim}
use native.Mathlib.Nat.{zero-add, add-zero, add_assoc, zero-mul, suc-mul, add_comm, mul-add, mul_comm, mul-le-mul_left, le_of_eq, le_of_lt, eq-or-lt_of_le}
use borrow.Author.Tests.{eqb-true, leb-true}
use lib.Dec.{leb, eqb}
use lib.ListN.{length, get_or, take, drop}
use lib.Seq.{take-suc, take_all, drop-drop}
use Rattle.common.specs.Tables.{total, all_at_least, row_passes, rows_pass, cumulative, row_at}
use Rattle.common.proofs.Bools.{and_left, and_right}

pub total-append : (xs ys : List ℕ) → total (xs ++ ys) ≡ total xs + total ys
unfolding total
total-append [] ys = rw zero-add refl
total-append (x ∷ xs) ys = rw (total-append xs ys, add_assoc) refl

pub cumulative-start : (row : List ℕ) → cumulative row 0 ≡ 0
unfolding total
cumulative-start row = refl

-- the next cumulative is this one and the entry
pub cumulative-next : (row : List ℕ) (k : ℕ) → k < length row → cumulative row (k + 1) ≡ cumulative row k + get_or row k 0
unfolding total
cumulative-next row k h = rw (add-one, take-suc row k 0 h, total-append, add-zero) refl

pub cumulative-end : (row : List ℕ) (k : ℕ) → length row ≤ k → cumulative row k ≡ total row
cumulative-end row k h = ap total (take_all k row h)

at_least : (m : ℕ) (xs : List ℕ) (k : ℕ) → all_at_least m xs ≡ true → k < length xs → m ≤ get_or xs k 0
unfolding all_at_least
at_least m [] k e h = absurd (omega arith)
at_least m (x ∷ xs) zero e h = leb-true m x (and_left (leb m x) (all_at_least m xs) e)
at_least m (x ∷ xs) (suc k) e h = at_least m xs k (and_right (leb m x) (all_at_least m xs) e) (omega arith)

filled : (xs : List ℕ) → total xs ≡ 1024 → 0 < length xs
unfolding total
filled [] e = absurd (omega arith)
filled (x ∷ xs) e = omega arith

-- a cumulative and a frequency that a row which passes may give
pub record Shares (cum freq : ℕ) : Type 0 where
  pub some : 1 ≤ freq
  pub most : cum + freq ≤ 1024

-- of a range that has 1,024 parts of r: no symbol's part ends above them
pub share-within : (r cum freq : ℕ) → cum + freq ≤ 1024 → r * cum + r * freq ≤ 1024 * r
share-within r cum freq most =
    let all : r * (cum + freq) ≤ r * 1024 = mul-le-mul_left r most in
    let parts : r * cum + r * freq ≤ r * 1024 = rw mul-add at all in
    omega (arith, mul_comm r 1024)

module _ (row : List ℕ) (passed : row_passes row ≡ true) where
  pub frequency-positive : (k : ℕ) → k < length row → 1 ≤ get_or row k 0
  frequency-positive k h = at_least 1 row k (and_left (all_at_least 1 row) (eqb (total row) 1024) passed) h

  pub row-total : total row ≡ 1024
  row-total = eqb-true (total row) 1024 (and_right (all_at_least 1 row) (eqb (total row) 1024) passed)

  pub cumulative-total : cumulative row (length row) ≡ 1024
  cumulative-total = cumulative-end row (length row) (omega arith) ∙ row-total

  -- n places on the cumulative is larger by n at least
  rising : (k n : ℕ) → k + n ≤ length row → cumulative row k + n ≤ cumulative row (k + n)
  rising k zero h = rw (add-zero k) (omega arith)
  rising k (suc n) h =
      let e : k + suc n ≡ k + n + 1 = omega arith in
      let more : 1 ≤ get_or row (k + n) 0 = frequency-positive (k + n) (omega arith) in
      let step : cumulative row k + n ≤ cumulative row (k + n) = rising k n (omega arith) in
      rw (e, cumulative-next row (k + n) (omega arith)) (omega arith)

  pub cumulative-rises : (j k : ℕ) → j < k → k ≤ length row → cumulative row j < cumulative row k
  cumulative-rises j k l h =
      let e : j + (k - j) ≡ k = omega arith in
      let u : cumulative row j + (k - j) ≤ cumulative row (j + (k - j)) = rising j (k - j) (omega arith) in
      let v : cumulative row j + (k - j) ≤ cumulative row k = rw e at u in
      omega arith

  -- and do not fall
  pub cumulative-order : (j k : ℕ) → j ≤ k → k ≤ length row → cumulative row j ≤ cumulative row k
  cumulative-order j k l h = ⊎_elim (λ e. le_of_eq (ap (cumulative row) e)) (λ less. le_of_lt (cumulative-rises j k less h)) (eq-or-lt_of_le l)

  pub cumulative-bound : (k : ℕ) → k ≤ length row → cumulative row k ≤ 1024
  cumulative-bound k h =
      let u : cumulative row k + (length row - k) ≤ cumulative row (k + (length row - k)) = rising k (length row - k) (omega arith) in
      let e : k + (length row - k) ≡ length row = omega arith in
      let v : cumulative row k + (length row - k) ≤ cumulative row (length row) = rw e at u in
      omega (arith, cumulative-total)

  -- with a frequency of at least 1 to each, it has at most 1,024 symbols
  pub row-short : length row ≤ 1024
  row-short =
      let u : cumulative row 0 + length row ≤ cumulative row (0 + length row) = rising 0 (length row) (omega arith) in
      let v : cumulative row 0 + length row ≤ cumulative row (length row) = rw zero-add at u in
      omega (arith, cumulative-total)

  -- each symbol has a share of the 1,024
  pub row-shares : (k : ℕ) → k < length row → Shares (cumulative row k) (get_or row k 0)
  row-shares k there =
      record {
        some = frequency-positive k there;
        most = rw (← cumulative-next row k there) (cumulative-bound (k + 1) (omega arith));
      }

  -- and so of a range
  pub part-within : (r k : ℕ) → k < length row → r * cumulative row k + r * get_or row k 0 ≤ 1024 * r
  part-within r k there = share-within r (cumulative row k) (get_or row k 0) (row-shares k there).most

  -- a row that passes is not empty
  pub row-filled : 0 < length row
  row-filled = filled row row-total

-- the r-th of the rows of a part that passes
pub row-passed : (rows width r : ℕ) (xs : List ℕ) → rows_pass rows width xs ≡ true → r < rows → row_passes (row_at width r xs) ≡ true
unfolding rows_pass
row-passed zero width r xs e h = absurd (omega arith)
row-passed (suc n) width zero xs e h =
    rw zero-mul (and_left (row_passes (take width xs)) (rows_pass n width (drop width xs)) e)
row-passed (suc n) width (suc r) xs e h =
    let ih : row_passes (take width (drop (r * width) (drop width xs))) ≡ true = row-passed n width r (drop width xs) (and_right (row_passes (take width xs)) (rows_pass n width (drop width xs)) e) (omega arith) in
    let at : suc r * width ≡ width + r * width = suc-mul r width ∙ add_comm (r * width) width in
    rw (at, ← drop-drop) ih
