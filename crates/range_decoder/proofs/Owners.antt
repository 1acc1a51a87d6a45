-- The cumulatives of a row that passes rise from 0 to 1,024, so the parts of its symbols lie one behind the other and fill what
-- is below 1024*r: every low there has one owner, and the definition's last symbol is that owner. Assumes nothing.
use Prim.Native.Nat.{ℕ, zero, suc, ◌+◌, ◌*◌, ◌≤◌, ◌<◌}
use mathlib.Core.Path.{◌≡◌, refl, sym, ◌∙◌}
use mathlib.Core.Bool.{Bool, true, false}
use mathlib.Core.List.{List}
use native.Mathlib.Omega.{arith}
use native.Mathlib.Nat.{mul-add, mul_comm, mul-le-mul_left}
use borrow.Author.Tests.{le-leb, lt-leb, ltb-true, ltb-false}
use lib.Dec.{leb, ltb}
use lib.ListN.{length, get_or}
use Rattle.common.specs.Tables.{row_passes, cumulative}
use Rattle.common.proofs.Cumulatives.{cumulative-start, cumulative-next, cumulative-order, cumulative-total, part-within}
use Rattle.common.proofs.Lasts.{last-is}
use Rattle.range_decoder.specs.Decoder.{owner}
use Rattle.range_decoder.specs.Theory.{Owns}

-- a symbol's part ends where the next one's begins
pub part_end : (r : ℕ) (row : List ℕ) (k : ℕ) → k < length row → r * cumulative row (k + 1) ≡ r * cumulative row k + r * get_or row k 0
part_end r row k h = rw (cumulative-next row k h, mul-add) refl

-- a symbol whose part begins at or below low owns it, or the next one's part begins there too
here-or-later : (r low : ℕ) (row : List ℕ) (k : ℕ) → k < length row → r * cumulative row k ≤ low → (r * cumulative row (k + 1) ≤ low → (j : ℕ) × Owns r low row j) → (b : Bool) → ltb low (r * cumulative row (k + 1)) ≡ b → (j : ℕ) × Owns r low row j
here-or-later r low row k there starts later true t =
    (k, record { there = there; starts = starts; ends = omega (arith, part_end r row k there, ltb-true low (r * cumulative row (k + 1)) t) })
here-or-later r low row k there starts later false t = later (ltb-false low (r * cumulative row (k + 1)) t)

module _ (row : List ℕ) (passed : row_passes row ≡ true) where
  -- what a symbol owns lies below the parts of all behind it
  below-later : (r low j k : ℕ) → Owns r low row k → k < j → j < length row → low < r * cumulative row j
  below-later r low j k o l h =
      let rises : cumulative row (k + 1) ≤ cumulative row j = cumulative-order row passed (k + 1) j (omega arith) (omega arith) in
      omega (arith, part_end r row k o.there, mul-le-mul_left r rises, o.ends)

  -- the owner is the last symbol whose part begins at or below low
  pub owns-owner : (r low k : ℕ) → Owns r low row k → owner r low row ≡ k
  unfolding owner
  owns-owner r low k o =
      last-is (λ j. leb (r * cumulative row j) low) (length row) k o.there (le-leb (r * cumulative row k) low o.starts)
      (λ j a b. lt-leb (r * cumulative row j) low (below-later r low j k o a b))

  -- at most one symbol owns low
  pub owns-unique : (r low j k : ℕ) → Owns r low row j → Owns r low row k → j ≡ k
  owns-unique r low j k p q = sym (owns-owner r low j p) ∙ owns-owner r low k q

  -- what a symbol owns is below 1024*r
  pub owns-limit : (r low k : ℕ) → Owns r low row k → low < 1024 * r
  owns-limit r low k o =
      omega (arith, part-within row passed r k o.there, o.ends)

  -- from a symbol whose part begins at or below low, with n symbols from there on: one of them owns it
  some-owns : (r low : ℕ) → low < 1024 * r → (n k : ℕ) → k + n ≡ length row → r * cumulative row k ≤ low → (j : ℕ) × Owns r low row j
  some-owns r low limit zero k e starts =
      let at : k ≡ length row = omega arith in
      let whole : r * cumulative row k ≡ 1024 * r = rw (at, cumulative-total row passed, mul_comm r 1024) refl in
      absurd (omega arith)
  some-owns r low limit (suc n) k e starts =
      here-or-later r low row k (omega arith) starts (some-owns r low limit n (k + 1) (omega arith)) (ltb low (r * cumulative row (k + 1))) refl

  -- below 1024*r the owner owns low: at least one symbol does
  pub owner_owns : (r low : ℕ) → low < 1024 * r → Owns r low row (owner r low row)
  owner_owns r low limit =
      let some = some-owns r low limit (length row) 0 (omega arith) (rw (cumulative-start row) (omega arith)) in
      rw (owns-owner r low some.0 some.1) some.1
