-- When one symbol is left of a search it is the owner, its part is from where it begins to where the next one does, and of 17 symbols
-- at most five products were made. Assumes nothing.
use Prim.Native.Nat.{ℕ, ◌+◌, ◌-◌, ◌*◌, ◌^◌, ◌≤◌, ◌<◌}
use mathlib.Core.Path.{◌≡◌, refl, ap, ◌∙◌}
use mathlib.Core.Bool.{true}
use mathlib.Core.List.{List}
use native.Mathlib.Omega.{arith}
use lib.ListN.{length, get_or, take, drop}
use Rattle.std.proofs.lemmas.List.{length-take, get_or-take, get_or-drop}
use Rattle.common.specs.Tables.{row_passes, cumulative}
use Rattle.common.proofs.Cumulatives.{cumulative-next, cumulative-bound}
use Rattle.common.proofs.Halves.{Among}
use Rattle.range_decoder.specs.Decoder.{owner}
use Rattle.range_decoder.proofs.Owners.{part_end, owns-owner}

-- a row of 17 symbols takes five products at most
pub five-of-17 : (row : List ℕ) (products : ℕ) → length row ≡ 17 → ((k : ℕ) → length row ≤ 2 ^ k → products ≤ k) → products ≤ 5
five-of-17 row products e most = most 5 (omega arith)

-- frequencies added: one brings a cumulative to the next, and so many behind so many to the one behind both
pub sum_one : (row : List ℕ) (at x : ℕ) → at < length row → x ≡ get_or row at 0 → cumulative row at + x ≡ cumulative row (at + 1)
sum_one row at x there e = rw (cumulative-next row at there, e) refl

pub sum-join : (row : List ℕ) (at m n x y : ℕ) → cumulative row at + x ≡ cumulative row (at + m) → cumulative row (at + m) + y ≡ cumulative row (at + m + n) → cumulative row at + (x + y) ≡ cumulative row (at + (m + n))
sum-join row at m n x y first second =
    let same : at + (m + n) ≡ at + m + n = omega arith in
    rw same (omega arith)

-- and they are no more than the whole
pub sum-most : (row : List ℕ) (at n x : ℕ) → row_passes row ≡ true → at + n ≤ length row → cumulative row at + x ≡ cumulative row (at + n) → x ≤ 1024
sum-most row at n x passed within e = omega (arith, cumulative-bound row passed (at + n) within)

-- a place of a part of a row, by its place in the row
pub part_place : (row : List ℕ) (at n k : ℕ) → k < length (take (at + n - at) (drop at row)) → k < n
part_place row at n k l = omega (arith, length-take (at + n - at) (drop at row))

pub part_at : (row : List ℕ) (at n k x : ℕ) → k < n → x ≡ get_or (take (at + n - at) (drop at row)) k 0 → x ≡ get_or row (at + k) 0
part_at row at n k x l e = e ∙ get_or-take (at + n - at) (drop at row) k 0 (omega arith) ∙ get_or-drop at row k 0

-- one symbol is left
module _ (row : List ℕ) (passed : row_passes row ≡ true) (r low symbol left sum base end products : ℕ) (a : Among row r low symbol left sum base end products) (one : left ≡ 1) where
  there : symbol < length row
  there = omega (arith, a.there)

  begin : base ≡ r * cumulative row symbol
  begin = a.base-is ∙ ap (λ (n : ℕ). r * n) a.sum_is

  ending : end ≡ r * cumulative row symbol + r * get_or row symbol 0
  ending =
      let place : a.place ≡ symbol + 1 = omega (arith, a.later, a.near) in
      rw (← part_end r row symbol there, ← place) a.end_is

  pub last_found : (symbol ≡ owner r low row) × (base ≡ r * cumulative row symbol) × (end - base ≡ r * get_or row symbol 0)
  last_found =
      let o = owns-owner row passed r low symbol (record { there = there; starts = omega (arith, begin, a.starts); ends = omega (arith, ending, a.ends) }) in
      (rw o refl, begin, omega (arith, begin, ending))

  -- as many products were counted as the row's length needs, but for its last symbol
  pub last-counted : (1 < length row → 1 ≤ products) × (symbol + 1 < length row → length row ≤ 2 ^ products)
  last-counted =
      (λ more. a.some (omega arith), λ behind. let whole : length row ≤ 1 * 2 ^ products = rw one at (a.needed behind) in omega arith)
