-- Where a whole frame's refusals stand: "Refusals 9 to 11 while reading sit inside the step that met them", and any other in none.
use Rattle.std.specs.Prelude.{ℕ, ◌≤◌, ◌≡◌, Bool, true, false, ◌&&◌, ◌||◌, ◌⊎◌, leb, eqb}
use Rattle.common.specs.Reply.{Step, nowhere, side, start, order, coef, symbol, bit, Reply}

-- 9 stands in `bit` alone, 10 and 11 in `order`, `coef` or `symbol` alone; `side` and `start` do not occur; 19 stands in no step
abbrev pub stands_in : ℕ → Step → Bool
stands_in n nowhere = leb n 8 || eqb n 12 || eqb n 19
stands_in n side = false
stands_in n start = false
stands_in n (order f) = leb 10 n && leb n 11
stands_in n (coef f k) = leb 10 n && leb n 11
stands_in n (symbol p level) = leb 10 n && leb n 11
stands_in n (bit p level) = eqb n 9

-- 1 to 12; in the standard reading also 19
pub record InFrame (reading : ℕ) (r : Reply) : Type 0 where
  pub least : 1 ≤ r.number
  pub most : (r.number ≤ 12) ⊎ ((reading ≡ 1) × (r.number ≡ 19))
  pub place : stands_in r.number r.step ≡ true
