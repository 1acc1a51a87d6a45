-- Document 01, "The coder": the TNS data, read. "TNS weighting row: N < 480 (10 ms), N < 360 (7.5 ms)."
use Rattle.std.specs.Prelude.{ℕ, zero, suc, ◌+◌, cond, List, [], ◌∷◌, ◌++◌, ltb, eqb, take, replicate}
use Rattle.common.specs.Reply.{order, coef}
use Rattle.common.specs.Tables.{row_at}
use Rattle.coding.specs.Coding.{Coding, done, onward, met, symbol_by}

-- the row of the order frequencies, by duration and N
abbrev pub weighting_row : ℕ → ℕ → ℕ
weighting_row duration bits = cond (ltb bits (cond (eqb duration 0) 480 360)) 1 0

-- a filter: an order, and as many indices
pub record Filter : Type 0 where
  pub order : ℕ
  pub indices : List ℕ

abbrev pub no_filter : Filter
no_filter = record { order = 0; indices = [] }

pub record Tns : Type 0 where
  pub first : Filter
  pub second : Filter

-- n indices of filter f from index k on: index k by coefficient row k
unfoldable pub read_indices : List ℕ → ℕ → ℕ → ℕ → Coding (List ℕ)
read_indices coefficients f k zero = done []
read_indices coefficients f k (suc n) =
    onward (met (coef f k) (symbol_by (row_at 17 k coefficients)))
    (λ index. onward (read_indices coefficients f (k + 1) n) (λ rest. done (index ∷ rest)))

-- filter f: where its flag is set, the order is the symbol by the weighting row and one more, and so many indices follow
abbrev pub read_filter : List ℕ → List ℕ → ℕ → ℕ → ℕ → Coding Filter
read_filter orders coefficients weighting f flag =
    cond (eqb flag 1)
    (onward (met (order f) (symbol_by (row_at 8 weighting orders)))
    (λ k. onward (read_indices coefficients f 0 (k + 1)) (λ indices. done (record { order = k + 1; indices = indices }))))
    (done no_filter)

-- both filters, by their flags
abbrev pub read_tns : List ℕ → List ℕ → ℕ → ℕ → ℕ → Coding Tns
read_tns orders coefficients weighting first_flag second_flag =
    onward (read_filter orders coefficients weighting 0 first_flag)
    (λ first. onward (read_filter orders coefficients weighting 1 second_flag) (λ second. done (record { first = first; second = second })))

-- eight places for a filter's indices, 0 where absent, and sixteen for both
abbrev pub eight_of : Filter → List ℕ
eight_of filter = take 8 (filter.indices ++ replicate 8 0)

abbrev pub sixteen_of : Tns → List ℕ
sixteen_of tns = eight_of tns.first ++ eight_of tns.second
