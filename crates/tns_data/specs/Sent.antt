-- Document 01, "The coder": the TNS data, written. The symbols of a filter: its order by the weighting row, then each index by its own row.
use Rattle.std.specs.Prelude.{ℕ, zero, suc, ◌+◌, ◌-◌, Bool, true, cond, ◌&&◌, List, [], ◌∷◌, ◌++◌, leb, eqb, take, drop}
use Rattle.common.specs.Tables.{row_at}
use Rattle.range_encoder.specs.Interval.{Sent}
use Rattle.sending.specs.Sending.{sent}
use Rattle.tns_data.specs.Tns.{Filter, Tns}

-- indices from index k on: index k by coefficient row k
unfoldable pub sent_indices : List ℕ → ℕ → List ℕ → List Sent
sent_indices coefficients k [] = []
sent_indices coefficients k (index ∷ rest) = sent (row_at 17 k coefficients) index ∷ sent_indices coefficients (k + 1) rest

-- a filter; of order 0 nothing
abbrev pub sent_filter : List ℕ → List ℕ → ℕ → Filter → List Sent
sent_filter orders coefficients weighting filter =
    cond (eqb filter.order 0) []
    (sent (row_at 8 weighting orders) (filter.order - 1) ∷ sent_indices coefficients 0 filter.indices)

abbrev pub sent_tns : List ℕ → List ℕ → ℕ → Tns → List Sent
sent_tns orders coefficients weighting tns =
    sent_filter orders coefficients weighting tns.first ++ sent_filter orders coefficients weighting tns.second

-- two orders and sixteen places, eight for a filter, as the two filters
abbrev pub tns_of : ℕ → ℕ → List ℕ → Tns
tns_of first second indices =
    record {
      first = record { order = first; indices = take first indices };
      second = record { order = second; indices = take second (drop 8 indices) };
    }

-- places for indices: 0..16 below their order, 0 from there on
unfoldable pub places_pass : ℕ → List ℕ → Bool
places_pass order [] = true
places_pass zero (x ∷ xs) = eqb x 0 && places_pass zero xs
places_pass (suc n) (x ∷ xs) = leb x 16 && places_pass n xs

-- a filter beside its flag in the side information: order 0..8, the flag set exactly where it is not 0
abbrev pub filter_passes : ℕ → ℕ → List ℕ → Bool
filter_passes flag order places = leb order 8 && eqb flag (cond (eqb order 0) 0 1) && places_pass order places

-- refusal 13, of the TNS fields; that the second order is 0 below bandwidth 3 is its flag's limit in the side information
abbrev pub tns_passes : ℕ → ℕ → ℕ → ℕ → List ℕ → Bool
tns_passes first_flag second_flag first second indices =
    filter_passes first_flag first (take 8 indices) && filter_passes second_flag second (drop 8 indices)
