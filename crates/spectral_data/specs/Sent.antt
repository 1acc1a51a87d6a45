-- Document 01, "The coder": the spectral lines, written. Of each pair the symbols for the head, its escapes and its last, and the bits for
-- the tail, its low bits and its signs.
use Rattle.std.specs.Prelude.{ℕ, zero, suc, ◌+◌, ◌*◌, ◌/◌, ◌%◌, ◌^◌, Bool, cond, ◌&&◌, List, [], ◌∷◌, ◌++◌, ltb, eqb, ℤ}
use Rattle.common.specs.Tables.{row_at}
use Rattle.contexts.specs.Contexts.{lookup_start, row_of, escape_symbol, escapes, pair_symbol, context_behind}
use Rattle.contexts.specs.Lines.{line_at, magnitude_at, minus, escapes_at, early_line}
use Rattle.range_encoder.specs.Interval.{Sent}
use Rattle.sending.specs.Sending.{Bit, low, sign, sent, owned}
use Rattle.spectral_data.specs.Spectral.{Pair}

-- n escapes from a level on; t is where the pair's lookup begins
unfoldable pub sent_escapes : List ℕ → List ℕ → ℕ → ℕ → ℕ → List Sent
sent_escapes lookup frequencies t level zero = []
sent_escapes lookup frequencies t level (suc n) =
    sent (row_at 17 (row_of lookup t level) frequencies) escape_symbol ∷ sent_escapes lookup frequencies t (level + 1) n

-- a pair of magnitudes
abbrev pub sent_pair : List ℕ → List ℕ → ℕ → ℕ → ℕ → List Sent
sent_pair lookup frequencies t a b =
    sent_escapes lookup frequencies t 0 (escapes a b) ++
    (sent (row_at 17 (row_of lookup t (escapes a b)) frequencies) (pair_symbol a b) ∷ [])

-- n pairs of the lines from pair p on, by the context before them
unfoldable pub sent_pairs : List ℕ → List ℕ → ℕ → ℕ → List ℤ → ℕ → ℕ → ℕ → List Sent
sent_pairs lookup frequencies rate ne lines p zero context = []
sent_pairs lookup frequencies rate ne lines p (suc n) context =
    let a = magnitude_at lines (2 * p) in
    let b = magnitude_at lines (2 * p + 1) in
    sent_pair lookup frequencies (lookup_start context rate ne (2 * p)) a b ++
    sent_pairs lookup frequencies rate ne lines (p + 1) n (context_behind context a b)

-- the two low bits at a level, of magnitudes of lines k and k + 1; in least-bit mode those of level 0 come late
abbrev pub low_at : Bool → ℕ → ℕ → ℕ → ℕ → List Bit
low_at lsb k a b level =
    cond (lsb && eqb level 0) []
    (owned (low k level) (a / 2 ^ level % 2) ∷ owned (low (k + 1) level) (b / 2 ^ level % 2) ∷ [])

-- those of n levels from a level on
unfoldable pub lows_from : Bool → ℕ → ℕ → ℕ → ℕ → ℕ → List Bit
lows_from lsb k a b level zero = []
lows_from lsb k a b level (suc n) = low_at lsb k a b level ++ lows_from lsb k a b (level + 1) n

-- what is left of a magnitude where the lowest bit comes late
abbrev pub early : Bool → ℕ → ℕ → ℕ
early lsb n a = cond (lsb && ltb 0 n) (a / 2) a

-- line k's sign, which only what is above 0 has, in a pair with n escapes
abbrev pub sign_at : Bool → ℕ → List ℤ → ℕ → List Bit
sign_at lsb n lines k =
    cond (ltb 0 (early lsb n (magnitude_at lines k))) (owned (sign k) (minus (line_at lines k)) ∷ []) []

-- pair p of the lines
abbrev pub pair_bits : Bool → List ℤ → ℕ → List Bit
pair_bits lsb lines p =
    let n = escapes_at lines p in
    lows_from lsb (2 * p) (magnitude_at lines (2 * p)) (magnitude_at lines (2 * p + 1)) 0 n ++
    sign_at lsb n lines (2 * p) ++ sign_at lsb n lines (2 * p + 1)

-- n pairs from pair p on
unfoldable pub pairs_bits : Bool → List ℤ → ℕ → ℕ → List Bit
pairs_bits lsb lines p zero = []
pairs_bits lsb lines p (suc n) = pair_bits lsb lines p ++ pairs_bits lsb lines (p + 1) n

-- what theorems say: so pair p of the lines is read back
abbrev pub pair_at : Bool → List ℤ → ℕ → Pair
pair_at lsb lines p =
    let n = escapes_at lines p in
    record {
      escapes = n;
      last = pair_symbol (magnitude_at lines (2 * p)) (magnitude_at lines (2 * p + 1));
      first = early_line lsb n (line_at lines (2 * p));
      second = early_line lsb n (line_at lines (2 * p + 1));
    }

-- and n pairs from pair p on
unfoldable pub pairs_of : Bool → List ℤ → ℕ → ℕ → List Pair
pairs_of lsb lines p zero = []
pairs_of lsb lines p (suc n) = pair_at lsb lines p ∷ pairs_of lsb lines (p + 1) n
