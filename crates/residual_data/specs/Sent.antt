-- What is sent late: outside least-bit mode a residual bit for each nonzero line; in it, of the lines of escaped pairs, the lowest bits
-- and the signs of magnitudes 1.
use Rattle.std.specs.Prelude.{ℕ, zero, suc, ◌+◌, ◌*◌, ◌%◌, true, cond, List, [], ◌∷◌, ◌++◌, drop, ℤ, ◌==◌, nat_lt, unsigned_abs}
use Rattle.contexts.specs.Lines.{line_at, magnitude_at, minus, escapes_at, early_line}
use Rattle.sending.specs.Sending.{Owner, Bit, side, low, sign, residual, lowest, late_sign, owned}

-- the residual list, a bit to each nonzero line from line k on, in order
unfoldable pub residual_bits : ℕ → List ℤ → List ℕ → List Bit
residual_bits k [] bits = []
residual_bits k (x ∷ xs) [] = []
residual_bits k (x ∷ xs) (b ∷ bits) =
    cond (unsigned_abs x == 0) (residual_bits (k + 1) xs (b ∷ bits)) (owned (residual k) (b % 2) ∷ residual_bits (k + 1) xs bits)

-- line k: its lowest bit, and behind it the sign of a magnitude 1
abbrev pub late_at : List ℤ → ℕ → List Bit
late_at lines k =
    owned (lowest k) (magnitude_at lines k % 2) ∷ cond (magnitude_at lines k == 1) (owned (late_sign k) (minus (line_at lines k)) ∷ []) []

-- pair p: both lines, if it is escaped
abbrev pub late_pair : List ℤ → ℕ → List Bit
late_pair lines p = cond (nat_lt 0 (escapes_at lines p)) (late_at lines (2 * p) ++ late_at lines (2 * p + 1)) []

-- n pairs from pair p on
unfoldable pub late_pairs : List ℤ → ℕ → ℕ → List Bit
late_pairs lines p zero = []
late_pairs lines p (suc n) = late_pair lines p ++ late_pairs lines (p + 1) n

-- What theorems say of it: the lines of n pairs from pair p on, before what comes late
unfoldable pub early_lines : List ℤ → ℕ → ℕ → List ℤ
early_lines lines p zero = []
early_lines lines p (suc n) =
    let early = early_line true (escapes_at lines p) in
    early (line_at lines (2 * p)) ∷ early (line_at lines (2 * p + 1)) ∷ early_lines lines (p + 1) n

-- whose line a bit is, and the line of the first of some bits, or another where there is none
abbrev pub line_of : Owner → ℕ
line_of side = 0
line_of (low k level) = k
line_of (sign k) = k
line_of (residual k) = k
line_of (lowest k) = k
line_of (late_sign k) = k

abbrev pub first_line : ℕ → List Bit → ℕ
first_line other [] = other
first_line other (b ∷ bits) = line_of b.owner

-- "one place in line order": the line of the first late bit of n pairs from pair p on that finds no room, or the line behind them
abbrev pub cut_line : List ℤ → ℕ → ℕ → ℕ → ℕ
cut_line lines p n room = first_line (2 * (p + n)) (drop room (late_pairs lines p n))

-- "before which lines come back whole and from which each line of an escaped pair has its lowest magnitude bit cleared"
abbrev pub back_line : List ℤ → ℕ → ℕ → ℕ → ℤ
back_line lines cut p k = cond (nat_lt k cut) (line_at lines k) (early_line true (escapes_at lines p) (line_at lines k))

unfoldable pub back_lines : List ℤ → ℕ → ℕ → ℕ → List ℤ
back_lines lines cut p zero = []
back_lines lines cut p (suc n) = back_line lines cut p (2 * p) ∷ back_line lines cut p (2 * p + 1) ∷ back_lines lines cut (p + 1) n
