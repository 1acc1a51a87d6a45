-- Document 01, "The coder": "Spectral context as in the source (rate flag N > 160+160*fs_ind; +256 past ne/2; at most 14 escapes)".
-- What one pair of lines says, with the source's letters: a and b the magnitudes, t where the lookup begins, c the context.
use Rattle.std.specs.Prelude.{ℕ, ◌+◌, ◌*◌, ◌/◌, ◌%◌, ◌^◌, min, Bool, cond, ◌&&◌, List, map, leb, ltb, get_or, ℤ, nat_abs}
use Rattle.contexts.specs.First.{first_from}

-- "rate flag N > 160+160*fs_ind"
abbrev pub rate_flag : ℕ → ℕ → ℕ
rate_flag bits fs = cond (ltb (160 + 160 * fs) bits) 512 0

-- t: where the lookup of a pair begins, by the context before it; "+256 past ne/2", by the number of the pair's first line
abbrev pub lookup_start : ℕ → ℕ → ℕ → ℕ → ℕ
lookup_start c rate ne line = c + rate + cond (ltb (ne / 2) line) 256 0

-- the row that codes a symbol of the pair: the lookup has a part for each of the levels 0 to 3, and the last serves all above
abbrev pub row_of : List ℕ → ℕ → ℕ → ℕ
row_of lookup t level = get_or lookup (t + 1024 * min level 3) 0

abbrev pub magnitudes : List ℤ → List ℕ
magnitudes lines = map nat_abs lines

-- what is left of a magnitude n escapes on
abbrev pub shifted : ℕ → ℕ → ℕ
shifted a n = a / 2 ^ n

-- what is left of both magnitudes fits into a symbol
abbrev pub fits_symbol : ℕ → ℕ → ℕ → Bool
fits_symbol a b n = ltb (shifted a n) 4 && ltb (shifted b n) 4

-- "at most 14 escapes": the least number of them behind which both fit, as 16-bit numbers do behind 14
abbrev pub escapes : ℕ → ℕ → ℕ
escapes a b = first_from (fits_symbol a b) 0 14

-- the symbol that says that they do not fit yet: two tail bits, and the next level
abbrev pub escape_symbol : ℕ
escape_symbol = 16

-- the symbol of what is left of the two, and the two in it
abbrev pub symbol_from : ℕ → ℕ → ℕ
symbol_from a b = a + 4 * b

abbrev pub first_part : ℕ → ℕ
first_part symbol = symbol % 4

abbrev pub second_part : ℕ → ℕ
second_part symbol = symbol / 4

-- what a pair leaves to the next contexts, by what its symbol holds and its level, cut to 3
abbrev pub trace : ℕ → ℕ → ℕ → ℕ
trace a b level = cond (leb level 1) (1 + (a + b) * (level + 1)) (12 + level)

-- c behind the pair: the last two traces
abbrev pub next_context : ℕ → ℕ → ℕ → ℕ → ℕ
next_context c a b level = c % 16 * 16 + trace a b (min level 3)

-- a pair of magnitudes: the symbol behind its escapes, and c behind it
abbrev pub pair_symbol : ℕ → ℕ → ℕ
pair_symbol a b = symbol_from (shifted a (escapes a b)) (shifted b (escapes a b))

abbrev pub context_behind : ℕ → ℕ → ℕ → ℕ
context_behind c a b = next_context c (shifted a (escapes a b)) (shifted b (escapes a b)) (escapes a b)
