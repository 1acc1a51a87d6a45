-- The lines of a frame that is written, by their places: line, magnitude, sign, the escapes of a pair, and a line without its lowest bit.
use Rattle.std.specs.Prelude.{ℕ, ◌+◌, ◌*◌, ◌/◌, Bool, cond, ◌&&◌, List, ltb, ℤ, pos, negsuc, neg_ℤ, nat_abs, get_or}
use Rattle.contexts.specs.Contexts.{escapes}

abbrev pub line_at : List ℤ → ℕ → ℤ
line_at lines k = get_or lines k (pos 0)

abbrev pub magnitude_at : List ℤ → ℕ → ℕ
magnitude_at lines k = nat_abs (line_at lines k)

-- a sign as a bit, 1 for minus
abbrev pub minus : ℤ → ℕ
minus (pos n) = 0
minus (negsuc n) = 1

-- the escapes of pair p
abbrev pub escapes_at : List ℤ → ℕ → ℕ
escapes_at lines p = escapes (magnitude_at lines (2 * p)) (magnitude_at lines (2 * p + 1))

-- what theorems say: a line with the lowest bit of its magnitude 0, its sign kept
abbrev pub evened : ℤ → ℤ
evened (pos m) = pos (m / 2 * 2)
evened (negsuc m) = neg_ℤ (pos ((m + 1) / 2 * 2))

-- what is read of a line in a pair with n escapes, before what comes late
abbrev pub early_line : Bool → ℕ → ℤ → ℤ
early_line lsb n z = cond (lsb && ltb 0 n) (evened z) z
