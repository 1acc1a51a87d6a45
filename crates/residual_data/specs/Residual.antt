-- Document 01, "The coder": "Residual bits available: N - tail - 8(head-3) - 25 + floor(log2 range); negative is refused (12)", and
-- "Used is final tail + 8(head-3) + 25 - floor(log2 range); spare is N less it". No bit here is ever refused, so none has a step.
use Rattle.std.specs.Prelude.{ℕ, zero, suc, ◌+◌, ◌-◌, ◌*◌, min, Bool, cond, List, [], ◌∷◌, ℤ, pos, negsuc, ◌==◌, nat_lt, slice_index, unsigned_abs}
use Rattle.common.specs.Reply.{Answer, accepted, given, residual_negative}
use Rattle.common.specs.Last.{floor_log2}
use Rattle.buffer_reader.specs.Tail.{tail_bit}
use Rattle.buffer_reader.specs.declared.Cursor.{Cursor}

-- the bits that are used up to a cursor, by the coder's range there
abbrev pub used_bits : Cursor → ℕ → ℕ
used_bits c range = c.tail + 8 * (c.head - 3) + 25 - floor_log2 range

-- the bits that are left of N, or refusal 12
abbrev pub available : ℕ → Cursor → ℕ → Answer ℕ
available bits c range = given (nat_lt bits (used_bits c range)) residual_negative (accepted (bits - used_bits c range))

-- n tail bits from a place on, each apart
unfoldable pub bits_from : List ℕ → ℕ → ℕ → List ℕ
bits_from f tail zero = []
bits_from f tail (suc n) = tail_bit f tail ∷ bits_from f (tail + 1) n

-- how many lines are not 0
unfoldable pub nonzero : List ℤ → ℕ
nonzero [] = 0
nonzero (x ∷ xs) = cond (unsigned_abs x == 0) 0 1 + nonzero xs

-- outside least-bit mode: one bit for each nonzero line while there is room
abbrev pub residual_list : List ℕ → ℕ → ℕ → List ℤ → List ℕ
residual_list f tail room lines = bits_from f tail (min room (nonzero lines))

-- in least-bit mode what comes late alters lines: a line behind its late bits, the tail behind them, and the room that is left
pub record Late : Type 0 where
  pub line : ℤ
  pub tail : ℕ
  pub room : ℕ

-- a line that is not 0, its magnitude one larger
abbrev pub larger : ℤ → ℤ
larger (pos n) = pos (suc n)
larger (negsuc n) = negsuc (suc n)

-- a lowest bit, and behind a 1 of a line that is 0 its sign; a 1 with no room for its sign leaves the line 0
abbrev pub late_line : List ℕ → ℤ → ℕ → ℕ → Late
late_line f x tail room =
    cond (room == 0) (record { line = x; tail = tail; room = 0 })
    (cond (tail_bit f tail == 0) (record { line = x; tail = tail + 1; room = room - 1 })
    (cond (nat_lt 0 (unsigned_abs x)) (record { line = larger x; tail = tail + 1; room = room - 1 })
    (cond (room == 1) (record { line = x; tail = tail + 1; room = 0 })
    (record { line = cond (tail_bit f (tail + 1) == 1) (negsuc 0) (pos 1); tail = tail + 2; room = room - 2 }))))

-- "The Rust stores an escape level by pair number and looks it up by line number; the standard, by line number both times": whether
-- pair p counts as escaped, by the levels of all pairs
abbrev pub escaped_by : ℕ → List ℕ → ℕ → Bool
escaped_by reading levels p = nat_lt 0 (slice_index levels (cond (reading == 0) (2 * p) p))

-- all lines behind what comes late, and the tail and the room there
pub record AllLate : Type 0 where
  pub lines : List ℤ
  pub tail : ℕ
  pub room : ℕ

abbrev with_pair : ℤ → ℤ → AllLate → AllLate
with_pair x y rest = record { lines = x ∷ y ∷ rest.lines; tail = rest.tail; room = rest.room }

-- from pair p on, two lines to a pair: both lines of an escaped pair, while there is room
unfoldable pub late_from : List ℕ → (ℕ → Bool) → ℕ → List ℤ → ℕ → ℕ → AllLate
late_from f escaped p [] tail room = record { lines = []; tail = tail; room = room }
late_from f escaped p (x ∷ []) tail room = record { lines = x ∷ []; tail = tail; room = room }
late_from f escaped p (x ∷ y ∷ rest) tail room =
    cond (escaped p)
    (let a = late_line f x tail room in
    let b = late_line f y a.tail a.room in
    with_pair a.line b.line (late_from f escaped (p + 1) rest b.tail b.room))
    (with_pair x y (late_from f escaped (p + 1) rest tail room))
