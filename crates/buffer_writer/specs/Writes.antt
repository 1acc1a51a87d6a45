-- Document 01, "Modules in port order", 2: what each write answers, at any cursor of any buffer, and the whole buffer behind
-- it. Sums are exact. Places, fields and the list of widths are the reader's.
use Rattle.std.specs.Prelude.{ℕ, zero, suc, ◌+◌, ◌-◌, ◌*◌, ◌/◌, ◌%◌, ◌^◌, Bool, cond, not, ◌&&◌, List, leb, ltb, length, get_or, set}
use Rattle.common.specs.Reply.{Answer, accepted, given, unless_refused, width_not_listed, no_tail_room, head_past_end}
use Rattle.buffer_reader.specs.Tail.{tail_byte}
use Rattle.buffer_reader.specs.Reads.{too_long, listed}
use Rattle.buffer_reader.specs.declared.Cursor.{Cursor}

-- a byte with its bit k replaced
abbrev pub with_bit : ℕ → ℕ → ℕ → ℕ
with_bit byte k bit = (byte / 2 ^ k / 2 * 2 + bit) * 2 ^ k + byte % 2 ^ k

-- a byte with its top n bits replaced by another's
abbrev pub with_top : ℕ → ℕ → ℕ → ℕ
with_top byte val n = val / 2 ^ (8 - n) * 2 ^ (8 - n) + byte % 2 ^ (8 - n)

-- the buffer with the bit at tail place i replaced
abbrev pub put_bit : List ℕ → ℕ → ℕ → List ℕ
put_bit f i bit = set f (length f - 1 - i / 8) (with_bit (tail_byte f (i / 8)) (i % 8) bit)

-- the buffer with the low n bits of v from tail place i on, the lowest first
unfoldable pub put_field : List ℕ → ℕ → ℕ → ℕ → List ℕ
put_field f i v zero = f
put_field f i v (suc n) = put_field (put_bit f i (v % 2)) (i + 1) (v / 2) n

abbrev pub one_if : Bool → ℕ
one_if b = cond b 1 0

-- "a tail write is refused (9) exactly if its bits pass the buffer's start"
abbrev pub beyond_start : ℕ → Cursor → ℕ → Bool
beyond_start len c n = ltb (8 * len) (c.tail + n)

-- a field at the tail
abbrev pub write_field : List ℕ → Cursor → ℕ → Answer Cursor
write_field f c n =
    too_long f
    (given (not (listed n)) (width_not_listed n)
    (given (beyond_start (length f) c n) (no_tail_room n c.tail)
    (accepted (record { head = c.head; tail = c.tail + n }))))

abbrev pub field_written : List ℕ → Cursor → ℕ → ℕ → List ℕ
field_written f c v n = unless_refused (write_field f c n) f (put_field f c.tail v n)

-- a bit at the tail
abbrev pub write_bit : List ℕ → Cursor → Answer Cursor
write_bit f c =
    too_long f
    (given (beyond_start (length f) c 1) (no_tail_room 1 c.tail)
    (accepted (record { head = c.head; tail = c.tail + 1 })))

abbrev pub bit_written : List ℕ → Cursor → Bool → List ℕ
bit_written f c b = unless_refused (write_bit f c) f (put_bit f c.tail (one_if b))

-- "a head write (10) if past its end"
abbrev pub write_byte : List ℕ → Cursor → Answer Cursor
write_byte f c =
    too_long f
    (given (leb (length f) c.head) (head_past_end c.head)
    (accepted (record { head = c.head + 1; tail = c.tail })))

abbrev pub byte_written : List ℕ → Cursor → ℕ → List ℕ
byte_written f c v = unless_refused (write_byte f c) f (set f c.head v)

-- the top bits of a head byte, of which there are 1 to 8; the cursor stays on the byte
abbrev pub write_top : List ℕ → Cursor → ℕ → Answer Cursor
write_top f c n =
    too_long f
    (given (not (leb 1 n && leb n 8)) (width_not_listed n)
    (given (leb (length f) c.head) (head_past_end c.head) (accepted c)))

abbrev pub top_written : List ℕ → Cursor → ℕ → ℕ → List ℕ
top_written f c v n = unless_refused (write_top f c n) f (set f c.head (with_top (get_or f c.head 0) v n))
