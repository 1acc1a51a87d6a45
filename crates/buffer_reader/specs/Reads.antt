-- Document 01, "Modules in port order", 1: what each read answers, at any cursor of any buffer. Sums are exact.
use Rattle.std.specs.Prelude.{ℕ, ◌+◌, ◌*◌, ◌/◌, ◌%◌, ◌-◌, Bool, cond, not, ◌&&◌, ◌||◌, List, leb, ltb, eqb, length, get_or}
use Rattle.common.specs.Reply.{Reply, Answer, accepted, given, wrong_length, width_not_listed, no_tail_room, head_past_end}
use Rattle.buffer_reader.specs.Tail.{tail_bit, field}
use Rattle.buffer_reader.specs.declared.Cursor.{Cursor}
use Rattle.buffer_reader.specs.declared.BufferError.{BufferError}
use Rattle.buffer_reader.specs.declared.BufferError.TheVariants.{WrongLength, WidthNotListed, NoTailRoom, PastEnd}

-- refusal 2, which every read of a leaf gives first: a buffer over 65,535 bytes
abbrev pub too_long : {A : Type 0} → List ℕ → Answer A → Answer A
too_long f otherwise = given (ltb 65535 (length f)) (wrong_length (length f)) otherwise

-- a byte from the head
abbrev pub take_byte : List ℕ → Cursor → Answer (ℕ × Cursor)
take_byte f c =
    too_long f
    (given (leb (length f) c.head) (head_past_end c.head)
    (accepted (get_or f c.head 0, record { head = c.head + 1; tail = c.tail })))

-- the number that three bytes from place h on make, the first highest
abbrev pub three_at : List ℕ → ℕ → ℕ
three_at f h = get_or f h 0 * 65536 + get_or f (h + 1) 0 * 256 + get_or f (h + 2) 0

-- the decoder's start: "low is three head bytes"
abbrev pub take_three : List ℕ → Cursor → Answer (ℕ × Cursor)
take_three f c =
    too_long f
    (given (leb (length f) (c.head + 2)) (head_past_end c.head)
    (accepted (three_at f c.head, record { head = c.head + 3; tail = c.tail })))

-- "widths 1..9, 24, 25"
abbrev pub listed : ℕ → Bool
listed n = leb 1 n && leb n 9 || eqb n 24 || eqb n 25

-- "a field of n bits at bit index b takes n/8 (whole part) + a bytes, a = 2 if n > 8-b and n < 8, else 1"
abbrev pub bytes_wanted : ℕ → ℕ → ℕ
bytes_wanted n b = n / 8 + cond (ltb (8 - b) n && ltb n 8) 2 1

-- "refused (9) exactly if those bytes + head + tail/8 exceed the length"
abbrev pub field_beyond : ℕ → Cursor → ℕ → Bool
field_beyond len c n = ltb len (bytes_wanted n (c.tail % 8) + c.head + c.tail / 8)

-- a field from the tail
abbrev pub take_bits : List ℕ → Cursor → ℕ → Answer (ℕ × Cursor)
take_bits f c n =
    too_long f
    (given (not (listed n)) (width_not_listed n)
    (given (field_beyond (length f) c n) (no_tail_room n c.tail)
    (accepted (field f c.tail n, record { head = c.head; tail = c.tail + n }))))

-- "one bit is refused exactly if head + tail/8 > length + 2 or tail/8 >= length"
abbrev pub bit_beyond : ℕ → Cursor → Bool
bit_beyond len c = ltb (len + 2) (c.head + c.tail / 8) || leb len (c.tail / 8)

-- a bit from the tail
abbrev pub take_bit : List ℕ → Cursor → Answer (Bool × Cursor)
take_bit f c =
    too_long f
    (given (bit_beyond (length f) c) (no_tail_room 1 c.tail)
    (accepted (eqb (tail_bit f c.tail) 1, record { head = c.head; tail = c.tail + 1 })))

-- document 01's number and values of each refusal
abbrev pub reply_of : BufferError → Reply
reply_of (WrongLength len) = wrong_length len
reply_of (WidthNotListed width) = width_not_listed width
reply_of (NoTailRoom width tail) = no_tail_room width tail
reply_of (PastEnd head) = head_past_end head
