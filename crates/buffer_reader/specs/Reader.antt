-- Document 01, "Modules in port order", 1: "a reader that holds the frame and both cursors". Each read is the cursor's own; it moves
-- the reader, or refuses and leaves it.
use Rattle.std.specs.Prelude.{ℕ}
use Rattle.common.specs.Reply.{Answer, accepted, refused}
use Rattle.buffer_reader.specs.Reads.{take_byte, take_three, take_bits}
use Rattle.buffer_reader.specs.Steps.{Reading, take_flag}
use Rattle.buffer_reader.specs.declared.Cursor.{Cursor}
use Rattle.buffer_reader.specs.declared.reader.Reader.{Reader}
use Rattle.buffer_reader.specs.declared.reader.Read.{Read}
use Rattle.buffer_reader.specs.declared.reader.Read.TheVariants.{Byte, Three, Bits, Bit}

-- where it stands
abbrev pub standing : Reader → Cursor
standing r = record { head = r.head; tail = r.tail }

-- the cursor's read that is meant
abbrev pub taking : Read → Reading ℕ
taking Byte = take_byte
taking Three = take_three
taking (Bits n) = λ f c. take_bits f c n
taking Bit = take_flag

-- what a read gives: its value, or its refusal
abbrev pub value_of : Answer (ℕ × Cursor) → Answer ℕ
value_of (accepted v) = accepted v.0
value_of (refused r) = refused r

-- where a cursor stands behind a read: where the read left it, and refused, where it was
abbrev pub moved_to : Cursor → Answer (ℕ × Cursor) → Cursor
moved_to c (accepted v) = v.1
moved_to c (refused r) = c

-- the reader behind a read: the same frame, the cursors moved
abbrev pub behind : Reader → Answer (ℕ × Cursor) → Reader
behind r a =
    record { frame = r.frame; head = (moved_to (standing r) a).head; tail = (moved_to (standing r) a).tail }
