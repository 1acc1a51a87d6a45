-- How a reader is put together: a reading goes from a frame and a cursor to a value and the next cursor, or to a refusal.
use Rattle.std.specs.Prelude.{ℕ, Bool, cond, List}
use Rattle.common.specs.Reply.{Step, Reply, Answer, accepted, given, and_then, within}
use Rattle.buffer_reader.specs.Reads.{take_bits, take_bit}
use Rattle.buffer_reader.specs.declared.Cursor.{Cursor}

abbrev pub Reading : Type 0 → Type 0
Reading A = List ℕ → Cursor → Answer (A × Cursor)

-- nothing more is read
abbrev pub found : {A : Type 0} → A → Reading A
found a f c = accepted (a, c)

-- one reading, then by its value the next from where it left the cursor
abbrev pub next : {A B : Type 0} → Reading A → (A → Reading B) → Reading B
next first rest f c = and_then (first f c) (λ r. rest r.0 f r.1)

-- the refusal if the test holds, and otherwise what follows
abbrev pub refusing : {A : Type 0} → Bool → Reply → Reading A → Reading A
refusing test reply otherwise f c = given test reply (otherwise f c)

-- a field that is absent is 0, and nothing is read for it
abbrev pub if_present : Bool → Reading ℕ → Reading ℕ
if_present present reading = cond present reading (found 0)

-- a field of n bits, met in a step
abbrev pub field_in : Step → ℕ → Reading ℕ
field_in step n f c = within step (take_bits f c n)

-- one bit as 0 or 1
abbrev pub as_number : Bool × Cursor → Answer (ℕ × Cursor)
as_number r = accepted (cond r.0 1 0, r.1)

abbrev pub take_flag : Reading ℕ
take_flag f c = and_then (take_bit f c) as_number

-- it, met in a step
abbrev pub flag_in : Step → Reading ℕ
flag_in step f c = within step (take_flag f c)
