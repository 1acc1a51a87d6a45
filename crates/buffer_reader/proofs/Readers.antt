-- What a read of the reader's says, by what the cursor's read gave: it moves to where that left the cursor, or it stands where it was.
-- Assumes nothing.
use mathlib.Core.Path.{◌≡◌, refl}
use Prim.Native.Nat.{ℕ}
use Rattle.std.specs.Prelude.{Result, Ok, Err}
use Rattle.common.specs.Reply.{Answer, accepted, refused, answer_by}
use Rattle.buffer_reader.specs.Reads.{reply_of}
use Rattle.buffer_reader.specs.Reader.{value_of, behind}
use Rattle.buffer_reader.specs.declared.Cursor.{Cursor}
use Rattle.buffer_reader.specs.declared.BufferError.{BufferError}
use Rattle.buffer_reader.specs.declared.reader.Reader.{Reader}

pub moves-on : (before after : Reader) (r : Result ℕ BufferError) (next : Cursor) (v : ℕ) (a : Answer (ℕ × Cursor)) → (after.frame ≡ before.frame) × (after.head ≡ next.head) × (after.tail ≡ next.tail) × (r ≡ Ok v) → accepted (v, next) ≡ a → (answer_by reply_of r ≡ value_of a) × (after ≡ behind before a)
moves-on before after r next v a went e =
    rw (← e) (rw went.3 refl, λ i. record { frame = went.0 i; head = went.1 i; tail = went.2 i })

pub moves_not : (before after : Reader) (r : Result ℕ BufferError) (e : BufferError) (a : Answer (ℕ × Cursor)) → (after.frame ≡ before.frame) × (after.head ≡ before.head) × (after.tail ≡ before.tail) × (r ≡ Err e) → refused (reply_of e) ≡ a → (answer_by reply_of r ≡ value_of a) × (after ≡ behind before a)
moves_not before after r e a stayed is =
    rw (← is) (rw stayed.3 refl, λ i. record { frame = stayed.0 i; head = stayed.1 i; tail = stayed.2 i })
