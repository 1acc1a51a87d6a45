-- The bits that are used count the tail's and at least two more than the head's whole bytes. So behind check 12 each bit that is left
-- stands before the head by what a read allows, and none is refused. Assumes nothing.
use Rattle.std.proofs.Common.{◌≡◌, ℕ, ◌+◌, ◌-◌, ◌*◌, ◌<◌, ◌≤◌, eqb, ltb, List, length, sym, refl, arith, ltb-false, le-ltb, lt-ltb}
use Rattle.common.specs.Last.{floor_log2}
use Rattle.common.specs.Reply.{accepted, refused, residual_negative}
use Rattle.common.proofs.Lasts.{log-range}
use Rattle.common.proofs.Replies.{given-split, accepted-same}
use Rattle.buffer_reader.specs.Tail.{tail_bit}
use Rattle.buffer_reader.specs.Reads.{take_bit}
use Rattle.buffer_reader.specs.declared.Cursor.{Cursor}
use Rattle.buffer_reader.proofs.Answers.{bit-there, bit-taken}
use Rattle.residual_data.specs.Residual.{used_bits, available}

-- check 12, by its test
pub available-none : (bits : ℕ) (c : Cursor) (range : ℕ) → bits < used_bits c range → available bits c range ≡ refused residual_negative
available-none bits c range h = rw (lt-ltb bits (used_bits c range) h) refl

pub available-room : (bits : ℕ) (c : Cursor) (range : ℕ) → used_bits c range ≤ bits → available bits c range ≡ accepted (bits - used_bits c range)
available-room bits c range h = rw (le-ltb bits (used_bits c range) h) refl

-- what an answer that is accepted says
pub room-given : (bits : ℕ) (c : Cursor) (range : ℕ) {room : ℕ} → available bits c range ≡ accepted room → (used_bits c range ≤ bits) × (room ≡ bits - used_bits c range)
room-given bits c range e =
    let s = given-split (ltb bits (used_bits c range)) residual_negative (accepted (bits - used_bits c range)) e in
    (ltb-false bits (used_bits c range) s.0, sym (accepted-same s.1))

module _ (c : Cursor) (range : ℕ) (least : 0x10000 ≤ range) (most : range ≤ 0xFFFFFF) where
  -- a cursor some bits on
  abbrev pub ahead : ℕ → Cursor
  ahead n = record { head = c.head; tail = c.tail + n }

  -- each bit that is read is one more that is used
  pub used-more : (n : ℕ) → used_bits (ahead n) range ≡ used_bits c range + n
  used-more n = let log : floor_log2 range ≤ 23 = (log-range range least (omega arith)).1 in omega arith

  module _ (f : List ℕ) (fits : used_bits c range ≤ 8 * length f) where
    -- the bits that are left end within the frame
    pub room_within : c.tail + (8 * length f - used_bits c range) ≤ 8 * length f
    room_within = let log : floor_log2 range ≤ 23 = (log-range range least (omega arith)).1 in omega arith

    -- none of them is refused
    pub never-refused : length f ≤ 65535 → 3 ≤ c.head → (j : ℕ) → j < 8 * length f - used_bits c range → take_bit f (ahead j) ≡ accepted (eqb (tail_bit f (c.tail + j)) 1, record { head = c.head; tail = c.tail + j + 1 })
    never-refused short three j h =
        let log : floor_log2 range ≤ 23 = (log-range range least (omega arith)).1 in
        bit-taken f (ahead j) short (bit-there f (ahead j) (omega arith) (omega arith))
