-- What is read is taken from the room, bit by bit. So behind the residual list, and behind what comes late, used and spare are N exactly.
-- Assumes nothing.
use Rattle.std.proofs.Common.{◌≡◌, ℕ, ◌+◌, ◌-◌, ◌≤◌, min, Bool, List, ℤ, arith}
use Rattle.buffer_reader.specs.declared.Cursor.{Cursor}
use Rattle.residual_data.specs.Residual.{used_bits, nonzero, late_from}
use Rattle.residual_data.proofs.Rooms.{used-more}
use Rattle.residual_data.proofs.Lates.{late-spends, late-room}

module _ (c : Cursor) (range : ℕ) (least : 0x10000 ≤ range) (most : range ≤ 0xFFFFFF) (bits room : ℕ) (fits : used_bits c range + room ≡ bits) where
  -- behind n bits of the room
  pub behind-used : (n : ℕ) → n ≤ room → used_bits (record { head = c.head; tail = c.tail + n }) range + (room - n) ≡ bits
  behind-used n h = omega (arith, used-more c range least most n)

  -- behind the residual list, which takes the smaller of room and nonzero lines
  pub residual-used : (lines : List ℤ) → used_bits (record { head = c.head; tail = c.tail + min room (nonzero lines) }) range + (room - min room (nonzero lines)) ≡ bits
  residual-used lines = behind-used (min room (nonzero lines)) (omega arith)

  -- behind what comes late, whose room is what is spare
  pub late-used : (f : List ℕ) (escaped : ℕ → Bool) (p : ℕ) (xs : List ℤ) → used_bits (record { head = c.head; tail = (late_from f escaped p xs c.tail room).tail }) range + (late_from f escaped p xs c.tail room).room ≡ bits
  late-used f escaped p xs =
      let l = late_from f escaped p xs c.tail room in
      let spends : l.tail + l.room ≡ c.tail + room = late-spends f escaped p xs c.tail room in
      let less : l.room ≤ room = late-room f escaped p xs c.tail room in
      let same : l.tail ≡ c.tail + (room - l.room) = omega arith in
      rw same (omega (arith, behind-used (room - l.room) (omega arith)))
