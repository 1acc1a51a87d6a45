-- What was written is what the reader takes there, for a field and for a bit; and the top bits of a head byte leave the tail
-- bits of that byte alone which they do not share. Assumes nothing.
use Prim.Native.Nat.{ℕ, ◌+◌, ◌-◌, ◌*◌, ◌/◌, ◌%◌, ◌^◌, ◌≤◌, ◌<◌}
use mathlib.Core.Path.{◌≡◌, refl, sym, ap, ◌∙◌}
use mathlib.Core.Bool.{Bool, true, false}
use mathlib.Core.List.{List}
use native.Mathlib.Omega.{arith}
use borrow.Author.Tests.{ltb-false}
use lib.Dec.{eqb}
use lib.ListN.{length, get_or, set}
use Rattle.common.specs.Reply.{accepted}
use Rattle.buffer_reader.specs.Tail.{tail_bit}
use Rattle.buffer_reader.specs.Reads.{take_bits, take_bit, listed, bytes_wanted, field_beyond, bit_beyond}
use Rattle.buffer_reader.specs.declared.Cursor.{Cursor}
use Rattle.buffer_reader.proofs.Answers.{bits-taken, bit-taken}
use Rattle.buffer_reader.proofs.Rooms.{wanted-holds, bit-room}
use Rattle.buffer_reader.proofs.Tails.{tail-bit-there}
use Rattle.buffer_writer.specs.Writes.{put_field, put_bit, with_top, one_if}
use Rattle.buffer_writer.proofs.Bytes.{with-top-other}
use Rattle.buffer_writer.proofs.Places.{put-field-length, put-field-same, put-length, put_same, byte_put}

module _ (f : List ℕ) (c : Cursor) (short : length f ≤ 65535) where
  pub field_back : (v n : ℕ) → listed n ≡ true → field_beyond (length f) c n ≡ false → take_bits (put_field f c.tail v n) c n ≡ accepted (v % 2 ^ n, record { head = c.head; tail = c.tail + n })
  field_back v n ok room =
      let g = put_field f c.tail v n in
      let long : length g ≡ length f = put-field-length f c.tail v n in
      let there : bytes_wanted n (c.tail % 8) + c.head + c.tail / 8 ≤ length f = ltb-false (length f) (bytes_wanted n (c.tail % 8) + c.head + c.tail / 8) room in
      let inside : c.tail + n ≤ 8 * length f = omega (arith, wanted-holds n ok (c.tail % 8) (omega arith), there) in
      bits-taken g c n (omega arith) ok (ap (λ (l : ℕ). field_beyond l c n) long ∙ room) ∙
      ap (λ (x : ℕ). accepted (x, record { head = c.head; tail = c.tail + n })) (put-field-same f c.tail v n inside)

  pub bit-back : (b : Bool) → bit_beyond (length f) c ≡ false → take_bit (put_bit f c.tail (one_if b)) c ≡ accepted (b, record { head = c.head; tail = c.tail + 1 })
  bit-back b room =
      let g = put_bit f c.tail (one_if b) in
      let long : length g ≡ length f = put-length f c.tail (one_if b) in
      let there : c.tail / 8 < length f = bit-room (length f) c.head (c.tail / 8) room in
      bit-taken g c (omega arith) (ap (λ (l : ℕ). bit_beyond l c) long ∙ room) ∙
      ap (λ (x : Bool). accepted (x, record { head = c.head; tail = c.tail + 1 })) (ap (λ (x : ℕ). eqb x 1) (put_same f c.tail (one_if b) (omega arith) (one-low b)) ∙ one-is b)
    where
      one-low : (b : Bool) → one_if b < 2
      one-low true = omega arith
      one-low false = omega arith

      one-is : (b : Bool) → eqb (one_if b) 1 ≡ b
      one-is true = refl
      one-is false = refl

-- a head byte's top n bits, and a tail bit of that byte below them
pub top-keeps : (f : List ℕ) (h v n j : ℕ) → j / 8 < length f → length f - 1 - j / 8 ≡ h → j % 8 < 8 - n → tail_bit (set f h (with_top (get_or f h 0) v n)) j ≡ tail_bit f j
top-keeps f h v n j inside at low =
    byte_put f h (with_top (get_or f h 0) v n) j inside at ∙
    with-top-other (get_or f h 0) v n (j % 8) low ∙
    ap (λ (p : ℕ). get_or f p 0 / 2 ^ (j % 8) % 2) (sym at) ∙
    sym (tail-bit-there f j inside)
