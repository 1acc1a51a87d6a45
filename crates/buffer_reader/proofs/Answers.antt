-- What each read answers, case by case: which refusal by which fact, and the value where none holds. Later proofs go by these.
-- A refusal depends on the length, the cursor and the width alone, and a value on the places read alone. Assumes nothing.
use Prim.Native.Nat.{ℕ, ◌+◌, ◌/◌, ◌≤◌, ◌<◌}
use mathlib.Core.Path.{◌≡◌, refl}
use mathlib.Core.Bool.{true, false, not}
use mathlib.Core.List.{List}
use borrow.Author.Tests.{lt-ltb, le-ltb, le-leb, lt-leb}
use lib.Dec.{ltb, leb, eqb}
use lib.ListN.{length, get_or}
use Rattle.common.proofs.Replies.{no-refusal, refusal-first}
use Rattle.common.specs.Reply.{Reply, accepted, refused, wrong_length, width_not_listed, no_tail_room, head_past_end}
use Rattle.buffer_reader.specs.Tail.{tail_bit, field}
use Rattle.buffer_reader.specs.Reads.{take_byte, take_three, take_bits, take_bit, three_at, listed, field_beyond, bit_beyond}
use Rattle.buffer_reader.specs.declared.Cursor.{Cursor}
use Rattle.buffer_reader.proofs.Tails.{field-agrees}

module _ (f : List ℕ) (c : Cursor) where
  pub byte-long : 65535 < length f → take_byte f c ≡ refused (wrong_length (length f))
  byte-long l = rw (lt-ltb 65535 (length f) l) refl

  pub byte_past : length f ≤ 65535 → length f ≤ c.head → take_byte f c ≡ refused (head_past_end c.head)
  byte_past l p = rw (le-ltb 65535 (length f) l, le-leb (length f) c.head p) refl

  pub byte-taken : length f ≤ 65535 → c.head < length f → take_byte f c ≡ accepted (get_or f c.head 0, record { head = c.head + 1; tail = c.tail })
  byte-taken l p = rw (le-ltb 65535 (length f) l, lt-leb (length f) c.head p) refl

  pub three-long : 65535 < length f → take_three f c ≡ refused (wrong_length (length f))
  three-long l = rw (lt-ltb 65535 (length f) l) refl

  pub three-past : length f ≤ 65535 → length f ≤ c.head + 2 → take_three f c ≡ refused (head_past_end c.head)
  three-past l p = rw (le-ltb 65535 (length f) l, le-leb (length f) (c.head + 2) p) refl

  pub three-taken : length f ≤ 65535 → c.head + 2 < length f → take_three f c ≡ accepted (three_at f c.head, record { head = c.head + 3; tail = c.tail })
  three-taken l p = rw (le-ltb 65535 (length f) l, lt-leb (length f) (c.head + 2) p) refl

  pub bit-long : 65535 < length f → take_bit f c ≡ refused (wrong_length (length f))
  bit-long l = rw (lt-ltb 65535 (length f) l) refl

  pub bit-refused : length f ≤ 65535 → bit_beyond (length f) c ≡ true → take_bit f c ≡ refused (no_tail_room 1 c.tail)
  bit-refused l p = rw (le-ltb 65535 (length f) l, p) refl

  -- cursors may meet: a bit is there while the head is no further than two bytes past the tail's byte
  pub bit-there : c.head + c.tail / 8 ≤ length f + 2 → c.tail / 8 < length f → bit_beyond (length f) c ≡ false
  bit-there near inside =
      rw (le-ltb (length f + 2) (c.head + c.tail / 8) near, lt-leb (length f) (c.tail / 8) inside) refl

  pub bit-taken : length f ≤ 65535 → bit_beyond (length f) c ≡ false → take_bit f c ≡ accepted (eqb (tail_bit f c.tail) 1, record { head = c.head; tail = c.tail + 1 })
  bit-taken l p = rw (le-ltb 65535 (length f) l, p) refl

module _ (f : List ℕ) (c : Cursor) (n : ℕ) where
  pub bits-long : 65535 < length f → take_bits f c n ≡ refused (wrong_length (length f))
  bits-long l = rw (lt-ltb 65535 (length f) l) refl

  pub bits-unlisted : length f ≤ 65535 → listed n ≡ false → take_bits f c n ≡ refused (width_not_listed n)
  bits-unlisted l w = rw (le-ltb 65535 (length f) l, w) refl

  pub bits-refused : length f ≤ 65535 → listed n ≡ true → field_beyond (length f) c n ≡ true → take_bits f c n ≡ refused (no_tail_room n c.tail)
  bits-refused l w p = rw (le-ltb 65535 (length f) l, w, p) refl

  pub bits-taken : length f ≤ 65535 → listed n ≡ true → field_beyond (length f) c n ≡ false → take_bits f c n ≡ accepted (field f c.tail n, record { head = c.head; tail = c.tail + n })
  bits-taken l w p = rw (le-ltb 65535 (length f) l, w, p) refl

-- two buffers of one length that agree on the places read answer alike
module _ (f g : List ℕ) (c : Cursor) (size : length f ≡ length g) where
  pub byte-agrees : get_or f c.head 0 ≡ get_or g c.head 0 → take_byte f c ≡ take_byte g c
  byte-agrees e = rw (size, e) refl

  pub three-agrees : three_at f c.head ≡ three_at g c.head → take_three f c ≡ take_three g c
  three-agrees e = rw (size, e) refl

  pub bit-agrees : tail_bit f c.tail ≡ tail_bit g c.tail → take_bit f c ≡ take_bit g c
  bit-agrees e = rw (e, size) refl

  pub bits-agree : (n : ℕ) → ((k : ℕ) → k < n → tail_bit f (c.tail + k) ≡ tail_bit g (c.tail + k)) → take_bits f c n ≡ take_bits g c n
  bits-agree n same = rw (size, field-agrees f g c.tail n same) refl

  -- a refusal of one is the refusal of the other, whatever they hold
  pub byte-refusal : (r : Reply) → take_byte f c ≡ refused r → take_byte g c ≡ refused r
  byte-refusal r e =
      refusal-first (ltb 65535 (length g)) (wrong_length (length g)) r _ _
      (λ e. refusal-first (leb (length g) c.head) (head_past_end c.head) r _ _ (λ z. absurd (no-refusal z)) e)
      (rw size at e)

  pub three-refusal : (r : Reply) → take_three f c ≡ refused r → take_three g c ≡ refused r
  three-refusal r e =
      refusal-first (ltb 65535 (length g)) (wrong_length (length g)) r _ _
      (λ e. refusal-first (leb (length g) (c.head + 2)) (head_past_end c.head) r _ _ (λ z. absurd (no-refusal z)) e)
      (rw size at e)

  pub bit-refusal : (r : Reply) → take_bit f c ≡ refused r → take_bit g c ≡ refused r
  bit-refusal r e =
      refusal-first (ltb 65535 (length g)) (wrong_length (length g)) r _ _
      (λ e. refusal-first (bit_beyond (length g) c) (no_tail_room 1 c.tail) r _ _ (λ z. absurd (no-refusal z)) e)
      (rw size at e)

  pub bits-refusal : (n : ℕ) (r : Reply) → take_bits f c n ≡ refused r → take_bits g c n ≡ refused r
  bits-refusal n r e =
      refusal-first (ltb 65535 (length g)) (wrong_length (length g)) r _ _
      (λ e. refusal-first (not (listed n)) (width_not_listed n) r _ _
      (λ e. refusal-first (field_beyond (length g) c n) (no_tail_room n c.tail) r _ _ (λ z. absurd (no-refusal z)) e) e)
      (rw size at e)
