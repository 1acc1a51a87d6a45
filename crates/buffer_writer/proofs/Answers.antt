-- What each write answers and what the buffer then holds, case by case. Assumes nothing.
use Prim.Native.Nat.{ℕ, ◌+◌, ◌-◌, ◌≤◌, ◌<◌}
use mathlib.Core.Path.{◌≡◌, refl}
use mathlib.Core.Bool.{Bool, true, false, ◌&&◌}
use mathlib.Core.List.{List}
use native.Mathlib.Omega.{arith}
use borrow.Author.Tests.{lt-ltb, le-ltb, le-leb, lt-leb}
use lib.Dec.{leb, ltb}
use lib.ListN.{length, get_or, set}
use Rattle.common.proofs.Bools.{same-ltb, and_both, and-second-fails}
use Rattle.common.specs.Reply.{accepted, refused, wrong_length, width_not_listed, no_tail_room, head_past_end}
use Rattle.buffer_reader.specs.Reads.{listed}
use Rattle.buffer_reader.specs.declared.Cursor.{Cursor}
use Rattle.buffer_writer.specs.Writes.{write_field, write_bit, write_byte, write_top, field_written, bit_written, byte_written, top_written, beyond_start, put_field, put_bit, with_top, one_if}

pub start-passed : (bits place n : ℕ) → bits < n → ltb bits (place + n) ≡ true
start-passed bits place n h = lt-ltb bits (place + n) (omega arith)

pub start-judged : (bits place n : ℕ) → n ≤ bits → ltb (bits - n) place ≡ ltb bits (place + n)
start-judged bits place n h = same-ltb (bits - n) place bits (place + n) (λ e. omega arith) (λ e. omega arith)

module _ (f : List ℕ) (c : Cursor) (v n : ℕ) where
  pub field-long : 65535 < length f → (refused (wrong_length (length f)) ≡ write_field f c n) × (f ≡ field_written f c v n)
  field-long l = (rw (lt-ltb 65535 (length f) l) refl, rw (lt-ltb 65535 (length f) l) refl)

  pub field-unlisted : length f ≤ 65535 → listed n ≡ false → (refused (width_not_listed n) ≡ write_field f c n) × (f ≡ field_written f c v n)
  field-unlisted l w = (rw (le-ltb 65535 (length f) l, w) refl, rw (le-ltb 65535 (length f) l, w) refl)

  pub field-beyond : length f ≤ 65535 → listed n ≡ true → beyond_start (length f) c n ≡ true → (refused (no_tail_room n c.tail) ≡ write_field f c n) × (f ≡ field_written f c v n)
  field-beyond l w p = (rw (le-ltb 65535 (length f) l, w, p) refl, rw (le-ltb 65535 (length f) l, w, p) refl)

  pub field_put : length f ≤ 65535 → listed n ≡ true → beyond_start (length f) c n ≡ false → (accepted (record { head = c.head; tail = c.tail + n }) ≡ write_field f c n) × (put_field f c.tail v n ≡ field_written f c v n)
  field_put l w p = (rw (le-ltb 65535 (length f) l, w, p) refl, rw (le-ltb 65535 (length f) l, w, p) refl)

  pub top-long : 65535 < length f → (refused (wrong_length (length f)) ≡ write_top f c n) × (f ≡ top_written f c v n)
  top-long l = (rw (lt-ltb 65535 (length f) l) refl, rw (lt-ltb 65535 (length f) l) refl)

  pub top-unlisted : length f ≤ 65535 → (leb 1 n && leb n 8) ≡ false → (refused (width_not_listed n) ≡ write_top f c n) × (f ≡ top_written f c v n)
  top-unlisted l w = (rw (le-ltb 65535 (length f) l, w) refl, rw (le-ltb 65535 (length f) l, w) refl)

  pub top-past : length f ≤ 65535 → (leb 1 n && leb n 8) ≡ true → length f ≤ c.head → (refused (head_past_end c.head) ≡ write_top f c n) × (f ≡ top_written f c v n)
  top-past l w p =
      (rw (le-ltb 65535 (length f) l, w, le-leb (length f) c.head p) refl, rw (le-ltb 65535 (length f) l, w, le-leb (length f) c.head p) refl)

  pub top-put : length f ≤ 65535 → (leb 1 n && leb n 8) ≡ true → c.head < length f → (accepted c ≡ write_top f c n) × (set f c.head (with_top (get_or f c.head 0) v n) ≡ top_written f c v n)
  top-put l w p =
      (rw (le-ltb 65535 (length f) l, w, lt-leb (length f) c.head p) refl, rw (le-ltb 65535 (length f) l, w, lt-leb (length f) c.head p) refl)

module _ (f : List ℕ) (c : Cursor) (b : Bool) where
  pub bit-long : 65535 < length f → (refused (wrong_length (length f)) ≡ write_bit f c) × (f ≡ bit_written f c b)
  bit-long l = (rw (lt-ltb 65535 (length f) l) refl, rw (lt-ltb 65535 (length f) l) refl)

  pub bit-beyond : length f ≤ 65535 → beyond_start (length f) c 1 ≡ true → (refused (no_tail_room 1 c.tail) ≡ write_bit f c) × (f ≡ bit_written f c b)
  bit-beyond l p = (rw (le-ltb 65535 (length f) l, p) refl, rw (le-ltb 65535 (length f) l, p) refl)

  pub bit-put : length f ≤ 65535 → beyond_start (length f) c 1 ≡ false → (accepted (record { head = c.head; tail = c.tail + 1 }) ≡ write_bit f c) × (put_bit f c.tail (one_if b) ≡ bit_written f c b)
  bit-put l p = (rw (le-ltb 65535 (length f) l, p) refl, rw (le-ltb 65535 (length f) l, p) refl)

module _ (f : List ℕ) (c : Cursor) (v : ℕ) where
  pub byte-long : 65535 < length f → (refused (wrong_length (length f)) ≡ write_byte f c) × (f ≡ byte_written f c v)
  byte-long l = (rw (lt-ltb 65535 (length f) l) refl, rw (lt-ltb 65535 (length f) l) refl)

  pub byte_past : length f ≤ 65535 → length f ≤ c.head → (refused (head_past_end c.head) ≡ write_byte f c) × (f ≡ byte_written f c v)
  byte_past l p = (rw (le-ltb 65535 (length f) l, le-leb (length f) c.head p) refl, rw (le-ltb 65535 (length f) l, le-leb (length f) c.head p) refl)

  pub byte_put : length f ≤ 65535 → c.head < length f → (accepted (record { head = c.head + 1; tail = c.tail }) ≡ write_byte f c) × (set f c.head v ≡ byte_written f c v)
  byte_put l p = (rw (le-ltb 65535 (length f) l, lt-leb (length f) c.head p) refl, rw (le-ltb 65535 (length f) l, lt-leb (length f) c.head p) refl)

-- the widths of a head byte's top bits
pub top-none : (n : ℕ) → n ≡ 0 → (leb 1 n && leb n 8) ≡ false
top-none n e = rw e refl

pub top-wide : (n : ℕ) → 8 < n → (leb 1 n && leb n 8) ≡ false
top-wide n h = and-second-fails (leb 1 n) (lt-leb n 8 h)

pub top-listed : (n : ℕ) → (n ≡ 0 → ⊥) → n ≤ 8 → (leb 1 n && leb n 8) ≡ true
top-listed n p q = and_both (leb 1 n) (leb n 8) (le-leb 1 n (omega (arith, p))) (le-leb n 8 q)
