-- One turn of the two loops over the fields, by the place in their list, and when a field passes the start.
-- Assumes nothing.
use Prim.Native.Nat.{ℕ, zero, suc, ◌+◌, ◌≤◌, ◌<◌}
use mathlib.Core.Path.{◌≡◌, refl, sym, ◌∙◌}
use mathlib.Core.Bool.{false, ◌&&◌}
use mathlib.Core.List.{List}
use native.Mathlib.Omega.{arith}
use native.Mathlib.Numerals.{add-one}
use borrow.Author.Tests.{le-leb, ltb-false}
use lib.Dec.{leb, ltb}
use lib.ListN.{length, get_or, drop, drop_of_length-le}
use lib.Seq.{drop-cons}
use Rattle.common.specs.Reply.{accepted, given, no_tail_room}
use Rattle.common.proofs.Bools.{and-first-holds}
use Rattle.buffer_writer.specs.Writes.{put_field}
use Rattle.side_info.specs.Layout.{width, value, length_of, room_for, put_fields}
use Rattle.side_info.specs.declared.writer.Field.{Field}

-- when a field passes the start
pub start-absent : (bits tail w : ℕ) → w ≡ 0 → (leb 1 w && ltb bits (tail + w)) ≡ false
start-absent bits tail w e = rw e refl

pub start-there : (bits tail w : ℕ) → (w ≡ 0 → ⊥) → (leb 1 w && ltb bits (tail + w)) ≡ ltb bits (tail + w)
start-there bits tail w e = and-first-holds (ltb bits (tail + w)) (le-leb 1 w (omega (arith, e)))

-- a field that does not pass the start leaves the tail below any number that the start and the tail are below
pub start-bounded : (bits tail w most : ℕ) → bits < most → tail < most → (leb 1 w && ltb bits (tail + w)) ≡ false → tail + w < most
start-bounded bits tail zero most b t e = omega arith
start-bounded bits tail (suc w) most b t e =
    omega (arith, ltb-false bits (tail + suc w) (sym (and-first-holds (ltb bits (tail + suc w)) (le-leb 1 (suc w) (omega arith))) ∙ e))

-- the field at a place of a list
abbrev pub field_at : List Field → ℕ → Field
field_at fields i = get_or fields i (0, 0)

module _ (bits tail i : ℕ) (fields : List Field) (h : i < length fields) where
  pub room-turn : room_for bits tail (drop i fields) ≡ given (leb 1 (width (field_at fields i)) && ltb bits (tail + width (field_at fields i))) (no_tail_room (width (field_at fields i)) tail) (room_for bits (tail + width (field_at fields i)) (drop (i + 1) fields))
  unfolding room_for
  room-turn = rw (drop-cons fields i (0, 0) h, add-one) refl

  pub length-turn : length_of (drop i fields) ≡ width (field_at fields i) + length_of (drop (i + 1) fields)
  unfolding length_of
  length-turn = rw (drop-cons fields i (0, 0) h, add-one) refl

  pub put-turn : (f : List ℕ) → put_fields f tail (drop i fields) ≡ put_fields (put_field f tail (value (field_at fields i)) (width (field_at fields i))) (tail + width (field_at fields i)) (drop (i + 1) fields)
  unfolding put_fields
  put-turn f = rw (drop-cons fields i (0, 0) h, add-one) refl

pub room-end : (bits tail i : ℕ) (fields : List Field) → length fields ≤ i → room_for bits tail (drop i fields) ≡ accepted tail
unfolding room_for
room-end bits tail i fields h = rw (drop_of_length-le fields h) refl

pub length-end : (i : ℕ) (fields : List Field) → length fields ≤ i → length_of (drop i fields) ≡ 0
unfolding length_of
length-end i fields h = rw (drop_of_length-le fields h) refl

pub put-end : (f : List ℕ) (tail i : ℕ) (fields : List Field) → length fields ≤ i → put_fields f tail (drop i fields) ≡ f
unfolding put_fields
put-end f tail i fields h = rw (drop_of_length-le fields h) refl
