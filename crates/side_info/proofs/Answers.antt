-- Which check of the side information's reader and writer holds, and what the frame then holds.
-- Assumes nothing.
use Prim.Native.Nat.{ℕ, ◌*◌}
use mathlib.Core.Path.{◌≡◌, refl}
use mathlib.Core.Bool.{true, false}
use mathlib.Core.List.{List}
use lib.Dec.{leb}
use lib.ListN.{length}
use Rattle.common.specs.Reply.{Reply, Answer, accepted, refused, and_then, field_outside}
use Rattle.common.specs.Configuration.{frame_lines}
use Rattle.common.specs.declared.configuration.Configuration.{Configuration}
use Rattle.common.proofs.Configurations.{frame-known}
use Rattle.buffer_reader.specs.Steps.{if_present}
use Rattle.buffer_reader.specs.declared.Cursor.{Cursor}
use Rattle.side_info.specs.Reader.{side_field, side_flag, read_bandwidth, read_lastnz, part_bits, read_joint, read_all, read_side}
use Rattle.side_info.specs.Record.{side_passes}
use Rattle.side_info.specs.Layout.{side_fields, room_for, put_fields}
use Rattle.side_info.specs.Writer.{write_side, side_written}
use Rattle.side_info.specs.Private.{read_parts, write_fields, fields_written}
use Rattle.side_info.specs.declared.SideInfo.{SideInfo}
use Rattle.side_info.specs.declared.writer.Field.{Field}

-- what follows an answer can be followed together
under : {A B : Type 0} (a : Answer A) {k l : A → Answer B} → ((x : A) → k x ≡ l x) → and_then a k ≡ and_then a l
under (accepted x) h = h x
under (refused r) h = refl

after : {A B C : Type 0} (a : Answer A) (k : A → Answer B) (g : B → Answer C) {l : A → Answer C} → ((x : A) → and_then (k x) g ≡ l x) → and_then (and_then a k) g ≡ and_then a l
after (accepted x) k g h = h x
after (refused r) k g h = refl

-- the reader's chain is made of the part that the code reads by itself, and the rest
pub chain-made : (fs ne : ℕ) (f : List ℕ) (c : Cursor) → read_parts fs ne f c ≡ read_all fs ne f c
chain-made fs ne f c =
    under (read_bandwidth fs f c)
    (λ bandwidth. under (read_lastnz ne f bandwidth.1)
    (λ lastnz. under (side_flag f lastnz.1)
    (λ lsb. under (side_field 8 f lsb.1)
    (λ gain. under (side_flag f gain.1)
    (λ first. under (if_present (leb 3 bandwidth.0) side_flag f first.1)
    (λ second. under (side_flag f second.1)
    (λ pitch. after (side_field 5 f pitch.1) _ _
    (λ lf. after (side_field 5 f lf.1) _ _
    (λ hf. after (side_flag f hf.1) _ _
    (λ msb. after (side_field (part_bits msb.0) f msb.1) _ _
    (λ part. after (side_flag f part.1) _ _
    (λ ls_inda. after (read_joint msb.0 f ls_inda.1) _ _
    (λ j. refl)))))))))))))

pub read-on : (k : Configuration) (f : List ℕ) (c : Cursor) {n : ℕ} → frame_lines k (length f) ≡ accepted n → read_side k f c ≡ read_all k.fs_ind n f c
read-on k f c e = rw e refl

-- fields written behind one another
module _ (fields : List Field) (f : List ℕ) (c : Cursor) where
  pub fields-refused : {r : Reply} → room_for (8 * length f) c.tail fields ≡ refused r → (refused r ≡ write_fields fields f c) × (f ≡ fields_written fields f c)
  fields-refused e = (rw e refl, rw e refl)

  pub fields-put : {t : ℕ} → room_for (8 * length f) c.tail fields ≡ accepted t → (accepted (record { head = c.head; tail = t }) ≡ write_fields fields f c) × (put_fields f c.tail fields ≡ fields_written fields f c)
  fields-put e = (rw e refl, rw e refl)

-- a record written
module _ (k : Configuration) (s : SideInfo) (f : List ℕ) (c : Cursor) where
  pub write-refused : {r : Reply} → frame_lines k (length f) ≡ refused r → (refused r ≡ write_side k s f c) × (f ≡ side_written k s f c)
  write-refused e = (rw e refl, rw e refl)

  pub write-field : {n : ℕ} → frame_lines k (length f) ≡ accepted n → side_passes k.fs_ind n s ≡ false → (refused field_outside ≡ write_side k s f c) × (f ≡ side_written k s f c)
  write-field e p = (rw (e, p) refl, rw (e, p) refl)

  pub write-on : {n : ℕ} → frame_lines k (length f) ≡ accepted n → side_passes k.fs_ind n s ≡ true → (write_fields (side_fields k.fs_ind n s) f c ≡ write_side k s f c) × (fields_written (side_fields k.fs_ind n s) f c ≡ side_written k s f c)
  write-on e p = (rw (e, p) refl, rw (e, p, ← (frame-known k (length f) e).2) refl)
