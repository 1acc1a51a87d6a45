-- Refusal 13 is exact: what the writer accepts the reader returns, with the cursor where the writer left it, and from a frame's
-- start the writer accepts every record that passes 13. With `Image` these are just the reader's records. Assumes nothing.
use Prim.Native.Nat.{ℕ, ◌+◌, ◌*◌, ◌/◌, ◌≤◌}
use mathlib.Core.Path.{◌≡◌, sym, ap, ◌∙◌}
use mathlib.Core.Bool.{true, not}
use mathlib.Core.List.{List}
use native.Mathlib.Omega.{arith}
use borrow.Author.Tests.{not-false}
use lib.ListN.{length}
use Rattle.common.specs.Reply.{Answer, accepted, given, unless_refused, field_outside}
use Rattle.common.specs.Configuration.{ne, frame_lines}
use Rattle.common.specs.declared.configuration.Configuration.{Configuration}
use Rattle.common.proofs.Configurations.{frame-known, frame-ranges}
use Rattle.common.proofs.Replies.{accepted-same, then-split, given-split}
use Rattle.buffer_reader.specs.declared.Cursor.{Cursor}
use Rattle.side_info.specs.Reader.{read_side}
use Rattle.side_info.specs.Record.{side_passes}
use Rattle.side_info.specs.Layout.{side_fields, side_length, room_for, put_fields}
use Rattle.side_info.specs.Writer.{write_side, side_written}
use Rattle.side_info.specs.declared.SideInfo.{SideInfo}
use Rattle.side_info.proofs.Answers.{write-on, fields-put}
use Rattle.side_info.proofs.Layouts.{room-end, room-there}
use Rattle.side_info.proofs.Lengths.{length-range}
use Rattle.side_info.proofs.RoundTrip.{read_back}

module _ (k : Configuration) (s : SideInfo) (f : List ℕ) (c : Cursor) where
  -- what a call that the writer accepts passed on its way
  pub record Passed (d : Cursor) : Type 0 where
    pub lines : ℕ
    pub sized : frame_lines k (length f) ≡ accepted lines
    pub thirteen : side_passes k.fs_ind lines s ≡ true
    pub behind : d ≡ record { head = c.head; tail = c.tail + side_length k.fs_ind lines s }

  pub write-passed : (d : Cursor) → write_side k s f c ≡ accepted d → Passed d
  write-passed d e =
      let a = then-split (frame_lines k (length f)) _ e in
      let fields = side_fields k.fs_ind a.0 s in
      let b = then-split (given (not (side_passes k.fs_ind a.0 s)) field_outside (room_for (8 * length f) c.tail fields)) _ a.2 in
      let q = given-split (not (side_passes k.fs_ind a.0 s)) field_outside (room_for (8 * length f) c.tail fields) b.1 in
      record {
        lines = a.0;
        sized = a.1;
        thirteen = not-false (side_passes k.fs_ind a.0 s) q.0;
        behind = sym (accepted-same b.2) ∙ ap (λ (t : ℕ). record { head = c.head; tail = t }) (room-end (8 * length f) c.tail fields q.1);
      }

  -- and what the frame then holds
  pub written-holds : (d : Cursor) {lines : ℕ} → frame_lines k (length f) ≡ accepted lines → write_side k s f c ≡ accepted d → side_written k s f c ≡ put_fields f c.tail (side_fields k.fs_ind lines s)
  written-holds d sized e =
      ap (λ (a : Answer Cursor). unless_refused a f (put_fields f c.tail (side_fields k.fs_ind (ne k.duration k.fs_ind) s))) e ∙
      ap (λ (n : ℕ). put_fields f c.tail (side_fields k.fs_ind n s)) (sym (frame-known k (length f) sized).2)

  -- what was written is read back
  pub written-reads-back : (d : Cursor) → write_side k s f c ≡ accepted d → c.head + 4 + (c.tail + 74) / 8 ≤ length f → read_side k (side_written k s f c) c ≡ accepted (s, d)
  written-reads-back d e room =
      let p = write-passed d e in
      ap (λ (g : List ℕ). read_side k g c) (written-holds d p.sized e) ∙
      read_back k s f c p.sized p.thirteen room ∙
      ap (λ (x : Cursor). accepted (s, x)) (sym p.behind)

  -- from where there is room for 74 bits the writer accepts every record that passes
  pub passed-is-written : {lines : ℕ} → frame_lines k (length f) ≡ accepted lines → side_passes k.fs_ind lines s ≡ true → c.tail + 74 ≤ 8 * length f → write_side k s f c ≡ accepted (record { head = c.head; tail = c.tail + side_length k.fs_ind lines s })
  passed-is-written {lines} sized thirteen room =
      let (low, least, most, _, _) = frame-ranges k (length f) sized in
      let sum = length-range k.fs_ind lines s low least most in
      sym (write-on k s f c sized thirteen).0 ∙
      sym (fields-put (side_fields k.fs_ind lines s) f c (room-there (8 * length f) c.tail (side_fields k.fs_ind lines s) (omega arith))).0
