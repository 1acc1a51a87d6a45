-- A frame's field that was written is found: from its offset on, the buffer behind the writing is the field and what was behind it, so
-- its tag, its length and its frame stand where they are looked for. Assumes nothing.
use Prim.Native.Nat.{ℕ, ◌+◌, ◌/◌, ◌%◌, ◌≤◌}
use mathlib.Core.Path.{◌≡◌, refl, sym, ap, subst, ◌∙◌}
use mathlib.Core.Bool.{true, not, ◌&&◌}
use mathlib.Core.List.{List, ◌++◌, append_assoc}
use native.Mathlib.Nat.{add-zero}
use native.Mathlib.Omega.{arith}
use borrow.Author.Tests.{le-leb, leb-true, not-false}
use lib.Dec.{leb}
use lib.ListN.{length, get_or, take, drop}
use lib.Seq.{sets, sets-eq, length-sets, length-take-le, get_or-drop, drop-drop, take_at, drop_at}
use Rattle.common.specs.Reply.{accepted, and_then, field_malformed}
use Rattle.common.specs.Tables.{Tables}
use Rattle.common.specs.declared.configuration.Configuration.{Configuration}
use Rattle.common.proofs.Bools.{and_left, and_right}
use Rattle.common.proofs.Replies.{given-split, then-split, accepted-same}
use Rattle.frame_writer.specs.Frame.{Content, write_frame}
use Rattle.frame_writer.proofs.Owners.{parted}
use Rattle.recording.specs.Tagged.{field_most, tag_frame, ready, found, header_at, size_at, complete, formed}
use Rattle.recording.specs.Contents.{content_of}
use Rattle.recording.specs.Writer.{field_of, write_field, buffer_behind}
use Rattle.recording.specs.Stated.{frame_field, FrameFound}
use Rattle.recording.specs.declared.reader.Before.{Before}
use Rattle.recording.specs.declared.reader.Field.{Field}
use Rattle.recording.proofs.Answers.{field_found}

-- from where a list is laid on there are the list and what was behind it
behind-laid : (b : List ℕ) (o : ℕ) (xs : List ℕ) → o + length xs ≤ length b → drop o (sets b o xs) ≡ xs ++ drop (o + length xs) b
behind-laid b o xs h =
    ap (drop o) (sets-eq xs b o h ∙ append_assoc (take o b) xs (drop (o + length xs) b)) ∙
    drop_at (take o b) (xs ++ drop (o + length xs) b) o (length-take-le o b (omega (arith, h)))

-- a field of a frame, with what is behind it, at an offset of an input
module _ (input frame rest : List ℕ) (bytes offset : ℕ) (size : length frame ≡ bytes) (lies : drop offset input ≡ field_of frame ++ rest) where
  byte-lies : (i : ℕ) → get_or input (offset + i) 0 ≡ get_or (field_of frame ++ rest) i 0
  byte-lies i = sym (get_or-drop offset input i 0) ∙ ap (λ (l : List ℕ). get_or l i 0) lies

  header-lies : header_at input offset ≡ frame_field offset bytes
  header-lies =
      let tag : get_or input offset 0 ≡ tag_frame = ap (λ (n : ℕ). get_or input n 0) (sym (add-zero offset)) ∙ byte-lies 0 in
      let high : get_or input (offset + 1) 0 ≡ length frame / 256 = byte-lies 1 in
      let low : get_or input (offset + 2) 0 ≡ length frame % 256 = byte-lies 2 in
      let sized : size_at input offset ≡ bytes = rw (high, low) (omega (arith, size)) in
      rw (tag, sized) refl

  content-lies : content_of input (frame_field offset bytes) ≡ frame
  content-lies =
      let behind : drop (offset + 3) input ≡ frame ++ rest = sym (drop-drop 3 offset input) ∙ ap (drop 3) lies in
      rw behind (take_at frame rest bytes size)

module _ (k : Configuration) (t : Tables) (w : Content) (bytes offset most : ℕ) (b : Before) (buffer : List ℕ) where
  found_in : (frame : List ℕ) → write_frame k t w bytes ≡ accepted frame → bytes ≤ field_most → offset + (3 + bytes) ≤ length buffer → ready b ≡ true → offset + 3 + bytes ≤ most → FrameFound k t w bytes offset most b (sets buffer offset (field_of frame))
  found_in frame e short room came bound =
      let size : length frame ≡ bytes = (parted k t w bytes e).size in
      let input = sets buffer offset (field_of frame) in
      let lies = behind-laid buffer offset (field_of frame) (omega (arith, size)) in
      let same : length input ≡ length buffer = length-sets buffer offset (field_of frame) in
      let header : header_at input offset ≡ frame_field offset bytes = header-lies input frame _ bytes offset size lies in
      let whole : leb (offset + 3 + bytes) (length input) ≡ true = le-leb (offset + 3 + bytes) (length input) (omega (arith, same)) in
      let good : (complete most (length input) (frame_field offset bytes) && formed b (frame_field offset bytes)) ≡ true = rw (whole, le-leb (offset + 3 + bytes) most bound, le-leb bytes field_most short, came) refl in
      record {
        field = field_found most b input offset (λ z. absurd (omega (arith, same))) (ap (λ (x : Field). complete most (length input) x && formed b x) header ∙ good) ∙ ap (λ (x : Field). accepted (found x)) header;
        frame = e ∙ ap accepted (sym (content-lies input frame _ bytes offset size lies));
      }

  -- what the field's writer wrote, `field_at` finds, wherever it would take a frame
  pub written-found : {field : List ℕ} → write_field k t w bytes (length buffer) offset ≡ accepted field → ready b ≡ true → offset + 3 + bytes ≤ most → FrameFound k t w bytes offset most b (buffer_behind (write_field k t w bytes (length buffer) offset) offset buffer)
  written-found {field} e came bound =
      let judged = given-split (not (leb bytes field_most && leb (offset + (3 + bytes)) (length buffer))) (field_malformed offset) (and_then (write_frame k t w bytes) (λ frame. accepted (field_of frame))) e in
      let fits = not-false (leb bytes field_most && leb (offset + (3 + bytes)) (length buffer)) judged.0 in
      let short = leb-true bytes field_most (and_left (leb bytes field_most) (leb (offset + (3 + bytes)) (length buffer)) fits) in
      let room = leb-true (offset + (3 + bytes)) (length buffer) (and_right (leb bytes field_most) (leb (offset + (3 + bytes)) (length buffer)) fits) in
      let written = then-split (write_frame k t w bytes) (λ frame. accepted (field_of frame)) judged.1 in
      let is : field_of written.0 ≡ field = accepted-same written.2 in
      rw e (subst (λ (l : List ℕ). FrameFound k t w bytes offset most b (sets buffer offset l)) is (found_in written.0 written.1 short room came bound))
