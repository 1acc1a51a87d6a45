-- A frame's field in a buffer: the frame stands in the part behind the header, and the header is laid before it. The two share no byte,
-- so in either order they make the field. Assumes nothing.
use Prim.Native.Nat.{ℕ, suc, ◌+◌, ◌-◌, ◌/◌, ◌%◌, ◌≤◌, ◌<◌}
use mathlib.Core.Path.{◌≡◌, refl, sym, ap, subst, ◌∙◌}
use mathlib.Core.Bool.{true, false}
use mathlib.Core.List.{List, [], ◌∷◌, ◌++◌, append_assoc}
use native.Mathlib.Omega.{arith}
use lib.Dec.{leb}
use lib.ListN.{length, take, drop, set}
use lib.Seq.{sets, sets-eq, set_comm}
use borrow.Rule.Slice.PartMut.{mid_of, put_mid, Post-is, put_same}
use borrow.Author.Tests.{lt-leb, leb-true}
use Rattle.common.specs.Reply.{Reply, Answer, accepted, refused, and_then, field_malformed}
use Rattle.common.specs.Tables.{Tables}
use Rattle.common.proofs.Replies.{no-refusal}
use Rattle.common.specs.declared.configuration.Configuration.{Configuration}
use Rattle.buffer_writer.proofs.Copies.{sets-append}
use Rattle.frame_writer.specs.Frame.{Content, write_frame}
use Rattle.frame_writer.specs.Returned.{told, frame_behind}
use Rattle.frame_writer.proofs.Owners.{parted}
use Rattle.recording.specs.Tagged.{field_most, tag_frame}
use Rattle.recording.specs.Writer.{field_of, write_field, buffer_behind, end_behind}

-- the part as it lies in the buffer is laid there
pub part-laid : (at e : ℕ) (b xs : List ℕ) → at ≤ e → e ≤ length b → length xs ≡ e - at → put_mid at (e - at) b xs ≡ sets b at xs
part-laid at e b xs h g l =
    ap (λ (post : List ℕ). take at b ++ (xs ++ post)) (Post-is at e b h) ∙
    ap (λ (n : ℕ). take at b ++ (xs ++ drop n b)) end ∙
    sym (append_assoc (take at b) xs (drop (at + length xs) b)) ∙
    sym (sets-eq xs b at (omega (arith, l)))
  where
    end : e ≡ at + length xs
    end = omega (arith, l)

-- a byte set before a place, and bytes laid from that place on, in either order
sets-before : (f : List ℕ) (at : ℕ) (bytes : List ℕ) (p v : ℕ) → p < at → sets (set f p v) at bytes ≡ set (sets f at bytes) p v
sets-before f at [] p v l = refl
sets-before f at (b ∷ bs) p v l =
    ap (λ (g : List ℕ). sets g (suc at) bs) (set_comm f p at v b (λ e. absurd (omega (arith, e)))) ∙
    sets-before (set f at b) (suc at) bs p v (omega arith)

-- the same of bytes laid before the place
laid_both : (f : List ℕ) (at : ℕ) (bytes : List ℕ) (o : ℕ) (hs : List ℕ) → o + length hs ≤ at → sets (sets f at bytes) o hs ≡ sets (sets f o hs) at bytes
laid_both f at bytes o [] l = refl
laid_both f at bytes o (h ∷ hs) l =
    ap (λ (g : List ℕ). sets g (suc o) hs) (sym (sets-before f at bytes o h (omega arith))) ∙
    laid_both (set f o h) at bytes (suc o) hs (omega arith)

-- so a header laid before the part makes the field
pub field-laid : (b : List ℕ) (o bytes : ℕ) (tag high low : ℕ) (frame : List ℕ) → length frame ≡ bytes → o + 3 + bytes ≤ length b →
    sets (put_mid (o + 3) (o + 3 + bytes - (o + 3)) b frame) o (tag ∷ high ∷ low ∷ []) ≡ sets b o (tag ∷ high ∷ low ∷ frame)
field-laid b o bytes tag high low frame size room =
    ap (λ (g : List ℕ). sets g o (tag ∷ high ∷ low ∷ [])) (part-laid (o + 3) (o + 3 + bytes) b frame (omega arith) room (omega (arith, size))) ∙
    laid_both b (o + 3) frame o (tag ∷ high ∷ low ∷ []) (omega arith) ∙
    sym (sets-append b o (tag ∷ high ∷ low ∷ []) frame)

-- what the call answers, and the buffer behind it
pub record Answered (k : Configuration) (t : Tables) (w : Content) (bytes offset : ℕ) (b : List ℕ) (answer : Answer ℕ) (last : List ℕ) : Type 0 where
  pub told_is : answer ≡ end_behind (write_field k t w bytes (length b) offset) offset
  pub lent_is : last ≡ buffer_behind (write_field k t w bytes (length b) offset) offset b

module _ (k : Configuration) (t : Tables) (w : Content) (bytes offset : ℕ) (b : List ℕ) where
  -- a frame that is longer than a field may be
  pub long-refused : field_most < bytes → Answered k t w bytes offset b (refused (field_malformed offset)) b
  long-refused l =
      record { told_is = rw (lt-leb bytes field_most l) refl; lent_is = rw (lt-leb bytes field_most l) refl }

  module _ (short : leb bytes field_most ≡ true) where
    -- a field that is not complete within the buffer
    pub room-refused : leb (offset + (3 + bytes)) (length b) ≡ false → Answered k t w bytes offset b (refused (field_malformed offset)) b
    room-refused l = record { told_is = rw (short, l) refl; lent_is = rw (short, l) refl }

    module _ (room : leb (offset + (3 + bytes)) (length b) ≡ true) where
      -- otherwise by what the frame's writer says
      field-on : write_field k t w bytes (length b) offset ≡ and_then (write_frame k t w bytes) (λ frame. accepted (field_of frame))
      field-on = rw (short, room) refl

      -- the part behind the header, with what the frame's writer left in it
      abbrev put_back : List ℕ → List ℕ
      put_back last = put_mid (offset + 3) (offset + 3 + bytes - (offset + 3)) b last

      field-by : (a : Answer (List ℕ)) → write_frame k t w bytes ≡ a → write_field k t w bytes (length b) offset ≡ and_then a (λ frame. accepted (field_of frame))
      field-by a e = field-on ∙ ap (λ (z : Answer (List ℕ)). and_then z (λ frame. accepted (field_of frame))) e

      -- the frame is refused: the part is as it was, and with it the buffer
      pub frame_refused : (part last : List ℕ) (r : Reply) → part ≡ mid_of (offset + 3) (offset + 3 + bytes - (offset + 3)) b → length part ≡ bytes →
          refused r ≡ told (write_frame k t w (length part)) → last ≡ frame_behind (write_frame k t w (length part)) part →
          Answered k t w bytes offset b (refused r) (put_back last)
      frame_refused part last r is size answer lent =
          by (write_frame k t w bytes) refl (subst (λ (n : ℕ). refused r ≡ told (write_frame k t w n)) size answer) (subst (λ (n : ℕ). last ≡ frame_behind (write_frame k t w n) part) size lent)
        where
          by : (a : Answer (List ℕ)) → write_frame k t w bytes ≡ a → refused r ≡ told a → last ≡ frame_behind a part → Answered k t w bytes offset b (refused r) (put_back last)
          by (accepted f) e x y = absurd (no-refusal (sym x))
          by (refused q) e x y =
              record {
                told_is = ap (λ (z : Answer (Unit {0})). and_then z (λ u. accepted 0)) x ∙ sym (ap (λ (z : Answer (List ℕ)). end_behind z offset) (field-by (refused q) e));
                lent_is =
                    ap put_back (y ∙ is) ∙ put_same (offset + 3) (offset + 3 + bytes - (offset + 3)) b ∙
                    sym (ap (λ (z : Answer (List ℕ)). buffer_behind z offset b) (field-by (refused q) e));
              }

      -- the frame is written: the header before it makes the field
      pub frame-written : (part last final : List ℕ) → length part ≡ bytes →
          accepted tt ≡ told (write_frame k t w (length part)) → last ≡ frame_behind (write_frame k t w (length part)) part →
          final ≡ sets (put_back last) offset (tag_frame ∷ bytes / 256 ∷ bytes % 256 ∷ []) →
          Answered k t w bytes offset b (accepted (offset + 3 + bytes)) final
      frame-written part last final size answer lent laid =
          by (write_frame k t w bytes) refl (subst (λ (n : ℕ). accepted tt ≡ told (write_frame k t w n)) size answer) (subst (λ (n : ℕ). last ≡ frame_behind (write_frame k t w n) part) size lent)
        where
          by : (a : Answer (List ℕ)) → write_frame k t w bytes ≡ a → accepted tt ≡ told a → last ≡ frame_behind a part → Answered k t w bytes offset b (accepted (offset + 3 + bytes)) final
          by (refused q) e x y = absurd (no-refusal x)
          by (accepted f) e x y =
              let sized : length f ≡ bytes = (parted k t w bytes e).size in
              let end : offset + 3 + bytes ≡ offset + length (field_of f) = omega (arith, sized) in
              record {
                told_is = ap accepted end ∙ sym (ap (λ (z : Answer (List ℕ)). end_behind z offset) (field-by (accepted f) e));
                lent_is =
                    laid ∙
                    ap (λ (g : List ℕ). sets (put_back g) offset (tag_frame ∷ bytes / 256 ∷ bytes % 256 ∷ [])) y ∙
                    field-laid b offset bytes tag_frame (bytes / 256) (bytes % 256) f sized (omega (arith, leb-true (offset + (3 + bytes)) (length b) room)) ∙
                    ap (λ (n : ℕ). sets b offset (tag_frame ∷ n / 256 ∷ n % 256 ∷ f)) (sym sized) ∙
                    sym (ap (λ (z : Answer (List ℕ)). buffer_behind z offset b) (field-by (accepted f) e));
              }
