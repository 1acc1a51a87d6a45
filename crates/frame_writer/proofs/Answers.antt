-- The checks in their order: what each return of the code says of the definition, and of the lent frame. Assumes nothing.
use Prim.Native.Nat.{ℕ, ◌+◌, ◌*◌, ◌≤◌, ◌<◌}
use mathlib.Core.Path.{◌≡◌, refl, ap, ◌∙◌}
use mathlib.Core.Bool.{true, false}
use mathlib.Core.List.{List}
use native.Mathlib.Omega.{arith}
use borrow.Author.Tests.{lt-ltb, le-ltb, eq-eqb, ne_eqb}
use lib.Dec.{ltb}
use lib.ListN.{length}
use Rattle.common.specs.Reply.{Reply, Answer, accepted, refused, tables_fail, wrong_count, field_outside, line_outside, residual_too_long, no_room}
use Rattle.common.specs.Configuration.{frame_lines}
use Rattle.common.specs.Tables.{Tables, tables_pass}
use Rattle.common.specs.declared.configuration.Configuration.{Configuration}
use Rattle.common.proofs.Bools.{and_left, and_right}
use Rattle.side_info.specs.Record.{side_passes}
use Rattle.tns_data.specs.Sent.{tns_passes}
use Rattle.sending.specs.Sending.{laid}
use Rattle.sending.specs.Private.{laid_all}
use Rattle.sending.proofs.Counts.{laid-counted}
use Rattle.range_encoder.specs.declared.EncoderState.{EncoderState}
use Rattle.residual_data.specs.Residual.{nonzero}
use Rattle.frame_writer.specs.Frame.{Content, symbols_of, early_bits, tail_bits, reserved, fields_pass, first_failing, write_frame}
use Rattle.frame_writer.specs.Returned.{told, frame_behind}
use Rattle.frame_writer.specs.Private.{Judged, Passed, write_fitting, write_on}
use Rattle.frame_writer.proofs.Lines.{all-modest}

-- what a return says: what is told, and the lent frame
abbrev pub Returns : Answer (Unit {0}) → List ℕ → Answer (List ℕ) → List ℕ → Type 0
Returns r g a f = (r ≡ told a) × (g ≡ frame_behind a f)

-- a refusal leaves the frame
pub refusing : (r : Reply) (g f : List ℕ) (a : Answer (List ℕ)) → a ≡ refused r → g ≡ f → Returns (refused r) g a f
refusing r g f a e same = rw e (refl, same)

-- and an answer by another
pub answering : (r : Answer (Unit {0})) (g f : List ℕ) (a b : Answer (List ℕ)) → a ≡ b → Returns r g b f → Returns r g a f
answering r g f a b e h = rw e h

-- no line fails, by the place that the code has found
pub none-fails : (w : Content) (place : ℕ) → place ≡ first_failing w → length w.lines ≤ place → length w.lines ≤ first_failing w
none-fails w place is l = rw (← is) l

module _ (k : Configuration) (t : Tables) (ne : ℕ) (w : Content) (n : ℕ) where
  -- 16
  pub no_room-refused : ltb (8 * n) (length (early_bits k.fs_ind ne w) + reserved (symbols_of k t (8 * n) ne w)) ≡ true → write_fitting k t ne w n ≡ refused no_room
  no_room-refused e = rw e refl

  pub fits : ltb (8 * n) (length (early_bits k.fs_ind ne w) + reserved (symbols_of k t (8 * n) ne w)) ≡ false → write_fitting k t ne w n ≡ accepted (laid k.reading n (symbols_of k t (8 * n) ne w) (tail_bits k t (8 * n) ne w))
  fits e = rw e refl

  -- 13, 14, 15
  pub field-refused : fields_pass k.fs_ind ne w ≡ false → write_on k t ne w n ≡ refused field_outside
  field-refused e = rw e refl

  module _ (passed : fields_pass k.fs_ind ne w ≡ true) where
    pub line_refused : (place : ℕ) → place ≡ first_failing w → place < length w.lines → write_on k t ne w n ≡ refused (line_outside place)
    line_refused place is l =
        let e : ltb (first_failing w) (length w.lines) ≡ true = rw (← is) (lt-ltb place (length w.lines) l) in
        rw (passed, e, is) refl

    module _ (lines-kept : length w.lines ≤ first_failing w) where
      kept : ltb (first_failing w) (length w.lines) ≡ false
      kept = le-ltb (first_failing w) (length w.lines) lines-kept

      pub residual-refused : nonzero w.lines < length w.residual → write_on k t ne w n ≡ refused residual_too_long
      residual-refused l = rw (passed, kept, lt-ltb (nonzero w.lines) (length w.residual) l) refl

      pub write-on : length w.residual ≤ nonzero w.lines → write_on k t ne w n ≡ write_fitting k t ne w n
      write-on l = rw (passed, kept, le-ltb (nonzero w.lines) (length w.residual) l) refl

      -- what has passed then
      pub all-passed : length w.lines ≡ ne → length w.indices ≡ 16 → length w.residual ≤ nonzero w.lines → Passed k.fs_ind ne w
      all-passed count sixteen few =
          record {
            count = count;
            sixteen = sixteen;
            sides = and_left (side_passes k.fs_ind ne w.side) (tns_passes w.side.tns_first w.side.tns_second w.first w.second w.indices) passed;
            filters = and_right (side_passes k.fs_ind ne w.side) (tns_passes w.side.tns_first w.side.tns_second w.first w.second w.indices) passed;
            modest = all-modest w.lines w.side.lastnz lines-kept;
            few = few;
          }

-- 1 to 4
module _ (k : Configuration) (t : Tables) (w : Content) (n : ℕ) where
  pub lines-refused : {r : Reply} → frame_lines k n ≡ refused r → write_frame k t w n ≡ refused r
  lines-refused e = rw e refl

  module _ (ne : ℕ) (e : frame_lines k n ≡ accepted ne) where
    pub tables-refused : tables_pass t ≡ false → write_frame k t w n ≡ refused tables_fail
    tables-refused g = rw (e, g) refl

    module _ (g : tables_pass t ≡ true) where
      pub count-refused : (length w.lines ≡ ne → ⊥) → write_frame k t w n ≡ refused (wrong_count (length w.lines))
      count-refused d = rw (e, g, ne_eqb (length w.lines) ne d) refl

      pub frame_on : length w.lines ≡ ne → write_frame k t w n ≡ write_on k t ne w n
      frame_on d = rw (e, g, eq-eqb (length w.lines) ne d) refl

-- the count leaves the frame as it was
pub counted-keeps : (k : Configuration) (t : Tables) (ne : ℕ) (w : Content) (st : EncoderState) (f g h : List ℕ) → g ≡ f → h ≡ laid_all false st g (symbols_of k t (8 * length g) ne w) → h ≡ f
counted-keeps k t ne w st f g h same is = is ∙ laid-counted st g (symbols_of k t (8 * length g) ne w) ∙ same

-- 16 by what the code has counted: a refusal, or a frame that has room and is filled
module _ (k : Configuration) (t : Tables) (ne : ℕ) (w : Content) (f h : List ℕ) (early res : ℕ) (same : h ≡ f) (count : early ≡ length (early_bits k.fs_ind ne w)) (told-e : res ≡ reserved (symbols_of k t (8 * length f) ne w)) where
  pub refused-room : 8 * length h < early + res → Returns (refused no_room) h (write_fitting k t ne w (length f)) f
  refused-room l =
      refusing no_room h f (write_fitting k t ne w (length f))
      (no_room-refused k t ne w (length f) (lt-ltb (8 * length f) (length (early_bits k.fs_ind ne w) + reserved (symbols_of k t (8 * length f) ne w)) (omega (arith, l, count, told-e, ap length same)))) same

  module _ (room : early + res ≤ 8 * length h) where
    enough : length (early_bits k.fs_ind ne w) + reserved (symbols_of k t (8 * length f) ne w) ≤ 8 * length f
    enough = omega (arith, room, count, told-e, ap length same)

    pub fill-asked : Judged k ne (length f) → Passed k.fs_ind ne w → Judged k ne (length h) × Passed k.fs_ind ne w × (length (early_bits k.fs_ind ne w) + reserved (symbols_of k t (8 * length h) ne w) ≤ 8 * length h)
    fill-asked j p = rw same (j, p, enough)

    pub frame-filled : (last : List ℕ) → last ≡ laid k.reading (length h) (symbols_of k t (8 * length h) ne w) (tail_bits k t (8 * length h) ne w) → Returns (accepted tt) last (write_fitting k t ne w (length f)) f
    frame-filled last is =
        let e = fits k t ne w (length f) (le-ltb (8 * length f) (length (early_bits k.fs_ind ne w) + reserved (symbols_of k t (8 * length f) ne w)) enough) in
        rw e (refl, is ∙ ap (λ (x : List ℕ). laid k.reading (length x) (symbols_of k t (8 * length x) ne w) (tail_bits k t (8 * length x) ne w)) same)
