-- Theorem 4: what was read with no more escapes than its lines need is written as it was read, so what comes back of it is what was read:
-- the symbols leave the coder where it was, and what came late is sent again as far as there was room. Assumes nothing.
use Prim.Native.Nat.{ℕ, ◌+◌, ◌-◌, ◌/◌, min}
use mathlib.Core.Path.{◌≡◌, refl, sym, ap, ◌∙◌}
use mathlib.Core.Bool.{Bool, true, false, cond}
use mathlib.Core.List.{List, []}
use native.Mathlib.Omega.{arith}
use lib.Dec.{eqb}
use lib.IntN.{ℤ, pos}
use lib.ListN.{length, take, replicate}
use Rattle.common.specs.Reply.{accepted}
use Rattle.common.specs.Tables.{Tables}
use Rattle.common.specs.declared.configuration.Configuration.{Configuration}
use Rattle.common.proofs.Bools.{by-test}
use Rattle.buffer_reader.specs.declared.Cursor.{Cursor}
use Rattle.side_info.specs.declared.SideInfo.{SideInfo}
use Rattle.sending.specs.Sending.{Bit}
use Rattle.tns_data.specs.Tns.{Tns}
use Rattle.tns_data.proofs.Image.{sixteen-length}
use Rattle.spectral_data.specs.Sent.{pairs_of}
use Rattle.spectral_data.specs.Spectral.{Pair, lines_of, levels_of}
use Rattle.residual_data.specs.Residual.{AllLate, late_from, nonzero, residual_list, escaped_by}
use Rattle.residual_data.specs.Sent.{residual_bits, late_pairs, early_lines, cut_line, back_lines}
use Rattle.residual_data.proofs.Residuals.{residual-length}
use Rattle.residual_data.proofs.Again.{residual-again, standard-again}
use Rattle.frame_reader.specs.Frame.{Data, Frame, filled_to, with_late, with_residual}
use Rattle.frame_writer.specs.Frame.{Content, least_bit, late_bits}
use Rattle.frame_writer.specs.Taken.{content_of, FewInCrate, SameEscapes}
use Rattle.frame_writer.proofs.Earlies.{early-lines}
use Rattle.frame_writer.proofs.Takes.{Rewritten, checked, taken-again, taken-written}
use Rattle.round_trip.specs.RoundTrip.{lines_in, early_length, late_room, returned, returned_lines, returned_list, WrittenIsRead, ReadAgain}

-- a choice by a test that holds, and by one that does not
chosen : {A : Type 0} {b : Bool} (y z : A) → b ≡ true → cond b y z ≡ y
chosen y z e = rw e refl

other : {A : Type 0} {b : Bool} (y z : A) → b ≡ false → cond b y z ≡ z
other y z e = rw e refl

-- a frame by its fields
same-cursor : {h i t u : ℕ} → h ≡ i → t ≡ u → ◌≡◌ {A = Cursor} (record { head = h; tail = t }) (record { head = i; tail = u })
same-cursor a b = cc

same-frame : {s : SideInfo} {a b : Tns} {p q : List Pair} {l m : List ℤ} {v w : List ℕ} {c d : Cursor} {r o : ℕ} → a ≡ b → p ≡ q → l ≡ m → v ≡ w → c ≡ d → r ≡ o →
    ◌≡◌ {A = Frame} (record { side = s; tns = a; pairs = p; lines = l; residual = v; cursor = c; range = r }) (record { side = s; tns = b; pairs = q; lines = m; residual = w; cursor = d; range = o })
same-frame e f g h i j = cc

module _ (k : Configuration) (t : Tables) (f : List ℕ) (x : Frame) (standard : k.reading ≡ 1) (same : SameEscapes x) (r : Rewritten k t f (lines_in k) x) where
  abbrev w : Content
  w = content_of x

  abbrev n : ℕ
  n = lines_in k

  abbrev pairs : ℕ
  pairs = x.side.lastnz / 2

  abbrev tail : ℕ
  tail = early_length k w

  abbrev read : Data
  read = record { side = x.side; tns = x.tns; pairs = x.pairs; range = x.range }

  abbrev place : Cursor
  place = record { head = x.cursor.head; tail = tail }

  not-crate : eqb k.reading 0 ≡ false
  not-crate = rw standard refl

  -- the room that the writer finds is the reader's
  room-is : late_room k t w (length f) ≡ r.room
  room-is = rw not-crate (omega (arith, r.all))

  -- in least-bit mode
  module _ (least : least_bit w ≡ true) where
    abbrev late : List ℤ → AllLate
    late lines = late_from f (escaped_by k.reading (levels_of x.pairs)) 0 lines tail r.room

    abbrev back : List ℤ
    back = back_lines x.lines (cut_line x.lines 0 pairs r.room) 0 pairs

    frame_is : with_late k.reading n f read place r.room ≡ x
    frame_is = sym (chosen (with_late k.reading n f read place r.room) (with_residual n f read place r.room) least) ∙ r.late

    early-is : lines_of x.pairs ≡ early_lines x.lines 0 pairs
    early-is = ap lines_of (sym r.pairs) ∙ ap (λ (b : Bool). lines_of (pairs_of b x.lines 0 pairs)) least ∙ early-lines x.lines 0 pairs

    lines_are : x.lines ≡ filled_to n (late (early_lines x.lines 0 pairs)).lines
    lines_are = ap (λ (y : Frame). y.lines) (sym frame_is) ∙ ap (λ (l : List ℤ). filled_to n (late l).lines) early-is

    all-late : late (early_lines x.lines 0 pairs) ≡ record { lines = back; tail = tail + length (take r.room (late_pairs x.lines 0 pairs)); room = r.room - length (take r.room (late_pairs x.lines 0 pairs)) }
    all-late =
        standard-again f x.lines (replicate (n - length (late (early_lines x.lines 0 pairs)).lines) (pos 0)) (levels_of x.pairs) pairs k.reading tail r.room not-crate (λ q h. sym (same q h)) lines_are

    late-lines : filled_to n back ≡ x.lines
    late-lines = ap (λ (a : AllLate). filled_to n a.lines) (sym all-late) ∙ sym lines_are

    late-tail : tail + length (take r.room (late_pairs x.lines 0 pairs)) ≡ x.cursor.tail
    late-tail =
        ap (λ (a : AllLate). a.tail) (sym all-late) ∙
        ap (λ (l : List ℤ). (late l).tail) (sym early-is) ∙
        ap (λ (y : Frame). y.cursor.tail) frame_is

    back-late : returned k t w (length f) ≡ x
    back-late =
        let room = late_room k t w (length f) in
        same-frame r.filters r.pairs
        (chosen (returned_lines k room w) x.lines least ∙ ap (λ (m : ℕ). returned_lines k m w) room-is ∙ late-lines)
        (chosen [] (returned_list room w) least ∙ ap (λ (y : Frame). y.residual) frame_is)
        (same-cursor (sym r.head)
        (ap (λ (m : ℕ). tail + m) (chosen (length (take room (late_bits w))) (min room (nonzero x.lines)) least) ∙
        ap (λ (m : ℕ). tail + length (take m (late_bits w))) room-is ∙
        ap (λ (l : List Bit). tail + length (take r.room l)) (chosen (late_pairs x.lines 0 pairs) (residual_bits 0 x.lines x.residual) least) ∙ late-tail))
        (sym r.range)

  -- outside it
  module _ (least : least_bit w ≡ false) where
    plain-is : with_residual n f read place r.room ≡ x
    plain-is = sym (other (with_late k.reading n f read place r.room) (with_residual n f read place r.room) least) ∙ r.late

    list-is : residual_list f tail r.room x.lines ≡ x.residual
    list-is = ap (λ (l : List ℤ). residual_list f tail r.room l) (ap (λ (y : Frame). y.lines) (sym plain-is)) ∙ ap (λ (y : Frame). y.residual) plain-is

    list_back : returned_list r.room w ≡ x.residual
    list_back = rw list-is at (residual-again f tail r.room x.lines)

    list-tail : tail + min r.room (nonzero x.lines) ≡ x.cursor.tail
    list-tail =
        ap (λ (m : ℕ). tail + m) (sym (residual-length f tail r.room x.lines)) ∙
        ap (λ (l : List ℤ). tail + length (residual_list f tail r.room l)) (ap (λ (y : Frame). y.lines) (sym plain-is)) ∙
        ap (λ (y : Frame). y.cursor.tail) plain-is

    back-plain : returned k t w (length f) ≡ x
    back-plain =
        let room = late_room k t w (length f) in
        same-frame r.filters r.pairs (other (returned_lines k room w) x.lines least)
        (other [] (returned_list room w) least ∙ ap (λ (m : ℕ). returned_list m w) room-is ∙ list_back)
        (same-cursor (sym r.head)
        (ap (λ (m : ℕ). tail + m) (other (length (take room (late_bits w))) (min room (nonzero x.lines)) least) ∙
        ap (λ (m : ℕ). tail + min m (nonzero x.lines)) room-is ∙ list-tail))
        (sym r.range)

  -- what comes back of what was read is what was read
  pub read_back : returned k t w (length f) ≡ x
  read_back = by-test (least_bit w) back-late back-plain

pub read_again : WrittenIsRead 1 → ReadAgain 1
read_again written k t count f x standard bytes e same =
    let few : FewInCrate k x = λ zero. absurd (omega (arith, standard, zero)) in
    let wrote = taken-written k t count f x e (λ h. standard) few same in
    record {
      frame = _;
      written = wrote;
      again =
          written k t (content_of x) (length f) count _ (record { reading-is = standard; sixteen = sixteen-length x.tns; frame_is = wrote; enough = (checked k t count f x e).2 }) ∙
          ap accepted (read_back k t f x standard same (taken-again k t count f x e (λ h. standard) few same));
    }
