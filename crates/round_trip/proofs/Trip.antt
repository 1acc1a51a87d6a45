-- Written is read: a frame that the standard writer wrote bears the content, with room for all that comes early, so its data is the
-- content's; the room that is left then is the writer's, and what comes late stands there, with zeros behind it. Assumes nothing.
use Prim.Native.Nat.{ℕ, ◌+◌, ◌-◌, ◌*◌, ◌/◌, ◌%◌, ◌≤◌, ◌<◌, min}
use mathlib.Core.Path.{◌≡◌, refl, sym, ap, subst, ◌∙◌}
use mathlib.Core.Bool.{Bool, true, false, cond}
use mathlib.Core.List.{List, [], ◌++◌, map}
use native.Mathlib.Omega.{arith}
use native.Mathlib.Nat.{zero-add}
use borrow.Author.Tests.{le-ltb}
use lib.Dec.{eqb}
use lib.IntN.{ℤ}
use lib.ListN.{length, get_or, take, replicate, length-append, length-replicate}
use Rattle.common.specs.Last.{floor_log2}
use Rattle.common.specs.Reply.{accepted}
use Rattle.common.specs.Tables.{Tables}
use Rattle.common.specs.declared.configuration.Configuration.{Configuration}
use Rattle.common.proofs.Bools.{and_left}
use Rattle.common.proofs.Configurations.{frame-passed, frame-ranges}
use Rattle.common.proofs.Lasts.{log-range}
use Rattle.buffer_reader.specs.Tail.{tail_bit, Bytes}
use Rattle.buffer_reader.specs.declared.Cursor.{Cursor}
use Rattle.contexts.specs.Lines.{magnitude_at, escapes_at}
use Rattle.side_info.specs.Layout.{side_fields}
use Rattle.side_info.specs.Record.{side_passes}
use Rattle.side_info.specs.declared.SideInfo.{SideInfo}
use Rattle.side_info.proofs.Lengths.{length-range}
use Rattle.side_info.proofs.SideLimits.{SideLimits, side-limits}
use Rattle.range_encoder.specs.Encoder.{start_encoder}
use Rattle.range_encoder.specs.Interval.{Sent, whole, behind}
use Rattle.range_encoder.specs.Runs.{AllPass, state_behind, bytes_behind, own_bytes, own_last, own_bits}
use Rattle.range_encoder.specs.Theory.{Holds, Begins}
use Rattle.range_encoder.proofs.Carry.{carry-exact, sound-start, sound-behind}
use Rattle.range_encoder.proofs.Continues.{laid-continues}
use Rattle.range_encoder.proofs.Laid.{own_room}
use Rattle.range_encoder.proofs.OwnBits.{begins-inside}
use Rattle.sending.specs.Sending.{Bit, Stands, put_bits, laid}
use Rattle.sending.proofs.Puts.{put-bits-length}
use Rattle.sending.proofs.Standing.{came-whole}
use Rattle.sending.proofs.Stands.{laid-bytes, stands-append}
use Rattle.tns_data.specs.Sent.{tns_passes}
use Rattle.tns_data.specs.Tns.{Tns}
use Rattle.spectral_data.specs.Spectral.{lines_of, levels_of}
use Rattle.spectral_data.specs.Sent.{pairs_bits, pairs_of}
use Rattle.spectral_data.proofs.Lines.{levels-written}
use Rattle.residual_data.specs.Residual.{used_bits, nonzero}
use Rattle.residual_data.specs.Sent.{late_pairs, cut_line, back_lines, residual_bits}
use Rattle.residual_data.proofs.Back.{residual-back, standard-back}
use Rattle.residual_data.proofs.Residuals.{residual-length}
use Rattle.residual_data.proofs.Rooms.{available-room}
use Rattle.frame_reader.specs.Frame.{Data, Frame, read_data, filled_to, with_late, with_residual, finished, read_frame}
use Rattle.frame_writer.specs.Frame.{Content, symbols_of, fields_bits, least_bit, early_bits, late_bits, reserved, held_back, tail_bits}
use Rattle.frame_writer.specs.Whose.{Parted}
use Rattle.frame_writer.proofs.Earlies.{early-lines, plain-filled}
use Rattle.frame_writer.proofs.Fields.{fields-bits-length}
use Rattle.frame_writer.proofs.Frames.{shifts-below}
use Rattle.frame_writer.proofs.Owners.{Checked, written-checked, written-limits, lines-modest, lines-zero, symbols-given, parted}
use Rattle.frame_writer.proofs.Placed.{parted-stands, parted-zeros}
use Rattle.frame_writer.proofs.Values.{tail-low}
use Rattle.round_trip.specs.RoundTrip.{lines_in, late_room, returned_lines, returned, Written, WrittenIsRead}
use Rattle.round_trip.specs.Private.{Fit, Bears, EarlyRoom, data_up_to, cursor_up_to}
use Rattle.round_trip.proofs.Bearing.{data-came}

-- what was written passes
pub written-fit : (k : Configuration) (t : Tables) (w : Content) (bytes count : ℕ) (frame : List ℕ) → Written 1 k t w bytes count frame → Fit k t w bytes
written-fit k t w bytes count frame h =
    let found = written-checked k t w bytes h.frame_is in
    let limits = written-limits k t w bytes h.frame_is in
    record {
      standard = h.reading-is;
      sixteen = h.sixteen;
      frame = frame-passed k bytes limits.0 limits.1;
      tables = found.tables;
      count = found.count;
      fields = found.fields;
      lines = found.lines;
    }

-- ---- what comes late, over plain variables

-- a frame by its lines, its residual list and its last tail
abbrev frame_of : Data → ℕ → ℕ → List ℤ → List ℕ → ℕ → Frame
frame_of d head tail lines residual more =
    record {
      side = d.side;
      tns = d.tns;
      pairs = d.pairs;
      lines = lines;
      residual = residual;
      cursor = record { head = head; tail = tail + more };
      range = d.range;
    }

by_mode : {A B C D : Type 0} (b : Bool) {x y : D} (made : A → B → C → D) {l m : A} {r q : B} {t u : C} → (b ≡ true → x ≡ made l r t) → (b ≡ false → y ≡ made m q u) → cond b x y ≡ made (cond b l m) (cond b r q) (cond b t u)
by_mode true made one two = one refl
by_mode false made one two = two refl

module _ (g : List ℕ) (lines : List ℤ) (n pairs room tail at : ℕ) (lsb : Bool) (place : at ≡ tail) (side : SideInfo) (tns : Tns) (head range : ℕ) where
  abbrev behind_pairs : Data
  behind_pairs = record { side = side; tns = tns; pairs = pairs_of lsb lines 0 pairs; range = range }

  -- in least-bit mode, in the standard reading
  late-frame : (reading : ℕ) → eqb reading 0 ≡ false → lsb ≡ true → Stands g tail (take room (late_pairs lines 0 pairs)) →
      with_late reading n g behind_pairs (record { head = head; tail = at }) room
      ≡ frame_of behind_pairs head tail (filled_to n (back_lines lines (cut_line lines 0 pairs room) 0 pairs)) [] (length (take room (late_pairs lines 0 pairs)))
  late-frame reading standard e stands =
      let levels : (q : ℕ) → q < pairs → get_or (levels_of (pairs_of true lines 0 pairs)) q 0 ≡ escapes_at lines q = λ q l. levels-written true lines 0 pairs q l ∙ ap (escapes_at lines) (zero-add q) in
      let all = standard-back g lines (levels_of (pairs_of true lines 0 pairs)) pairs levels reading standard tail room stands in
      rw (place, e, early-lines lines 0 pairs, all) refl

  -- outside it
  residual-frame : (residual : List ℕ) → length residual ≤ nonzero lines → lsb ≡ false → length lines ≡ n → 2 * pairs ≤ n → ((k : ℕ) → 2 * pairs ≤ k → k < n → magnitude_at lines k ≡ 0) →
      Stands g tail (take room (residual_bits 0 lines residual)) → ((i : ℕ) → tail + length (take room (residual_bits 0 lines residual)) ≤ i → i < tail + room → tail_bit g i ≡ 0) →
      with_residual n g behind_pairs (record { head = head; tail = at }) room
      ≡ frame_of behind_pairs head tail lines (map (λ (b : ℕ). b % 2) (take room residual) ++ replicate (min room (nonzero lines) - min room (length residual)) 0) (min room (nonzero lines))
  residual-frame residual enough e size few zeros stands beyond =
      let whole : filled_to n (lines_of (pairs_of false lines 0 pairs)) ≡ lines =
      subst (λ (m : ℕ). 2 * pairs ≤ m → ((k : ℕ) → 2 * pairs ≤ k → k < m → magnitude_at lines k ≡ 0) → filled_to m (lines_of (pairs_of false lines 0 pairs)) ≡ lines) size (plain-filled lines pairs) few zeros in
      let count = residual-length g tail room lines in
      rw (place, e, whole, count, residual-back g tail room lines residual enough stands beyond) refl

module _ (k : Configuration) (t : Tables) (w : Content) (count : ℕ) (g : List ℕ) (h : Written 1 k t w (length g) count g) where
  abbrev n : ℕ
  n = lines_in k

  abbrev symbols : List Sent
  symbols = symbols_of k t (8 * length g) n w

  abbrev tails : List Bit
  tails = tail_bits k t (8 * length g) n w

  abbrev early : List Bit
  early = early_bits k.fs_ind n w

  abbrev room : ℕ
  room = late_room k t w (length g)

  abbrev pairs : ℕ
  pairs = w.side.lastnz / 2

  fit : Fit k t w (length g)
  fit = written-fit k t w (length g) count g h

  found : Checked k t w (length g) n g
  found = written-checked k t w (length g) h.frame_is

  part : Parted k.reading (length g) symbols tails g
  part = parted k t w (length g) h.frame_is

  all : AllPass symbols
  all = symbols-given k t (8 * length g) n w found.tables found.fields (lines-modest w found.lines)

  holds : Holds (bytes_behind start_encoder symbols) (state_behind start_encoder symbols) (behind whole symbols)
  holds = (carry-exact symbols all).holds

  limits : SideLimits k.fs_ind n w.side
  limits =
      side-limits k.fs_ind n w.side
      (and_left (side_passes k.fs_ind n w.side) (tns_passes w.side.tns_first w.side.tns_second w.first w.second w.indices) found.fields)

  -- ---- it bears the content

  bytes : Bytes g
  bytes =
      subst Bytes found.is
      (laid-bytes k.reading (length g) symbols tails all (tail-low k t (8 * length g) n w) (omega (arith, part.apart)))

  begins : Begins g 0 symbols
  begins =
      let zeros : List ℕ = replicate (length g) 0 in
      let size : length (put_bits zeros 0 tails) ≡ length g = put-bits-length zeros 0 tails ∙ length-replicate (length g) 0 in
      let is : laid 1 (length g) symbols tails ≡ g = subst (λ (r : ℕ). laid r (length g) symbols tails ≡ g) h.reading-is found.is in
      subst (λ (f : List ℕ). Begins f 0 symbols) is
      (laid-continues (put_bits zeros 0 tails) 0 (own_bytes 1 symbols) (own_last 1 symbols) (own_bits 1 symbols)
      (omega (arith, size, own_room 1 (length g) symbols all (omega (arith, part.apart)))))

  early-most : 57 ≤ length early
  early-most =
      let (low, least, most, _, _) = frame-ranges k (length g) fit.frame in
      omega (arith, (length-range k.fs_ind n w.side low least most).0, fields-bits-length (side_fields k.fs_ind n w.side), length-append (fields_bits (side_fields k.fs_ind n w.side)) (pairs_bits (least_bit w) w.lines 0 pairs))

  stands : Stands g 0 early × Stands g (0 + length early) (take room (late_bits w))
  stands =
      stands-append g 0 early (take room (late_bits w)) (parted-stands k.reading (length g) symbols tails g part)

  bears : Bears k t w g
  bears =
      record {
        bytes = bytes;
        inside = begins-inside g 0 symbols bytes all begins;
        head = omega (arith, shifts-below symbols all, found.room, holds.shifts, early-most);
        stands = stands.0;
      }

  roomy : EarlyRoom k t w g
  roomy = omega (arith, shifts-below symbols all, found.room, holds.shifts)

  -- ---- the room behind the data

  abbrev data-held : Data
  data-held = data_up_to k t w (length g) pairs

  abbrev place : Cursor
  place = cursor_up_to k t w (length g) pairs

  data-read : read_data k t (8 * length g) n g (record { head = 0; tail = 0 }) ≡ accepted (data-held, place)
  data-read = came-whole (data-came k t w g fit bears) roomy

  tail-is : place.tail ≡ length early
  tail-is = sym (length-append (fields_bits (side_fields k.fs_ind n w.side)) (pairs_bits (least_bit w) w.lines 0 pairs))

  used : used_bits place data-held.range ≡ length early + reserved symbols
  used =
      let s = state_behind start_encoder symbols in
      let sound = sound-behind start_encoder symbols sound-start all in
      let log : floor_log2 s.range ≡ floor_log2 (behind whole symbols).range = ap floor_log2 holds.range in
      omega (arith, log, log-range s.range sound.range-least sound.fits.range-fits, holds.shifts, tail-is)

  held_back-is : held_back k.reading symbols ≡ reserved symbols
  held_back-is = rw h.reading-is refl

  room-is : 8 * length g - used_bits place data-held.range ≡ room
  room-is = omega (arith, used, held_back-is)

  finish-read : finished k.reading n g data-held place ≡ accepted (cond (least_bit w) (with_late k.reading n g data-held place room) (with_residual n g data-held place room))
  finish-read =
      rw (available-room (8 * length g) place data-held.range (omega (arith, used, found.room)), room-is) refl

  late-stands : Stands g (length early) (take room (late_bits w))
  late-stands = subst (λ (i : ℕ). Stands g i (take room (late_bits w))) (zero-add (length early)) stands.1

  late-zeros : (i : ℕ) → length early + length (take room (late_bits w)) ≤ i → i < length early + room → tail_bit g i ≡ 0
  late-zeros i l m =
      parted-zeros k.reading (length g) symbols tails g part i (omega (arith, l, length-append early (take room (late_bits w)))) (omega (arith, m, held_back-is, found.room))

  -- ---- what comes late

  lastnz-is : 2 * pairs ≡ w.side.lastnz
  lastnz-is = omega (arith, limits.even)

  late-chosen : (b : Bool) → least_bit w ≡ b → Stands g (length early) (take room (cond b (late_pairs w.lines 0 pairs) (residual_bits 0 w.lines w.residual)))
  late-chosen b e = subst (λ (b : Bool). Stands g (length early) (take room (cond b (late_pairs w.lines 0 pairs) (residual_bits 0 w.lines w.residual)))) e late-stands

  zeros-chosen : (b : Bool) → least_bit w ≡ b → (i : ℕ) → length early + length (take room (cond b (late_pairs w.lines 0 pairs) (residual_bits 0 w.lines w.residual))) ≤ i → i < length early + room → tail_bit g i ≡ 0
  zeros-chosen b e =
      subst (λ (b : Bool). (i : ℕ) → length early + length (take room (cond b (late_pairs w.lines 0 pairs) (residual_bits 0 w.lines w.residual))) ≤ i → i < length early + room → tail_bit g i ≡ 0) e late-zeros

  finish-is : cond (least_bit w) (with_late k.reading n g data-held place room) (with_residual n g data-held place room) ≡ returned k t w (length g)
  finish-is =
      let few : 2 * pairs ≤ n = omega (arith, lastnz-is, limits.last) in
      let standard : eqb k.reading 0 ≡ false = rw h.reading-is refl in
      let zeros : (i : ℕ) → 2 * pairs ≤ i → i < n → magnitude_at w.lines i ≡ 0 = λ i l m. lines-zero w found.lines i (omega (arith, lastnz-is)) (omega (arith, found.count)) in
      by_mode (least_bit w) (frame_of data-held place.head (length early))
      (λ e. late-frame g w.lines n pairs room (length early) place.tail (least_bit w) tail-is w.side data-held.tns place.head data-held.range k.reading standard e (late-chosen true e)
      ∙ ap (λ (b : Bool). frame_of data-held place.head (length early) (returned_lines k room w) [] (length (take room (cond b (late_pairs w.lines 0 pairs) (residual_bits 0 w.lines w.residual))))) (sym e))
      (λ e. residual-frame g w.lines n pairs room (length early) place.tail (least_bit w) tail-is w.side data-held.tns place.head data-held.range w.residual found.residual e found.count few zeros (late-chosen false e) (zeros-chosen false e))

  frame-read : read_frame k t count g ≡ accepted (returned k t w (length g))
  frame-read =
      rw (fit.frame, found.tables, le-ltb count n h.enough, data-read, finish-read) (ap accepted finish-is)

-- ---- the theorems

module _ (k : Configuration) (t : Tables) (w : Content) (bytes count : ℕ) (frame : List ℕ) (h : Written 1 k t w bytes count frame) where
  size : length frame ≡ bytes
  size = (parted k t w bytes h.frame_is).size

  at_length : Written 1 k t w (length frame) count frame
  at_length = subst (λ (b : ℕ). Written 1 k t w b count frame) (sym size) h

  -- it bears the content, has room, and has what comes late behind it
  pub written-bears : Bears k t w frame
  written-bears = bears k t w count frame at_length

  pub written-room : EarlyRoom k t w frame
  written-room = roomy k t w count frame at_length

pub read-is-written : WrittenIsRead 1
read-is-written k t w bytes count frame h =
    subst (λ (b : ℕ). read_frame k t count frame ≡ accepted (returned k t w b)) (size k t w bytes count frame h) (frame-read k t w count frame (at_length k t w bytes count frame h))
