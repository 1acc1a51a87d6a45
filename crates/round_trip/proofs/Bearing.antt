-- Any frame that bears content, read: its side information and TNS data are the content's, and so are its pairs, as far as their tail bits
-- have room. The round trip and the damage are both cases of this. Assumes nothing.
use Prim.Native.Nat.{ℕ, ◌+◌, ◌-◌, ◌*◌, ◌/◌, ◌≤◌}
use mathlib.Core.Path.{◌≡◌, refl, sym, ap, subst, ◌∙◌}
use mathlib.Core.Bool.{true}
use mathlib.Core.List.{List, [], ◌++◌}
use native.Mathlib.Omega.{arith}
use native.Mathlib.Nat.{add-zero, zero-add}
use lib.Dec.{eqb}
use lib.ListN.{length, length-append}
use Rattle.common.specs.Reply.{Answer, accepted}
use Rattle.common.specs.Tables.{Tables}
use Rattle.common.specs.declared.configuration.Configuration.{Configuration}
use Rattle.common.proofs.Bools.{and_left, and_right}
use Rattle.common.proofs.Configurations.{frame-ranges}
use Rattle.buffer_reader.specs.declared.Cursor.{Cursor}
use Rattle.contexts.specs.Contexts.{rate_flag}
use Rattle.side_info.specs.Layout.{side_fields, side_length}
use Rattle.side_info.specs.Reader.{read_all}
use Rattle.side_info.specs.Record.{side_passes}
use Rattle.side_info.proofs.RoundTrip.{fields_read, values-fit}
use Rattle.side_info.proofs.SideLimits.{side-limits}
use Rattle.range_encoder.specs.Interval.{Sent, Interval, whole, behind}
use Rattle.range_encoder.specs.Theory.{state_at}
use Rattle.range_encoder.proofs.Decodes.{start-whole}
use Rattle.range_encoder.proofs.Intervals.{within-whole}
use Rattle.sending.specs.Sending.{Bit, Stands}
use Rattle.sending.proofs.Standing.{behind-append, Holding, holding-on, Room, Came, same, cut, came-weaker, place_at}
use Rattle.sending.proofs.Stands.{stands-append}
use Rattle.tns_data.specs.Tns.{Tns, read_tns, weighting_row}
use Rattle.tns_data.specs.Sent.{sent_tns, tns_of, tns_passes}
use Rattle.tns_data.proofs.Back.{tns-back}
use Rattle.spectral_data.specs.Spectral.{read_pairs}
use Rattle.spectral_data.specs.Sent.{sent_pairs, pairs_bits, pairs_of}
use Rattle.spectral_data.specs.Private.{Modest}
use Rattle.spectral_data.proofs.Back.{asked, pairs-given}
use Rattle.spectral_data.proofs.Puts.{pairs-split}
use Rattle.spectral_data.proofs.Sends.{sent_front}
use Rattle.frame_reader.specs.Frame.{Data, start_in, read_data}
use Rattle.frame_writer.specs.Frame.{Content, fields_bits, least_bit}
use Rattle.frame_writer.proofs.Fields.{fields-bits-length, fields-stand}
use Rattle.frame_writer.proofs.Owners.{lines-modest, symbols-given}
use Rattle.round_trip.specs.RoundTrip.{lines_in, read_up_to}
use Rattle.round_trip.specs.Private.{Fit, Bears, EarlyRoom, data_up_to, cursor_up_to}

-- the first m pairs
abbrev pub UpToCame : Type 0
UpToCame =
    (k : Configuration) (t : Tables) (w : Content) (g : List ℕ) → Fit k t w (length g) → Bears k t w g → (m : ℕ) → m ≤ w.side.lastnz / 2 →
    Came (asked w.lines m) (EarlyRoom k t w g) (read_up_to k t (8 * length g) (lines_in k) m g (record { head = 0; tail = 0 })) (accepted (data_up_to k t w (length g) m, cursor_up_to k t w (length g) m))

-- all data
abbrev pub DataCame : Type 0
DataCame =
    (k : Configuration) (t : Tables) (w : Content) (g : List ℕ) → Fit k t w (length g) → Bears k t w g →
    Came (asked w.lines (w.side.lastnz / 2)) (EarlyRoom k t w g) (read_data k t (8 * length g) (lines_in k) g (record { head = 0; tail = 0 }))
    (accepted (data_up_to k t w (length g) (w.side.lastnz / 2), cursor_up_to k t w (length g) (w.side.lastnz / 2)))

abbrev origin : Cursor
origin = record { head = 0; tail = 0 }

module _ (k : Configuration) (t : Tables) (w : Content) (g : List ℕ) (fit : Fit k t w (length g)) (bears : Bears k t w g) where
  abbrev fs : ℕ
  fs = k.fs_ind

  abbrev n : ℕ
  n = lines_in k

  abbrev fields : List Bit
  fields = fields_bits (side_fields fs n w.side)

  abbrev pairs : ℕ
  pairs = w.side.lastnz / 2

  abbrev filters : Tns
  filters = tns_of w.first w.second w.indices

  abbrev weighting : ℕ
  weighting = weighting_row k.duration (8 * length g)

  abbrev tns : List Sent
  tns = sent_tns t.orders t.coefficients weighting filters

  abbrev rate : ℕ
  rate = rate_flag (8 * length g) fs

  abbrev sent_up_to : ℕ → List Sent
  sent_up_to m = sent_pairs t.lookup t.frequencies rate n w.lines 0 m 0

  abbrev bits_up_to : ℕ → List Bit
  bits_up_to m = pairs_bits (least_bit w) w.lines 0 m

  short : length g ≤ 65535
  short = omega (arith, (frame-ranges k (length g) fit.frame).4)

  sides : side_passes fs n w.side ≡ true
  sides = and_left (side_passes fs n w.side) (tns_passes w.side.tns_first w.side.tns_second w.first w.second w.indices) fit.fields

  stand : Stands g 0 fields × Stands g (0 + length fields) (bits_up_to pairs)
  stand = stands-append g 0 fields (bits_up_to pairs) bears.stands

  -- the side information
  side-read : read_all fs n g origin ≡ accepted (w.side, record { head = 0; tail = length fields })
  side-read =
      let (low, least, most, size, _) = frame-ranges k (length g) fit.frame in
      let ok = side-limits fs n w.side sides in
      let is = fields-stand g 0 (side_fields fs n w.side) stand.0 ∙ values-fit w.side fs n low least most ok in
      let end : 0 + side_length fs n w.side ≡ length fields = zero-add (side_length fs n w.side) ∙ sym (fields-bits-length (side_fields fs n w.side)) in
      fields_read w.side fs n low least most ok g 0 0 short (omega arith) is ∙ ap (λ (e : ℕ). accepted (w.side, record { head = 0; tail = e })) end

  start-read : start_in g (record { head = 0; tail = length fields }) ≡ accepted (state_at g 0 whole, place_at whole (length fields))
  start-read = rw (start-whole g (record { head = 0; tail = length fields }) short (omega (arith, bears.head))) refl

  -- what it holds behind the side information
  modest : Modest w.lines
  modest = lines-modest w fit.lines

  held : Holding g whole (length fields) (tns ++ sent_up_to pairs) (bits_up_to pairs)
  held =
      record {
        within = within-whole;
        all = symbols-given k t (8 * length g) n w fit.tables fit.fields modest;
        inside = bears.inside;
        head = bears.head;
        stands = subst (λ (i : ℕ). Stands g i (bits_up_to pairs)) (zero-add (length fields)) stand.1;
      }

  tns-read : read_tns t.orders t.coefficients weighting w.side.tns_first w.side.tns_second (state_at g 0 whole) g (place_at whole (length fields))
      ≡ accepted (record { value = filters; state = state_at g 0 (behind whole tns) }, place_at (behind whole tns) (length fields))
  tns-read =
      let passes = and_right (side_passes fs n w.side) (tns_passes w.side.tns_first w.side.tns_second w.first w.second w.indices) fit.fields in
      tns-back t.orders t.coefficients weighting w.side.tns_first w.side.tns_second w.first w.second w.indices fit.sixteen passes
      g (length fields) whole (sent_up_to pairs) bears.bytes short held.within held.all held.head held.inside

  -- and behind the TNS data
  held_on : Holding g (behind whole tns) (length fields) (sent_up_to pairs) (bits_up_to pairs)
  held_on =
      subst (λ (i : ℕ). Holding g (behind whole tns) i (sent_up_to pairs) (bits_up_to pairs)) (add-zero (length fields))
      (holding-on g whole (length fields) tns (sent_up_to pairs) [] (bits_up_to pairs) held)

  module _ (m : ℕ) (few : m ≤ pairs) where
    abbrev left : ℕ
    left = pairs - m

    parts : pairs ≡ m + left
    parts = omega arith

    abbrev rest : List Sent
    rest = (sent_front t.lookup t.frequencies rate n w.lines 0 m left 0).0

    abbrev later : List Bit
    later = pairs_bits (least_bit w) w.lines (0 + m) left

    symbols-are : sent_up_to pairs ≡ sent_up_to m ++ rest
    symbols-are = ap sent_up_to parts ∙ (sent_front t.lookup t.frequencies rate n w.lines 0 m left 0).1

    bits_are : bits_up_to pairs ≡ bits_up_to m ++ later
    bits_are = ap bits_up_to parts ∙ pairs-split (least_bit w) w.lines 0 m left

    roomy : EarlyRoom k t w g → Room g (behind whole tns) (length fields) (sent_up_to m ++ rest) (bits_up_to m ++ later)
    roomy room some =
        let all = subst (λ (j : Interval). 8 * j.shifts + length (fields ++ bits_up_to pairs) + 2 ≤ 8 * length g) (behind-append whole tns (sent_up_to pairs)) room in
        let r : 8 * (behind (behind whole tns) (sent_up_to pairs)).shifts + length fields + length (bits_up_to pairs) + 2 ≤ 8 * length g = omega (arith, all, length-append fields (bits_up_to pairs)) in
        subst (λ (xs : List Sent). 8 * (behind (behind whole tns) xs).shifts + length fields + length (bits_up_to m ++ later) + 2 ≤ 8 * length g) symbols-are
        (subst (λ (bs : List Bit). 8 * (behind (behind whole tns) (sent_up_to pairs)).shifts + length fields + length bs + 2 ≤ 8 * length g) bits_are r)

    abbrev PairsCame : Type 0
    PairsCame =
        Came (asked w.lines m) (EarlyRoom k t w g)
        (read_pairs t.lookup t.frequencies (eqb k.reading 1) (least_bit w) rate n 0 m 0 (state_at g 0 (behind whole tns)) g (place_at (behind whole tns) (length fields)))
        (accepted (record { value = pairs_of (least_bit w) w.lines 0 m; state = state_at g 0 (behind (behind whole tns) (sent_up_to m)) }, place_at (behind (behind whole tns) (sent_up_to m)) (length fields + length (bits_up_to m))))

    pairs-read : PairsCame
    pairs-read =
        let h = subst (λ (xs : List Sent). Holding g (behind whole tns) (length fields) xs (bits_up_to m ++ later)) symbols-are (subst (Holding g (behind whole tns) (length fields) (sent_up_to pairs)) bits_are held_on) in
        came-weaker roomy
        ((pairs-given g bears.bytes short t.lookup t.frequencies (eqb k.reading 1) (least_bit w) rate n w.lines modest m 0 m 0 (omega arith)).at (behind whole tns) (length fields) rest later h)

    -- the stages together
    up_to : PairsCame →
        Came (asked w.lines m) (EarlyRoom k t w g) (read_up_to k t (8 * length g) n m g origin) (accepted (data_up_to k t w (length g) m, cursor_up_to k t w (length g) m))
    up_to (same e) = same (rw (side-read, start-read, tns-read, e, behind-append whole tns (sent_up_to m)) refl)
    up_to (cut p level place at e full) = cut p level place at (rw (side-read, start-read, tns-read, e) refl) full

  -- the side record that is read says how many pairs there are
  pub all_read : read_up_to k t (8 * length g) n pairs g origin ≡ read_data k t (8 * length g) n g origin
  all_read = rw side-read refl

pub up-to-came : UpToCame
up-to-came k t w g fit bears m few = up_to k t w g fit bears m few (pairs-read k t w g fit bears m few)

pub data-came : DataCame
data-came k t w g fit bears =
    let m = w.side.lastnz / 2 in
    subst (λ (x : Answer (Data × Cursor)). Came (asked w.lines m) (EarlyRoom k t w g) x (accepted (data_up_to k t w (length g) m, cursor_up_to k t w (length g) m))) (all_read k t w g fit bears)
    (up-to-came k t w g fit bears m (omega arith))
