-- What the two streams of content that passes ask for: their symbols pass and are few, so they may be counted, and sent where 16 has room.
-- Assumes nothing.
use Prim.Native.Nat.{ℕ, ◌+◌, ◌*◌, ◌/◌, ◌≤◌}
use mathlib.Core.Path.{◌≡◌, sym, ap, ap₂, subst, ◌∙◌}
use mathlib.Core.Bool.{Bool, true, false}
use mathlib.Core.List.{List, [], ◌++◌, append-nil}
use native.Mathlib.Omega.{arith}
use lib.Dec.{eqb}
use lib.IntN.{ℤ}
use lib.ListN.{length, length-append}
use Rattle.common.specs.Tables.{Tables, coded_pass}
use Rattle.common.specs.declared.configuration.Configuration.{Configuration}
use Rattle.contexts.specs.Contexts.{rate_flag}
use Rattle.contexts.proofs.Lookups.{rate-most}
use Rattle.side_info.specs.Record.{side_passes}
use Rattle.side_info.specs.Layout.{side_fields, side_length}
use Rattle.side_info.specs.declared.SideInfo.{SideInfo}
use Rattle.side_info.proofs.SideLimits.{side-limits}
use Rattle.side_info.proofs.Lengths.{length-range}
use Rattle.range_encoder.specs.Encoder.{start_encoder, shifts_of, reserved_of}
use Rattle.range_encoder.specs.Interval.{Sent}
use Rattle.range_encoder.specs.Private.{Fits, Sound}
use Rattle.range_encoder.specs.Runs.{AllPass, state_behind}
use Rattle.range_encoder.specs.declared.EncoderState.{EncoderState}
use Rattle.range_encoder.proofs.Carry.{sound-start, sound-behind}
use Rattle.sending.specs.Private.{Ready, sent_all, laid_all}
use Rattle.sending.proofs.Sends.{ready-behind, ready-before, sent-append, laid-append, laid-all-length}
use Rattle.sending.proofs.Counts.{reserved-counted, counted-least, count-ready, send-ready}
use Rattle.tns_data.specs.Tns.{weighting_row}
use Rattle.tns_data.specs.Sent.{sent_tns, tns_of}
use Rattle.tns_data.proofs.Sends.{tns-given, tns-few}
use Rattle.spectral_data.specs.Sent.{sent_pairs, pairs_bits}
use Rattle.spectral_data.proofs.Sends.{pairs-few}
use Rattle.spectral_data.proofs.Puts.{pairs-bits-few}
use Rattle.frame_reader.proofs.Data.{weighting-most}
use Rattle.frame_writer.specs.Frame.{Content, symbols_of, fields_bits, least_bit, early_bits, reserved}
use Rattle.frame_writer.specs.Private.{Judged, Passed}
use Rattle.frame_writer.proofs.Fields.{fields-bits-length}
use Rattle.frame_writer.proofs.Frames.{shifts-below}
use Rattle.frame_writer.proofs.Values.{content-passes}

-- the bits before what comes late are the fields' and the pairs', and few
pub early-length : (fs ne : ℕ) (w : Content) → length (early_bits fs ne w) ≡ side_length fs ne w.side + length (pairs_bits (least_bit w) w.lines 0 (w.side.lastnz / 2))
early-length fs ne w =
    length-append (fields_bits (side_fields fs ne w.side)) (pairs_bits (least_bit w) w.lines 0 (w.side.lastnz / 2)) ∙
    ap (λ (n : ℕ). n + length (pairs_bits (least_bit w) w.lines 0 (w.side.lastnz / 2))) (fields-bits-length (side_fields fs ne w.side))

pub pairs-there : (fs ne : ℕ) (side : SideInfo) → ne ≤ 400 → side_passes fs ne side ≡ true → (2 * (side.lastnz / 2) ≤ ne) × (side.lastnz / 2 ≤ 200) × (side.lastnz ≤ ne)
pairs-there fs ne side most e =
    let l = (side-limits fs ne side e).last in
    (omega (arith, l), omega (arith, l, most), l)

pub early-few : (fs ne : ℕ) (side : SideInfo) (lines : List ℤ) → fs ≤ 4 → 60 ≤ ne → ne ≤ 400 → side_passes fs ne side ≡ true → side_length fs ne side + length (pairs_bits (eqb side.lsb 1) lines 0 (side.lastnz / 2)) ≤ 6074
early-few fs ne side lines low least most e =
    omega (arith, (length-range fs ne side low least most).1, pairs-bits-few (eqb side.lsb 1) lines 0 (side.lastnz / 2), (pairs-there fs ne side most e).1)

-- of content that passes
pub early-passed : (k : Configuration) (ne n : ℕ) (w : Content) → Judged k ne n → Passed k.fs_ind ne w → length (early_bits k.fs_ind ne w) ≤ 6074
early-passed k ne n w j p =
    omega (arith, early-length k.fs_ind ne w, early-few k.fs_ind ne w.side w.lines j.fs-low j.least j.most p.sides)

-- a state behind symbols that could be counted or sent
pub ready-end : {writing : Bool} {s : EncoderState} {n : ℕ} (xs : List Sent) → Ready writing s n xs → Ready writing (sent_all writing s xs) n []
ready-end {writing} {s} {n} xs h = ready-behind writing s n xs [] (rw (append-nil xs) h)

-- the symbols that are sent for content into a frame, from what the code has: those of the filters, and the pairs' behind them
module _ (k : Configuration) (t : Tables) (ne : ℕ) (w : Content) (f : List ℕ) (writing : Bool) (st : EncoderState) (weighting rate : ℕ)
    (start : st ≡ start_encoder) (weighting-is : weighting ≡ weighting_row k.duration (8 * length f)) (rate-is : rate ≡ rate_flag (8 * length f) k.fs_ind) where
  abbrev pub filters : List Sent
  filters = sent_tns t.orders t.coefficients weighting (tns_of w.first w.second w.indices)

  abbrev pub pairs : List Sent
  pairs = sent_pairs t.lookup t.frequencies rate ne w.lines 0 (w.side.lastnz / 2) 0

  abbrev pub symbols : List Sent
  symbols = symbols_of k t (8 * length f) ne w

  both : filters ++ pairs ≡ symbols
  both =
      ap₂ (λ (x y : ℕ). sent_tns t.orders t.coefficients x (tns_of w.first w.second w.indices) ++ sent_pairs t.lookup t.frequencies y ne w.lines 0 (w.side.lastnz / 2) 0) weighting-is rate-is

  module _ (j : Judged k ne (length f)) (p : Passed k.fs_ind ne w) (ready : Ready writing start_encoder (length f) symbols) where
    ready-both : Ready writing st (length f) (filters ++ pairs)
    ready-both =
        subst (λ (s : EncoderState). Ready writing s (length f) (filters ++ pairs)) (sym start) (subst (Ready writing start_encoder (length f)) (sym both) ready)

    pub tns-asked : (weighting ≤ 1) × (w.first ≤ 8) × (w.second ≤ 8) × (length w.indices ≡ 16) × Ready writing st (length f) filters
    tns-asked =
        let g = tns-given w.side.tns_first w.side.tns_second w.first w.second w.indices p.filters in
        (weighting-most weighting k.duration (8 * length f) weighting-is, g.0.most, g.1.most, p.sixteen, ready-before writing st (length f) filters pairs ready-both)

    pub pairs-asked : (g : List ℕ) (s : EncoderState) → s ≡ sent_all writing st filters → g ≡ laid_all writing st f filters →
        (rate ≤ 512) × (2 * (w.side.lastnz / 2) ≤ length w.lines) × (w.side.lastnz / 2 ≤ 200) × Ready writing s (length g) pairs
    pairs-asked g s state lent =
        let there = pairs-there k.fs_ind ne w.side j.most p.sides in
        let size : length g ≡ length f = ap length lent ∙ laid-all-length writing st f filters in
        let most : rate ≤ 512 = rw rate-is (rate-most (8 * length f) k.fs_ind) in
        (most, omega (arith, there.0, p.count), there.1, rw (size, state) (ready-behind writing st (length f) filters pairs ready-both))

  pub both-sent : (g h : List ℕ) (s r : EncoderState) → s ≡ sent_all writing st filters → g ≡ laid_all writing st f filters → r ≡ sent_all writing s pairs → h ≡ laid_all writing s g pairs →
      (r ≡ sent_all writing start_encoder symbols) × (h ≡ laid_all writing start_encoder f symbols)
  both-sent g h s r state lent last lent' = (
    last ∙
        ap (λ (x : EncoderState). sent_all writing x pairs) state ∙
        sym (sent-append writing st filters pairs) ∙
        ap₂ (λ (x : EncoderState) (xs : List Sent). sent_all writing x xs) start both,
    lent' ∙
        ap₂ (λ (x : EncoderState) (g : List ℕ). laid_all writing x g pairs) state lent ∙
        sym (laid-append writing st f filters pairs) ∙
        ap₂ (λ (x : EncoderState) (xs : List Sent). laid_all writing x f xs) start both,
  )

module _ (k : Configuration) (t : Tables) (passes : coded_pass t ≡ true) (ne n : ℕ) (w : Content) (j : Judged k ne n) (p : Passed k.fs_ind ne w) where
  pub symbols-pass : AllPass (symbols_of k t (8 * n) ne w)
  symbols-pass = content-passes k t (8 * n) ne w passes p.filters p.modest

  pub symbols-few : 2 * length (symbols_of k t (8 * n) ne w) ≤ 5636
  symbols-few =
      let g = tns-given w.side.tns_first w.side.tns_second w.first w.second w.indices p.filters in
      let weighting = weighting_row k.duration (8 * n) in
      let rate = rate_flag (8 * n) k.fs_ind in
      let tns = sent_tns t.orders t.coefficients weighting (tns_of w.first w.second w.indices) in
      let pairs = sent_pairs t.lookup t.frequencies rate ne w.lines 0 (w.side.lastnz / 2) 0 in
      omega (arith, length-append tns pairs, tns-few t.orders t.coefficients weighting w.first w.second w.indices g.0.most g.1.most, pairs-few t.lookup t.frequencies rate ne w.lines p.modest 0 (w.side.lastnz / 2) 0, (pairs-there k.fs_ind ne w.side j.most p.sides).1)

  -- they may be counted from the encoder's start, and sent where E has room
  pub may-count : Ready false start_encoder n (symbols_of k t (8 * n) ne w)
  may-count = count-ready n (symbols_of k t (8 * n) ne w) symbols-pass (omega (arith, j.short)) (omega (arith, symbols-few))

  pub may-send : reserved (symbols_of k t (8 * n) ne w) ≤ 8 * n → Ready true start_encoder n (symbols_of k t (8 * n) ne w)
  may-send room =
      send-ready n (symbols_of k t (8 * n) ne w) symbols-pass (omega (arith, j.short)) (omega (arith, symbols-few)) (omega (arith, room, shifts-below (symbols_of k t (8 * n) ne w) symbols-pass))

  -- for sending from the encoder's start, where E has room
  pub send-asked : (st : EncoderState) → st ≡ start_encoder → reserved (symbols_of k t (8 * n) ne w) ≤ 8 * n →
      (coded_pass t ≡ true) × Judged k ne n × (w.first ≤ 8) × (w.second ≤ 8) × (length w.indices ≡ 16) × (2 * (w.side.lastnz / 2) ≤ length w.lines) × (w.side.lastnz / 2 ≤ 200) × Ready true st n (symbols_of k t (8 * n) ne w)
  send-asked st start room =
      let g = tns-given w.side.tns_first w.side.tns_second w.first w.second w.indices p.filters in
      let there = pairs-there k.fs_ind ne w.side j.most p.sides in
      rw start
      (passes, j, g.0.most, g.1.most, p.sixteen, omega (arith, there.0, p.count), there.1, may-send room)

  -- what the count leaves: a state of which E may be asked, and it is the encoder's
  pub count-behind : (s : EncoderState) → s ≡ sent_all false start_encoder (symbols_of k t (8 * n) ne w) → (Fits s) × (0x10000 ≤ s.range) × (shifts_of s ≤ 65535) × (reserved_of s ≡ reserved (symbols_of k t (8 * n) ne w))
  count-behind s is =
      let xs = symbols_of k t (8 * n) ne w in
      let ready = ready-end xs may-count in
      rw is (ready.fits, counted-least xs symbols-pass, omega (arith, ready.few), reserved-counted xs symbols-pass)

  pub sound-sent : Sound (state_behind start_encoder (symbols_of k t (8 * n) ne w))
  sound-sent = sound-behind start_encoder (symbols_of k t (8 * n) ne w) sound-start symbols-pass

-- the same where the frame is one that was lent
module _ (k : Configuration) (t : Tables) (passes : coded_pass t ≡ true) (ne : ℕ) (w : Content) (f g : List ℕ) (j : Judged k ne (length f)) (p : Passed k.fs_ind ne w) (same : g ≡ f) where
  pub count-asked-at : Judged k ne (length g) × Passed k.fs_ind ne w × Ready false start_encoder (length g) (symbols_of k t (8 * length g) ne w)
  count-asked-at = rw same (j, p, may-count k t passes ne (length f) w j p)

  pub count-behind-at : (s : EncoderState) → s ≡ sent_all false start_encoder (symbols_of k t (8 * length g) ne w) → (Fits s) × (0x10000 ≤ s.range) × (shifts_of s ≤ 65535) × (reserved_of s ≡ reserved (symbols_of k t (8 * length f) ne w))
  count-behind-at s is =
      count-behind k t passes ne (length f) w j p s (is ∙ ap (λ (x : List ℕ). sent_all false start_encoder (symbols_of k t (8 * length x) ne w)) same)
