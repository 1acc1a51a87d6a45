-- The frame behind each call of the code, from what the code has: cleared, with the head's bytes, with the tail's bits, finished.
-- Assumes nothing.
use Prim.Native.Nat.{ℕ, ◌+◌, ◌-◌, ◌*◌, ◌/◌, ◌≤◌}
use mathlib.Core.Path.{◌≡◌, sym, ap, ◌∙◌}
use mathlib.Core.Bool.{Bool, true, false, cond}
use mathlib.Core.List.{List, ◌++◌}
use native.Mathlib.Omega.{arith}
use native.Mathlib.Nat.{zero-add}
use lib.ListN.{length, take, replicate, length-replicate}
use Rattle.common.specs.Tables.{Tables, coded_pass}
use Rattle.common.specs.declared.configuration.Configuration.{Configuration}
use Rattle.side_info.specs.Layout.{side_fields, side_length, put_fields}
use Rattle.side_info.specs.declared.SideInfo.{SideInfo}
use Rattle.range_encoder.specs.Encoder.{start_encoder, reserved_of}
use Rattle.range_encoder.specs.Interval.{Sent}
use Rattle.range_encoder.specs.Finish.{finish_bytes, finish_last, finish_bits, with_own}
use Rattle.range_encoder.specs.Private.{Fits, Sound}
use Rattle.range_encoder.specs.Runs.{AllPass, state_behind}
use Rattle.range_encoder.specs.Theory.{laid_behind}
use Rattle.range_encoder.specs.declared.EncoderState.{EncoderState}
use Rattle.sending.specs.Sending.{put_bits, laid}
use Rattle.sending.specs.Private.{Ready, Puts, put_all, sent_all, laid_all}
use Rattle.sending.proofs.Sends.{laid-all-length}
use Rattle.sending.proofs.Counts.{sent-written, laid-written}
use Rattle.sending.proofs.Puts.{put-append}
use Rattle.residual_data.specs.Residual.{nonzero}
use Rattle.spectral_data.specs.Sent.{pairs_bits}
use Rattle.frame_writer.specs.Frame.{Content, symbols_of, fields_bits, least_bit, early_bits, late_bits, tail_bits, reserved, held_back}
use Rattle.frame_writer.specs.Private.{Judged, Passed, held_by}
use Rattle.frame_writer.proofs.Fields.{fields-bits-length, fields-put}
use Rattle.frame_writer.proofs.Frames.{shifts-below, tail-room, frame-laid}
use Rattle.frame_writer.proofs.Streams.{early-length, early-passed, pairs-there, symbols-pass, may-send, sound-sent}

-- the pairs' bits counted behind the fields' length
pub early-counted : (fs ne : ℕ) (w : Content) (place r : ℕ) → place ≡ side_length fs ne w.side → r ≡ place + length (pairs_bits (least_bit w) w.lines 0 (w.side.lastnz / 2)) → r ≡ length (early_bits fs ne w)
early-counted fs ne w place r at is =
    is ∙ ap (λ (i : ℕ). i + length (pairs_bits (least_bit w) w.lines 0 (w.side.lastnz / 2))) at ∙ sym (early-length fs ne w)

-- what the fields leave of a frame, put where it writes
abbrev pub fields_by : Bool → ℕ → ℕ → SideInfo → List ℕ → List ℕ
fields_by writing fs ne side f = cond writing (put_fields f 0 (side_fields fs ne side)) f

-- the pairs' bits are put behind them
pub early-put : (writing : Bool) (fs ne : ℕ) (w : Content) (place : ℕ) (f g h : List ℕ) → place ≡ side_length fs ne w.side → g ≡ fields_by writing fs ne w.side f → h ≡ put_all writing g place (pairs_bits (least_bit w) w.lines 0 (w.side.lastnz / 2)) → h ≡ put_all writing f 0 (early_bits fs ne w)
early-put true fs ne w place f g h at fields pairs =
    let bits = fields_bits (side_fields fs ne w.side) in
    let later = pairs_bits (least_bit w) w.lines 0 (w.side.lastnz / 2) in
    let behind : place ≡ 0 + length bits = at ∙ sym (fields-bits-length (side_fields fs ne w.side)) ∙ sym (zero-add (length bits)) in
    pairs ∙
    ap (λ (x : List ℕ). put_bits x place later) (fields ∙ fields-put f 0 (side_fields fs ne w.side)) ∙
    ap (λ (i : ℕ). put_bits (put_bits f 0 bits) i later) behind ∙
    sym (put-append f 0 bits later)
early-put false fs ne w place f g h at fields pairs = pairs ∙ fields

-- where they may be
pub early-puts : (writing : Bool) (k : Configuration) (ne : ℕ) (w : Content) (place : ℕ) (f g : List ℕ) → Judged k ne (length f) → Passed k.fs_ind ne w → place ≡ side_length k.fs_ind ne w.side → length g ≡ length f → (writing ≡ true → length (early_bits k.fs_ind ne w) ≤ 8 * length f) → Puts writing g place (length (pairs_bits (least_bit w) w.lines 0 (w.side.lastnz / 2)))
early-puts writing k ne w place f g j p at size room =
    let few = early-passed k ne (length f) w j p in
    let sum = early-length k.fs_ind ne w in
    record { few = omega (arith, at, few, sum); short = omega (arith, j.short, size); room = λ e. omega (arith, at, room e, sum, size) }

-- the calls that fill a frame
module _ (k : Configuration) (t : Tables) (passes : coded_pass t ≡ true) (ne : ℕ) (w : Content) (f : List ℕ) (j : Judged k ne (length f)) (p : Passed k.fs_ind ne w)
    (room : length (early_bits k.fs_ind ne w) + reserved (symbols_of k t (8 * length f) ne w) ≤ 8 * length f) where
  abbrev pub symbols : List Sent
  symbols = symbols_of k t (8 * length f) ne w

  all : AllPass symbols
  all = symbols-pass k t passes ne (length f) w j p

  -- the symbols are sent into the cleared frame, and the encoder's own state and bytes are behind them
  module _ (g : List ℕ) (clear : g ≡ replicate (length f) 0) where
    clear-length : length g ≡ length f
    clear-length = ap length clear ∙ length-replicate (length f) 0

    pub cleared-asked : Judged k ne (length g) × Passed k.fs_ind ne w × Ready true start_encoder (length g) (symbols_of k t (8 * length g) ne w)
    cleared-asked = rw clear-length (j, p, may-send k t passes ne (length f) w j p (omega (arith, room)))

    pub state-is : (s : EncoderState) → s ≡ sent_all true start_encoder (symbols_of k t (8 * length g) ne w) → s ≡ state_behind start_encoder symbols
    state-is s is =
        is ∙
        ap (λ (n : ℕ). sent_all true start_encoder (symbols_of k t (8 * n) ne w)) clear-length ∙
        sent-written start_encoder symbols

    pub head-is : (h : List ℕ) → h ≡ laid_all true start_encoder g (symbols_of k t (8 * length g) ne w) → h ≡ laid_behind start_encoder (replicate (length f) 0) symbols
    head-is h is =
        is ∙
        ap (λ (n : ℕ). laid_all true start_encoder g (symbols_of k t (8 * n) ne w)) clear-length ∙
        ap (λ (x : List ℕ). laid_all true start_encoder x symbols) clear ∙
        laid-written start_encoder (replicate (length f) 0) symbols

    pub head-length : (h : List ℕ) → h ≡ laid_all true start_encoder g (symbols_of k t (8 * length g) ne w) → length h ≡ length f
    head-length h is =
        ap length is ∙ laid-all-length true start_encoder g (symbols_of k t (8 * length g) ne w) ∙ clear-length

  -- what each further call asks for
  pub held-asked : (s : EncoderState) → s ≡ state_behind start_encoder symbols → (Fits s) × (0x10000 ≤ s.range) × (s.out + s.held + s.pending ≤ 65535)
  held-asked s is =
      let sound = sound-sent k t passes ne (length f) w j p in
      let below = shifts-below symbols all in
      rw is (sound.fits, sound.range-least, omega (arith, below, room, j.short))

  pub late_asked : (h : List ℕ) (early held left : ℕ) → length h ≡ length f → early ≡ length (early_bits k.fs_ind ne w) → left ≡ 8 * length f - early - held → (length h ≤ 65535) × (early + left ≤ 8 * length h) × (w.side.lastnz ≤ length w.lines) × (length w.residual ≤ nonzero w.lines)
  late_asked h early held left size is left_is =
      (omega (arith, size, j.short), omega (arith, size, is, left_is, room), omega (arith, (pairs-there k.fs_ind ne w.side j.most p.sides).2, p.count), p.few)

  pub finish-asked : (s : EncoderState) (h : List ℕ) → s ≡ state_behind start_encoder symbols → length h ≡ length f → (Sound s) × (reserved_of s ≤ 8 * length h) × (length h ≤ 65535)
  finish-asked s h is size =
      rw (is, size) (sound-sent k t passes ne (length f) w j p, omega (arith, room), omega (arith, j.short))

  -- the frame behind all calls
  pub filled : (s : EncoderState) (early held left : ℕ) (h h' h'' last : List ℕ) →
      s ≡ state_behind start_encoder symbols →
      h ≡ laid_behind start_encoder (replicate (length f) 0) symbols →
      early ≡ length (early_bits k.fs_ind ne w) →
      h' ≡ put_bits h 0 (early_bits k.fs_ind ne w) →
      held ≡ held_by k.reading s →
      left ≡ 8 * length f - early - held →
      h'' ≡ put_bits h' early (take left (late_bits w)) →
      last ≡ with_own h'' s.out (finish_bytes k.reading s) (finish_last k.reading s) (finish_bits k.reading s) →
      last ≡ laid k.reading (length f) symbols (tail_bits k t (8 * length f) ne w)
  filled s early held left h h' h'' last state head count put held-is left_is late finish =
      let b = state_behind start_encoder symbols in
      let before = early_bits k.fs_ind ne w in
      let zeros = laid_behind start_encoder (replicate (length f) 0) symbols in
      let cut = 8 * length f - length before - held_back k.reading symbols in
      let cut-is : left ≡ cut =
      left_is ∙ ap (λ (e : ℕ). 8 * length f - e - held) count ∙ ap (λ (n : ℕ). 8 * length f - length before - n) (held-is ∙ ap (held_by k.reading) state) in
      let tail : h'' ≡ put_bits zeros 0 (before ++ take cut (late_bits w)) =
      late ∙
      ap (λ (n : ℕ). put_bits h' early (take n (late_bits w))) cut-is ∙
      ap (λ (x : List ℕ). put_bits x early (take cut (late_bits w))) (put ∙ ap (λ (x : List ℕ). put_bits x 0 before) head) ∙
      ap (λ (i : ℕ). put_bits (put_bits zeros 0 before) i (take cut (late_bits w))) (count ∙ sym (zero-add (length before))) ∙
      sym (put-append zeros 0 before (take cut (late_bits w))) in
      finish ∙
      ap (λ (r : EncoderState). with_own h'' r.out (finish_bytes k.reading r) (finish_last k.reading r) (finish_bits k.reading r)) state ∙
      ap (λ (x : List ℕ). with_own x b.out (finish_bytes k.reading b) (finish_last k.reading b) (finish_bits k.reading b)) tail ∙
      frame-laid symbols all k.reading (length f) (before ++ take cut (late_bits w)) (tail-room symbols all k.reading (8 * length f) before (late_bits w) room)
