-- Damage: a frame with the head's own bits and the side information as written bears other content, the same symbols with the lines that its
-- tail bits say. So it is read as that content is, as far as there is room; with the low bits too, room is as it was. Assumes nothing.
use Prim.Native.Nat.{ℕ, zero, suc, ◌+◌, ◌-◌, ◌*◌, ◌/◌, ◌≤◌, ◌<◌}
use mathlib.Core.Path.{◌≡◌, refl, sym, ap, subst, ◌∙◌}
use mathlib.Core.Bool.{Bool, true, false, cond, ◌&&◌}
use mathlib.Core.List.{List, ◌∷◌, ◌++◌, map}
use native.Mathlib.Omega.{arith}
use borrow.Author.Tests.{le-ltb, leb-true, ltb-true, ltb-false}
use lib.Dec.{ltb, leb, eqb}
use lib.IntN.{ℤ, nat_abs}
use lib.ListN.{length, length-append}
use Rattle.common.specs.Last.{floor_log2}
use Rattle.common.specs.Reply.{Step, nowhere, side, start, order, coef, symbol, bit, Reply, Answer, accepted, refused, and_then, in_step, no_tail_room, residual_negative}
use Rattle.common.specs.Tables.{Tables}
use Rattle.common.specs.declared.configuration.Configuration.{Configuration}
use Rattle.common.proofs.Bools.{by-test, and_left, and-first-fails, or-first-fails}
use Rattle.common.proofs.Replies.{no-refusal, refusal_in}
use Rattle.buffer_reader.specs.Tail.{tail_bit, Bytes}
use Rattle.buffer_reader.specs.declared.Cursor.{Cursor}
use Rattle.side_info.specs.Layout.{side_fields}
use Rattle.side_info.specs.Reader.{read_all}
use Rattle.side_info.specs.Record.{side_passes}
use Rattle.side_info.proofs.SideLimits.{SideLimits, side-limits}
use Rattle.contexts.specs.Contexts.{rate_flag, lookup_start, next_context, first_part, second_part, pair_symbol}
use Rattle.contexts.specs.Lines.{line_at, magnitude_at, escapes_at}
use Rattle.range_decoder.specs.declared.DecoderState.{DecoderState}
use Rattle.range_encoder.specs.Encoder.{start_encoder}
use Rattle.range_encoder.specs.Interval.{Sent, Interval, whole, behind}
use Rattle.range_encoder.specs.Runs.{AllPass, state_behind}
use Rattle.range_encoder.specs.Theory.{Inside}
use Rattle.range_encoder.proofs.Carry.{carry-exact}
use Rattle.range_encoder.proofs.OwnBits.{begins-inside}
use Rattle.sending.specs.Sending.{Owner, Bit, low, Stands, side as of_sides}
use Rattle.sending.proofs.Standing.{Came, same, cut, came-whole}
use Rattle.sending.proofs.Stands.{stands-behind, StandFor, stand-for-append}
use Rattle.coding.specs.Coding.{Coded}
use Rattle.tns_data.specs.Tns.{read_tns, weighting_row}
use Rattle.tns_data.specs.Sent.{sent_tns, tns_of, tns_passes}
use Rattle.spectral_data.specs.Spectral.{Pair, read_pair, read_pairs, lines_of}
use Rattle.spectral_data.specs.Sent.{pairs_bits, pairs_of}
use Rattle.spectral_data.specs.Private.{Modest}
use Rattle.spectral_data.proofs.Back.{first_of, second_of, asked, early-size}
use Rattle.spectral_data.proofs.Otherwise.{Otherwise, otherwise, pairs-sized}
use Rattle.residual_data.specs.Residual.{used_bits}
use Rattle.residual_data.proofs.Rooms.{available-none, available-room}
use Rattle.frame_reader.specs.Depends.{symbols_of as symbols_read}
use Rattle.frame_reader.specs.Frame.{Data, Frame, start_in, read_data, with_residual, with_late, finished, read_frame}
use Rattle.frame_reader.proofs.Whole.{read-on}
use Rattle.frame_writer.specs.Frame.{Content, symbols_of, fields_bits, least_bit, early_bits, reserved, tail_bits, line_fails, first_failing}
use Rattle.frame_writer.specs.Whose.{Whose, head, tail, place_of, Parted}
use Rattle.frame_writer.proofs.Lines.{first-behind, first-none}
use Rattle.frame_writer.proofs.Owners.{Checked, written-checked, lines-modest, symbols-given, parted}
use Rattle.round_trip.specs.RoundTrip.{lines_in, coder_behind, early_length, Written, whose_at, Altered, head_and_side, lows_too, AsWritten, read_up_to, UpTo, Damaged, read_still, bit_missing, negative, DamageIsKnown, Harmless, SignsAreHarmless}
use Rattle.round_trip.specs.Private.{Fit, Bears, EarlyRoom, data_up_to, cursor_up_to}
use Rattle.round_trip.proofs.Bearing.{up-to-came, data-came, all_read}
use Rattle.round_trip.proofs.Spared.{Held, held-begins, held-tail, fields-spared}
use Rattle.round_trip.proofs.Trip.{written-fit, written-bears, written-room}

-- ---- what refuses the first pairs refuses more of them

-- a reading refused behind a first one, which is the same
next-refused : {A B : Type 0} (x : Answer (A × Cursor)) (rest more : A × Cursor → Answer B) {r : Reply} → ((y : A × Cursor) → rest y ≡ refused r → more y ≡ refused r) → and_then x rest ≡ refused r → and_then x more ≡ refused r
next-refused (accepted y) rest more h e = h y e
next-refused (refused q) rest more h e = ap (λ a. refused (refusal_in q a)) e

-- a reading refused behind which nothing is
last-refused : {A B : Type 0} (x y : Answer A) (f g : A → B) {r : Reply} → (x ≡ refused r → y ≡ refused r) → and_then x (λ a. accepted (f a)) ≡ refused r → and_then y (λ a. accepted (g a)) ≡ refused r
last-refused (accepted a) y f g h e = absurd (no-refusal e)
last-refused (refused q) y f g {r} h e =
    let is : refused q ≡ refused r = ap (λ a. refused (refusal_in q a)) e in
    rw (h is) refl

module _ (lookup frequencies : List ℕ) (standard lsb : Bool) (rate ne : ℕ) (f : List ℕ) where
  pairs-refused : (p n m context : ℕ) (s : DecoderState) (c : Cursor) {r : Reply} → n ≤ m → read_pairs lookup frequencies standard lsb rate ne p n context s f c ≡ refused r → read_pairs lookup frequencies standard lsb rate ne p m context s f c ≡ refused r
  unfolding read_pairs
  pairs-refused p zero m context s c few e = absurd (no-refusal e)
  pairs-refused p (suc n) zero context s c few e = absurd (omega arith)
  pairs-refused p (suc n) (suc m) context s c few e =
      next-refused (read_pair lookup frequencies standard lsb p (lookup_start context rate ne (2 * p)) s f c) _ _
      (λ y. let after = next_context context (first_part y.0.value.last) (second_part y.0.value.last) y.0.value.escapes in
      last-refused (read_pairs lookup frequencies standard lsb rate ne (p + 1) n after y.0.state f y.1) (read_pairs lookup frequencies standard lsb rate ne (p + 1) m after y.0.state f y.1) _ _
      (pairs-refused (p + 1) n m after y.0.state y.1 (omega arith))) e

up-to-refused : (k : Configuration) (t : Tables) (bits ne m n : ℕ) (f : List ℕ) (c : Cursor) {r : Reply} → m ≤ n → read_up_to k t bits ne m f c ≡ refused r → read_up_to k t bits ne n f c ≡ refused r
up-to-refused k t bits ne m n f c few e =
    next-refused (read_all k.fs_ind ne f c) _ _
    (λ a. next-refused (start_in f a.1) _ _
    (λ s. next-refused (read_tns t.orders t.coefficients (weighting_row k.duration bits) a.0.tns_first a.0.tns_second s.0 f s.1) _ _
    (λ y. let pairs : ℕ → Answer (Coded (List Pair) × Cursor) = λ q. read_pairs t.lookup t.frequencies (eqb k.reading 1) (eqb a.0.lsb 1) (rate_flag bits k.fs_ind) ne 0 q 0 y.0.state f y.1 in
    last-refused (pairs m) (pairs n) _ _ (pairs-refused t.lookup t.frequencies (eqb k.reading 1) (eqb a.0.lsb 1) (rate_flag bits k.fs_ind) ne f 0 m n 0 y.0.state y.1 few)))) e

-- a refusal has one step
abbrev pair_in : Step → ℕ
pair_in nowhere = 0
pair_in side = 0
pair_in start = 0
pair_in (order f) = 0
pair_in (coef f k) = 0
pair_in (symbol p level) = p
pair_in (bit p level) = p

one-step : {A : Type 0} (p level place q level' place' : ℕ) → ◌≡◌ {A = Answer A} (refused (in_step (bit p level) (no_tail_room 1 place))) (refused (in_step (bit q level') (no_tail_room 1 place'))) → p ≡ q
one-step p level place q level' place' e = ap (λ a. pair_in (refusal_in residual_negative a).step) e

-- ---- lines with the same symbols

module _ (lsb : Bool) (xs ys : List ℤ) where
  symbols-alike : ((q : ℕ) → escapes_at xs q ≡ escapes_at ys q) → ((q : ℕ) → pair_symbol (first_of xs q) (second_of xs q) ≡ pair_symbol (first_of ys q) (second_of ys q)) → (p n : ℕ) → symbols_read (pairs_of lsb xs p n) ≡ symbols_read (pairs_of lsb ys p n)
  unfolding symbols_read pairs_of
  symbols-alike counts lasts p zero = refl
  symbols-alike counts lasts p (suc n) =
      ap (λ (q : ℕ). (q, pair_symbol (first_of xs p) (second_of xs p)) ∷ symbols_read (pairs_of lsb xs (p + 1) n)) (counts p)
      ∙ ap (λ (q : ℕ). (escapes_at ys p, q) ∷ symbols_read (pairs_of lsb xs (p + 1) n)) (lasts p)
      ∙ ap (λ (rest : List (ℕ × ℕ)). (escapes_at ys p, pair_symbol (first_of ys p) (second_of ys p)) ∷ rest) (symbols-alike counts lasts (p + 1) n)

  -- and of lines with the same magnitudes these are read
  sizes-alike : ((q : ℕ) → magnitude_at xs q ≡ magnitude_at ys q) → (p n : ℕ) → map nat_abs (lines_of (pairs_of lsb xs p n)) ≡ map nat_abs (lines_of (pairs_of lsb ys p n))
  unfolding lines_of pairs_of
  sizes-alike sizes p zero = refl
  sizes-alike sizes p (suc n) =
      let a = sizes (2 * p) in
      let b = sizes (2 * p + 1) in
      rw (early-size lsb (escapes_at xs p) (line_at xs (2 * p)), early-size lsb (escapes_at xs p) (line_at xs (2 * p + 1)), early-size lsb (escapes_at ys p) (line_at ys (2 * p)), early-size lsb (escapes_at ys p) (line_at ys (2 * p + 1)), a, b, sizes-alike sizes (p + 1) n) refl

-- ---- the content that a frame bears instead

abbrev with_lines : Content → List ℤ → Content
with_lines w lines =
    record { side = w.side; first = w.first; second = w.second; indices = w.indices; lines = lines; residual = w.residual }

abbrev origin : Cursor
origin = record { head = 0; tail = 0 }

-- 14 finds no line, where the lines are modest and those from lastnz on as they were
none-failing : (w : Content) (others : List ℤ) → Modest others → length others ≡ length w.lines → ((i : ℕ) → w.side.lastnz ≤ i → line_at others i ≡ line_at w.lines i) → length w.lines ≤ first_failing w → length others ≤ first_failing (with_lines w others)
none-failing w others modest size beyond passed =
    omega (
      arith,
      first-behind (line_fails (with_lines w others)) 0 (length others)
          (λ i a b. by-test (leb w.side.lastnz i)
          (λ e.
          let line : line_at others i ≡ line_at w.lines i = beyond i (leb-true w.side.lastnz i e) in
          rw line (first-none (line_fails w) 0 (length w.lines) (omega (arith, passed)) i a (omega (arith, b, size))))
          (λ e. or-first-fails (leb w.side.lastnz i && ltb 0 (magnitude_at others i)) (le-ltb 32767 (magnitude_at others i) (modest i)) ∙ and-first-fails (ltb 0 (magnitude_at others i)) e)),
    )

module _ (k : Configuration) (t : Tables) (w : Content) (g : List ℕ) (fit : Fit k t w (length g)) where
  abbrev n : ℕ
  n = lines_in k

  abbrev pairs : ℕ
  pairs = w.side.lastnz / 2

  abbrev fields : List Bit
  fields = fields_bits (side_fields k.fs_ind n w.side)

  abbrev symbols : List Sent
  symbols = symbols_of k t (8 * length g) n w

  modest : Modest w.lines
  modest = lines-modest w fit.lines

  all : AllPass symbols
  all = symbols-given k t (8 * length g) n w fit.tables fit.fields modest

  limits : SideLimits k.fs_ind n w.side
  limits =
      side-limits k.fs_ind n w.side
      (and_left (side_passes k.fs_ind n w.side) (tns_passes w.side.tns_first w.side.tns_second w.first w.second w.indices) fit.fields)

  -- the lines that the tail says
  said : Otherwise g (least_bit w) w.lines 0 pairs (0 + length fields)
  said = otherwise g (least_bit w) w.lines 0 pairs (0 + length fields) modest (omega (arith, limits.last, fit.count))

  abbrev v : Content
  v = with_lines w said.others

  said-fit : Fit k t v (length g)
  said-fit =
      record {
        standard = fit.standard;
        sixteen = fit.sixteen;
        frame = fit.frame;
        tables = fit.tables;
        count = said.size ∙ fit.count;
        fields = fit.fields;
        lines = none-failing w said.others said.modest said.size (λ i l. said.beyond i (omega (arith, l))) fit.lines;
      }

  said-symbols : symbols_of k t (8 * length g) n v ≡ symbols
  said-symbols =
      ap (λ (xs : List Sent). sent_tns t.orders t.coefficients (weighting_row k.duration (8 * length g)) (tns_of w.first w.second w.indices) ++ xs)
      (said.symbols t.lookup t.frequencies (rate_flag (8 * length g) k.fs_ind) n 0)

  said-coder : coder_behind k t v (length g) ≡ coder_behind k t w (length g)
  said-coder = ap (behind whole) said-symbols

  said_read : (m : ℕ) → symbols_read (pairs_of (least_bit w) said.others 0 m) ≡ symbols_read (pairs_of (least_bit w) w.lines 0 m)
  said_read m = symbols-alike (least_bit w) said.others w.lines said.escapes-same said.last-same 0 m

  module _ (bytes : Bytes g) (inside : Inside g 0 (coder_behind k t w (length g))) (room : 3 + (coder_behind k t w (length g)).shifts ≤ length g) (stands : Stands g 0 fields) where
    said-bears : Bears k t v g
    said-bears =
        record {
          bytes = bytes;
          inside = subst (Inside g 0) (sym said-coder) inside;
          head = subst (λ (i : Interval). 3 + i.shifts ≤ length g) (sym said-coder) room;
          stands = stands-behind g 0 fields (pairs_bits (least_bit w) said.others 0 pairs) stands said.stands;
        }

    -- up to a pair in which a bit lacks, the pairs are read
    reading-up-to : (p level place : ℕ) → p < pairs → read_data k t (8 * length g) n g origin ≡ refused (in_step (bit p level) (no_tail_room 1 place)) → UpTo k t w g p
    reading-up-to p level place before e = go (up-to-came k t v g said-fit said-bears p (omega (arith, before)))
      where
        go : Came (asked said.others p) (EarlyRoom k t v g) (read_up_to k t (8 * length g) n p g origin) (accepted (data_up_to k t v (length g) p, cursor_up_to k t v (length g) p)) → UpTo k t w g p
        go (same is) =
            record { data-read = data_up_to k t v (length g) p; cursor = cursor_up_to k t v (length g) p; is = is; side_same = refl; tns-same = refl; symbols-same = said_read p }
        go (cut q level' place' at is full) =
            let further = up-to-refused k t (8 * length g) n p pairs g origin (omega (arith, before)) is in
            let one = one-step q level' place' p level place (sym further ∙ all_read k t v g said-fit said-bears ∙ e) in
            absurd (omega (arith, at.0, one))

    -- what is read behind the data keeps the data
    abbrev kept : List ℤ → List ℕ → ℕ → Frame
    kept lines residual place =
        record {
          side = w.side;
          tns = tns_of w.first w.second w.indices;
          pairs = pairs_of (least_bit w) said.others 0 pairs;
          lines = lines;
          residual = residual;
          cursor = record { head = 3 + (coder_behind k t v (length g)).shifts; tail = place };
          range = (coder_behind k t v (length g)).range;
        }

    abbrev by_mode : Bool → ℕ → Frame
    by_mode least room =
        let d = data_up_to k t v (length g) pairs in
        let c = cursor_up_to k t v (length g) pairs in
        cond least (with_late k.reading n g d c room) (with_residual n g d c room)

    by_mode-any : (P : Frame → Type 0) → ((lines : List ℤ) (residual : List ℕ) (place : ℕ) → P (kept lines residual place)) → (least : Bool) (room : ℕ) → P (by_mode least room)
    by_mode-any P h true room = h _ _ _
    by_mode-any P h false room = h _ _ _

    kept-written : (lines : List ℤ) (residual : List ℕ) (place : ℕ) → AsWritten k t w (length g) (kept lines residual place)
    kept-written lines residual place =
        record {
          side_same = refl;
          symbols-same =
              record {
                tns = refl;
                symbols = sym (said_read pairs);
                head = ap (λ (i : Interval). 3 + i.shifts) (sym said-coder);
                range = ap (λ (i : Interval). i.range) (sym said-coder);
              };
        }

    module _ (count : ℕ) (enough : n ≤ count) where
      frame_on : read_frame k t count g ≡ and_then (read_data k t (8 * length g) n g origin) (λ r. finished k.reading n g r.0 r.1)
      frame_on = read-on k t count g n fit.frame fit.tables (le-ltb count n enough)

      damaged : Damaged k t w g (read_frame k t count g)
      damaged = subst (Damaged k t w g) (sym frame_on) (go (data-came k t v g said-fit said-bears))
        where
          rest : Damaged k t w g (finished k.reading n g (data_up_to k t v (length g) pairs) (cursor_up_to k t v (length g) pairs))
          rest =
              let c = cursor_up_to k t v (length g) pairs in
              let range = (data_up_to k t v (length g) pairs).range in
              by-test (ltb (8 * length g) (used_bits c range))
              (λ e. rw (available-none (8 * length g) c range (ltb-true (8 * length g) (used_bits c range) e)) negative)
              (λ e. rw (available-room (8 * length g) c range (ltb-false (8 * length g) (used_bits c range) e)) (read_still (by_mode (least_bit w) (8 * length g - used_bits c range)) (by_mode-any (AsWritten k t w (length g)) kept-written (least_bit w) (8 * length g - used_bits c range))))

          go : Came (asked said.others pairs) (EarlyRoom k t v g) (read_data k t (8 * length g) n g origin) (accepted (data_up_to k t v (length g) pairs, cursor_up_to k t v (length g) pairs)) →
              Damaged k t w g (and_then (read_data k t (8 * length g) n g origin) (λ r. finished k.reading n g r.0 r.1))
          go (same e) = rw e rest
          go (cut p level place at e full) =
              rw e (bit_missing p level place at.0 (omega (arith, at.1, said.escapes-same p)) (reading-up-to p level place at.0 e))

      -- with the magnitudes as written the bits have as much room
      module _ (sizes : (i : ℕ) → magnitude_at said.others i ≡ magnitude_at w.lines i) (fits : early_length k w + reserved symbols ≤ 8 * length g) (roomy : EarlyRoom k t w g) where
        abbrev d : Data
        d = data_up_to k t v (length g) pairs

        abbrev c : Cursor
        c = cursor_up_to k t v (length g) pairs

        place : c ≡ record { head = 3 + (coder_behind k t w (length g)).shifts; tail = early_length k w }
        place =
            let long : length fields + length (pairs_bits (least_bit w) said.others 0 pairs) ≡ early_length k w =
            omega (arith, pairs-sized (least_bit w) said.others w.lines 0 pairs sizes, length-append fields (pairs_bits (least_bit w) w.lines 0 pairs)) in
            rw (said-coder, long) refl

        data-read : read_data k t (8 * length g) n g origin ≡ accepted (d, c)
        data-read =
            let end : c.tail ≡ early_length k w = ap (λ (x : Cursor). x.tail) place in
            let shifts : (coder_behind k t v (length g)).shifts ≡ (coder_behind k t w (length g)).shifts = ap (λ (i : Interval). i.shifts) said-coder in
            came-whole (data-came k t v g said-fit said-bears) (omega (arith, shifts, end, roomy, length-append fields (pairs_bits (least_bit w) said.others 0 pairs)))

        used : used_bits c d.range ≤ 8 * length g
        used =
            let holds = (carry-exact symbols all).holds in
            let log : floor_log2 d.range ≡ floor_log2 (state_behind start_encoder symbols).range = ap (λ (i : Interval). floor_log2 i.range) said-coder ∙ ap floor_log2 (sym holds.range) in
            subst (λ (x : Cursor). used_bits x d.range ≤ 8 * length g) (sym place) (omega (arith, log, fits, holds.shifts))

        abbrev left : ℕ
        left = 8 * length g - used_bits c d.range

        frame_is : read_frame k t count g ≡ accepted (by_mode (least_bit w) left)
        frame_is = frame_on ∙ rw (data-read, available-room (8 * length g) c d.range used) refl

        harmless : Harmless k t w g (read_frame k t count g)
        harmless =
            by_mode-any (λ x. read_frame k t count g ≡ accepted x → Harmless k t w g (read_frame k t count g))
            (λ lines residual end is.
            record {
              frame-read = kept lines residual end;
              is = is;
              written = kept-written lines residual end;
              magnitudes = sizes-alike (least_bit w) said.others w.lines sizes 0 pairs;
              stands = data-read ∙ ap (λ (x : Cursor). accepted (d, x)) place;
            })
            (least_bit w) left frame_is

-- ---- a frame that was written, altered

module _ (spared : Whose → Bool) (heads : (j : ℕ) → spared (head j) ≡ true) (sides : spared (tail of_sides) ≡ true) (k : Configuration) (t : Tables) (w : Content) (bytes count : ℕ) (frame other : List ℕ) (r : Written 1 k t w bytes count frame) (a : Altered spared k t w frame other) where
  abbrev tails : List Bit
  tails = tail_bits k t (8 * length other) (lines_in k) w

  long : bytes ≡ length other
  long = sym (a.size ∙ (parted k t w bytes r.frame_is).size)

  as_long : Written 1 k t w (length other) count frame
  as_long = subst (λ (b : ℕ). Written 1 k t w b count frame) long r

  fit : Fit k t w (length other)
  fit = written-fit k t w (length other) count frame as_long

  found : Checked k t w (length other) (lines_in k) frame
  found = written-checked k t w (length other) as_long.frame_is

  part : Parted 1 (length other) (symbols k t w other fit) tails frame
  part =
      subst (λ (reading : ℕ). Parted reading (length other) (symbols k t w other fit) tails frame) r.reading-is (parted k t w (length other) as_long.frame_is)

  held : Held spared (symbols k t w other fit) tails other
  held =
      let kept : (i : ℕ) → i < 8 * length other → spared (whose_at k t w (length other) i) ≡ true → tail_bit other i ≡ tail_bit frame i =
      subst (λ (b : ℕ). (i : ℕ) → i < 8 * b → spared (whose_at k t w b i) ≡ true → tail_bit other i ≡ tail_bit frame i) (sym a.size) a.same in
      let kept_in : (i : ℕ) → i < 8 * length other → spared (place_of 1 (8 * length other) (symbols k t w other fit) tails i).whose ≡ true → tail_bit other i ≡ tail_bit frame i =
      subst (λ (reading : ℕ). (i : ℕ) → i < 8 * length other → spared (place_of reading (8 * length other) (symbols k t w other fit) tails i).whose ≡ true → tail_bit other i ≡ tail_bit frame i) r.reading-is kept in
      λ i l s. kept_in i l s ∙ part.bits i l

  inside : Inside other 0 (coder_behind k t w (length other))
  inside =
      begins-inside other 0 (symbols k t w other fit) a.bytes (all k t w other fit)
      (held-begins spared (symbols k t w other fit) tails other held (all k t w other fit) a.bytes heads (omega (arith, part.apart, part.reserve)))

  room : 3 + (coder_behind k t w (length other)).shifts ≤ length other
  room =
      subst (λ (b : ℕ). 3 + (coder_behind k t w b).shifts ≤ b) (sym a.size) (written-bears k t w bytes count frame r).head

  roomy : EarlyRoom k t w other
  roomy =
      subst (λ (b : ℕ). 8 * (coder_behind k t w b).shifts + early_length k w + 2 ≤ 8 * b) (sym a.size) (written-room k t w bytes count frame r)

  abbrev spared_of : Owner → Bool
  spared_of o = spared (tail o)

  stand : StandFor spared_of other 0 (fields k t w other fit) × StandFor spared_of other (0 + length (fields k t w other fit)) (pairs_bits (least_bit w) w.lines 0 (w.side.lastnz / 2))
  stand =
      stand-for-append spared_of other 0 (fields k t w other fit) (pairs_bits (least_bit w) w.lines 0 (w.side.lastnz / 2))
      (stand-for-append spared_of other 0 (early_bits k.fs_ind (lines_in k) w) _ (held-tail spared (symbols k t w other fit) tails other held (omega (arith, part.apart)))).0

  stands : Stands other 0 (fields k t w other fit)
  stands = fields-spared spared_of sides other 0 (side_fields k.fs_ind (lines_in k) w.side) stand.0

  altered-damaged : Damaged k t w other (read_frame k t count other)
  altered-damaged = damaged k t w other fit a.bytes inside room stands count r.enough

  altered-harmless : ((i level : ℕ) → spared_of (low i level) ≡ true) → Harmless k t w other (read_frame k t count other)
  altered-harmless lows =
      harmless k t w other fit a.bytes inside room stands count r.enough ((said k t w other fit).sized spared_of lows stand.1) found.room roomy

pub damage-is-known : DamageIsKnown 1
damage-is-known k t w bytes count frame other r a = altered-damaged head_and_side (λ j. refl) refl k t w bytes count frame other r a

pub signs-harmless : SignsAreHarmless 1
signs-harmless k t w bytes count frame other r a = altered-harmless lows_too (λ j. refl) refl k t w bytes count frame other r a (λ i level. refl)
