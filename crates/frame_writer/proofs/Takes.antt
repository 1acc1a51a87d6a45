-- Issue 13's second theorem, `taken`: what the reader returns passes the writer's checks. The stages that read it took the bits and the
-- symbols that its record, filters and pairs have when they are written, so what passed 12 passes 16. Assumes nothing.
use Prim.Native.Nat.{ℕ, ◌+◌, ◌-◌, ◌*◌, ◌/◌, ◌≤◌, ◌<◌}
use mathlib.Core.Path.{◌≡◌, refl, sym, ap, subst, ◌∙◌}
use mathlib.Core.Bool.{Bool, true, false, cond, not, ◌&&◌}
use mathlib.Core.List.{List, ◌++◌}
use native.Mathlib.Omega.{arith}
use native.Mathlib.Nat.{zero-add}
use borrow.Author.Tests.{ltb-false, le-ltb, eq-eqb, eqb-true, eqb-false, leb-true, not-false}
use lib.Dec.{ltb, leb, eqb}
use lib.IntN.{ℤ, pos, nat_abs}
use lib.ListN.{length, get_or, replicate, length-append, length-replicate, get_or-eq_default}
use Rattle.common.specs.Configuration.{ne, frame_lines}
use Rattle.common.specs.Last.{floor_log2}
use Rattle.common.specs.Reply.{start, Answer, accepted, given, and_then, tables_fail, wrong_count, wrong_length, head_past_end, residual_negative}
use Rattle.common.specs.Tables.{Tables, tables_pass}
use Rattle.common.specs.declared.configuration.Configuration.{Configuration}
use Rattle.common.proofs.Bools.{by-test, and_right, and_both, or-first-fails, and-first-fails, and-second-fails}
use Rattle.common.proofs.Configurations.{frame-known, frame-ranges}
use Rattle.common.proofs.Replies.{accepted-same, given-split, then-split, within-split}
use Rattle.common.proofs.Sets.{lookup-passed, frequencies-passed, orders-passed, coefficients-passed, coded-passed}
use Rattle.common.proofs.Lasts.{log-range}
use Rattle.contexts.specs.Contexts.{rate_flag}
use Rattle.contexts.specs.Lines.{line_at, magnitude_at, escapes_at, early_line}
use Rattle.buffer_reader.specs.Reads.{take_three, three_at}
use Rattle.buffer_reader.specs.Steps.{found}
use Rattle.buffer_reader.specs.declared.Cursor.{Cursor}
use Rattle.side_info.specs.Layout.{side_fields}
use Rattle.side_info.specs.Reader.{read_all}
use Rattle.side_info.specs.Record.{side_passes}
use Rattle.side_info.specs.declared.SideInfo.{SideInfo}
use Rattle.side_info.proofs.Image.{image-passes}
use Rattle.side_info.proofs.Lengths.{if-there}
use Rattle.side_info.proofs.SideLimits.{SideLimits, side-limits}
use Rattle.side_info.proofs.Sides.{side-took}
use Rattle.range_decoder.specs.Decoder.{start_decoder, range_passes}
use Rattle.range_decoder.specs.declared.DecoderState.{DecoderState}
use Rattle.range_encoder.specs.Encoder.{start_encoder, shifts_of, reserved_bits}
use Rattle.range_encoder.specs.Interval.{Sent, Interval, whole, behind}
use Rattle.range_encoder.specs.Runs.{AllPass, state_behind}
use Rattle.range_encoder.proofs.Carry.{carry-exact}
use Rattle.coding.specs.Coding.{Coded}
use Rattle.coding.proofs.Keeps.{both-here, keeps-at}
use Rattle.sending.specs.Sending.{laid}
use Rattle.sending.proofs.Standing.{behind-append}
use Rattle.sending.proofs.Tracing.{AtInterval}
use Rattle.tns_data.specs.Sent.{sent_tns, tns_of, tns_passes}
use Rattle.tns_data.specs.Tns.{Tns, read_tns, weighting_row, sixteen_of}
use Rattle.tns_data.proofs.Image.{tns-image}
use Rattle.tns_data.proofs.Retrace.{tns-along}
use Rattle.tns_data.proofs.Within.{tns-behind}
use Rattle.spectral_data.specs.Private.{Modest}
use Rattle.spectral_data.specs.Sent.{sent_pairs, pairs_bits, pairs_of}
use Rattle.spectral_data.specs.Spectral.{Pair, read_pairs, lines_of, levels_of}
use Rattle.spectral_data.proofs.Bounds.{All}
use Rattle.spectral_data.proofs.Lines.{lines-length}
use Rattle.spectral_data.proofs.Retrace.{pairs-retrace}
use Rattle.residual_data.specs.Residual.{used_bits, available, nonzero, escaped_by, late_from}
use Rattle.residual_data.proofs.Lates.{late-length}
use Rattle.frame_reader.specs.Frame.{Data, Frame, start_in, filled_to, read_data, with_residual, with_late, finished, read_frame}
use Rattle.frame_reader.specs.Private.{read_on}
use Rattle.frame_reader.specs.Stated.{Listed}
use Rattle.frame_reader.proofs.Data.{Behind, data-behind, weighting-most}
use Rattle.frame_reader.proofs.Magnitudes.{EvenPair}
use Rattle.frame_reader.proofs.Theorems.{residual-listed, lines-within, within-sixteen, few-escapes}
use Rattle.frame_writer.specs.Frame.{Content, symbols_of, fields_bits, least_bit, early_bits, reserved, tail_bits, fields_pass, line_fails, first_failing, write_frame}
use Rattle.frame_writer.specs.Taken.{content_of, FewInCrate, SameEscapes, StandardLate, Taken}
use Rattle.frame_writer.proofs.Fields.{fields-bits-length}
use Rattle.frame_writer.proofs.Lines.{first-behind}
use Rattle.frame_writer.proofs.Owners.{symbols-given}
use Rattle.frame_writer.proofs.Reread.{WholePair, pairs-whole, Again, nothing, pairs-again, level-at, filled_at, plain-again, late-filled}

abbrev origin : Cursor
origin = record { head = 0; tail = 0 }

-- ---- the coder's start

record Started (b : Cursor) (y : DecoderState × Cursor) : Type 0 where
  range : y.0.range ≡ 0xFFFFFF
  head : y.1.head ≡ b.head + 3
  tail : y.1.tail ≡ b.tail

start-at : (f : List ℕ) (b : Cursor) (y : DecoderState × Cursor) → start_in f b ≡ accepted y → Started b y
start-at f b y e =
    let p = then-split (take_three f b) (λ r. found (record { low = r.0; range = 0xFFFFFF }) f r.1) (within-split start (start_decoder f b) e) in
    let a = given-split (ltb 65535 (length f)) (wrong_length (length f)) _ p.1 in
    let g = given-split (leb (length f) (b.head + 2)) (head_past_end b.head) _ a.1 in
    let moved : ◌≡◌ {A = ℕ × Cursor} (three_at f b.head, record { head = b.head + 3; tail = b.tail }) p.0 = accepted-same g.1 in
    let all : ◌≡◌ {A = DecoderState × Cursor} (record { low = p.0.0; range = 0xFFFFFF }, p.0.1) y = accepted-same p.2 in
    record {
      range = ap (λ (v : DecoderState × Cursor). v.0.range) (sym all);
      head = ap (λ (v : DecoderState × Cursor). v.1.head) (sym all) ∙ ap (λ (v : ℕ × Cursor). v.1.head) (sym moved);
      tail = ap (λ (v : DecoderState × Cursor). v.1.tail) (sym all) ∙ ap (λ (v : ℕ × Cursor). v.1.tail) (sym moved);
    }

-- ---- the stages that were read

module _ (k : Configuration) (t : Tables) (f : List ℕ) (n : ℕ) (lines : frame_lines k (length f) ≡ accepted n) (tables : tables_pass t ≡ true) where
  abbrev bits : ℕ
  bits = 8 * length f

  abbrev weighting : ℕ
  weighting = weighting_row k.duration bits

  short : length f ≤ 65535
  short = omega (arith, (frame-ranges k (length f) lines).4)

  weighting-low : weighting ≤ 1
  weighting-low = weighting-most weighting k.duration bits refl

  module _ (s : SideInfo) (b : Cursor) (sided : read_all k.fs_ind n f origin ≡ accepted (s, b)) (y : DecoderState × Cursor) (started : start_in f b ≡ accepted y)
      (tn : Coded Tns × Cursor) (tns_read : read_tns t.orders t.coefficients weighting s.tns_first s.tns_second y.0 f y.1 ≡ accepted tn)
      (pr : Coded (List Pair) × Cursor) (pairs_read : read_pairs t.lookup t.frequencies (eqb k.reading 1) (eqb s.lsb 1) (rate_flag bits k.fs_ind) n 0 (s.lastnz / 2) 0 tn.0.state f tn.1 ≡ accepted pr) where
    abbrev content : List ℤ → List ℕ → Content
    content ls rs =
        record {
          side = s;
          first = tn.0.value.first.order;
          second = tn.0.value.second.order;
          indices = sixteen_of tn.0.value;
          lines = ls;
          residual = rs;
        }

    side-passes : side_passes k.fs_ind n s ≡ true
    side-passes =
        let read = ap (λ (a : Answer ℕ). and_then a (λ m. read_all k.fs_ind m f origin)) lines ∙ sided in
        subst (λ (m : ℕ). side_passes k.fs_ind m s ≡ true) (sym (frame-known k (length f) lines).2) (image-passes k f origin s b read)

    limits : SideLimits k.fs_ind n s
    limits = side-limits k.fs_ind n s side-passes

    begun : Started b y
    begun = start-at f b y started

    range-there : range_passes y.0.range ≡ true
    range-there = rw begun.range refl

    second-flag : s.tns_second ≤ 1
    second-flag = omega (arith, limits.second, if-there (leb 3 s.bandwidth) 1)

    tns-kept : (tns_passes s.tns_first s.tns_second tn.0.value.first.order tn.0.value.second.order (sixteen_of tn.0.value) ≡ true) × (tns_of tn.0.value.first.order tn.0.value.second.order (sixteen_of tn.0.value) ≡ tn.0.value)
    tns-kept =
        tns-image t.orders t.coefficients weighting (orders-passed t tables) (coefficients-passed t tables) weighting-low s.tns_first s.tns_second limits.first second-flag y.0 f y.1 short range-there tns_read

    -- 13
    fields-taken : (ls : List ℤ) (rs : List ℕ) → fields_pass k.fs_ind n (content ls rs) ≡ true
    fields-taken ls rs = and_both (side_passes k.fs_ind n s) _ side-passes tns-kept.0

    pub pairs-kept : All WholePair pr.0.value
    pairs-kept =
        let ok = (tns-behind t.orders t.coefficients weighting (orders-passed t tables) (coefficients-passed t tables) weighting-low s.tns_first s.tns_second y.0 f y.1 short range-there tns_read).range in
        (keeps-at (pairs-whole t.lookup t.frequencies (lookup-passed t tables) (frequencies-passed t tables) (eqb k.reading 1) (eqb s.lsb 1) (rate_flag bits k.fs_ind) n 0 (s.lastnz / 2) 0) tn.0.state f tn.1 short ok (both-here f tn.1) pairs_read).known.each

    module _ (ls : List ℤ) (rs : List ℕ) (modest : Modest ls) (again : pr.0.value ≡ pairs_of (eqb s.lsb 1) ls 0 (s.lastnz / 2)) where
      abbrev filters : List Sent
      filters = sent_tns t.orders t.coefficients weighting tn.0.value

      abbrev pairs : List Sent
      pairs = sent_pairs t.lookup t.frequencies (rate_flag bits k.fs_ind) n ls 0 (s.lastnz / 2) 0

      abbrev symbols : List Sent
      symbols = symbols_of k t bits n (content ls rs)

      symbols-are : symbols ≡ filters ++ pairs
      symbols-are = ap (λ (x : Tns). sent_tns t.orders t.coefficients weighting x ++ pairs) tns-kept.1

      all : AllPass symbols
      all = symbols-given k t bits n (content ls rs) tables (fields-taken ls rs) modest

      -- the filters' symbols leave the coder where it was behind them, and the tail as it was
      behind-filters : AtInterval tn.0.state tn.1 (behind whole filters) 3
      behind-filters =
          let took = side-took k.fs_ind n f origin s b sided in
          (tns-along t.orders t.coefficients weighting s.tns_first s.tns_second y.0 f y.1 tns_read).place whole 3 (record { range = begun.range; head = omega (arith, begun.head, took.head) })

      filters-tail : tn.1.tail ≡ y.1.tail
      filters-tail =
          (tns-behind t.orders t.coefficients weighting (orders-passed t tables) (coefficients-passed t tables) weighting-low s.tns_first s.tns_second y.0 f y.1 short range-there tns_read).moved.kept

      -- and so do the pairs', with their bits
      behind-all : (AtInterval pr.0.state pr.1 (behind whole symbols) 3) × (pr.1.tail ≡ tn.1.tail + length (pairs_bits (eqb s.lsb 1) ls 0 (s.lastnz / 2)))
      behind-all =
          let r = pairs-retrace t.lookup t.frequencies (lookup-passed t tables) (frequencies-passed t tables) (eqb k.reading 1) (eqb s.lsb 1) ls modest (rate_flag bits k.fs_ind) n 0 (s.lastnz / 2) 0 tn.0.state f tn.1 pr again pairs_read in
          let one : behind whole symbols ≡ behind (behind whole filters) pairs = ap (behind whole) symbols-are ∙ behind-append whole filters pairs in
          (subst (λ (i : Interval). AtInterval pr.0.state pr.1 i 3) (sym one) (r.place (behind whole filters) 3 behind-filters), r.tail)

      -- so E is what the reader reckons, by range and head
      reserved-is : reserved symbols ≡ reserved_bits (pr.1.head - 3) pr.0.state.range
      reserved-is =
          let h = (carry-exact symbols all).holds in
          let at = behind-all.0 in
          let range : (state_behind start_encoder symbols).range ≡ pr.0.state.range = h.range ∙ sym at.range in
          let shifts : shifts_of (state_behind start_encoder symbols) ≡ pr.1.head - 3 = omega (arith, h.shifts, at.head) in
          ap (λ (m : ℕ). 8 * m + 25 - floor_log2 (state_behind start_encoder symbols).range) shifts ∙
          ap (λ (m : ℕ). 8 * (pr.1.head - 3) + 25 - floor_log2 m) range

      -- the tail stands behind the bits that are early
      early-is : length (early_bits k.fs_ind n (content ls rs)) ≡ pr.1.tail
      early-is =
          let took = side-took k.fs_ind n f origin s b sided in
          let late = pairs_bits (eqb s.lsb 1) ls 0 (s.lastnz / 2) in
          omega (arith, behind-all.1, filters-tail, begun.tail, took.tail, length-append (fields_bits (side_fields k.fs_ind n s)) late, fields-bits-length (side_fields k.fs_ind n s))

      -- 16, where 12 was passed: both leave the same room
      room-taken : 0x10000 ≤ pr.0.state.range → pr.0.state.range ≤ 0xFFFFFF → used_bits pr.1 pr.0.state.range ≤ bits → length (early_bits k.fs_ind n (content ls rs)) + reserved symbols + (bits - used_bits pr.1 pr.0.state.range) ≡ bits
      room-taken least most fits = omega (arith, reserved-is, early-is, log-range pr.0.state.range least (omega arith), fits)

-- ---- the lines as they are returned

-- the lines by the mode
abbrev lines_by : ℕ → List ℕ → List Pair → ℕ → ℕ → Bool → List ℤ
lines_by reading f xs tail room lsb =
    cond lsb (late_from f (escaped_by reading (levels_of xs)) 0 (lines_of xs) tail room).lines (lines_of xs)

module _ (reading : ℕ) (f : List ℕ) (xs : List Pair) (tail room : ℕ) where
  by_length : (lsb : Bool) → length (lines_by reading f xs tail room lsb) ≡ 2 * length xs
  by_length true = late-length f (escaped_by reading (levels_of xs)) 0 (lines_of xs) tail room ∙ lines-length xs
  by_length false = lines-length xs

  -- each pair's lines are read as the pair, in least-bit mode in the standard reading
  by-again : (lsb : Bool) (n q : ℕ) → (lsb ≡ true → All EvenPair xs) → (lsb ≡ true → reading ≡ 1) →
      let ls = filled_to n (lines_by reading f xs tail room lsb) in
      (early_line lsb (get_or xs q nothing).escapes (line_at ls (2 * q)) ≡ (get_or xs q nothing).first) ×
      (early_line lsb (get_or xs q nothing).escapes (line_at ls (2 * q + 1)) ≡ (get_or xs q nothing).second)
  by-again true n q even standard =
      late-filled f (escaped_by reading (levels_of xs)) xs (even refl) (λ i. ap (λ (r : ℕ). escaped_by r (levels_of xs) i) (standard refl) ∙ ap (ltb 0) (level-at xs i)) tail room (n - length (lines_by reading f xs tail room true)) q
  by-again false n q even standard = plain-again xs (n - length (lines_of xs)) q

  -- so the pairs are those that the lines would be read as
  by-pairs : (lsb : Bool) (n : ℕ) → All WholePair xs → (lsb ≡ true → All EvenPair xs) → (lsb ≡ true → reading ≡ 1) →
      let ls = filled_to n (lines_by reading f xs tail room lsb) in
      ((q : ℕ) → q < length xs → escapes_at ls q ≡ get_or (levels_of xs) q 0) → pairs_of lsb ls 0 (length xs) ≡ xs
  by-pairs lsb n whole-pairs even standard same =
      let ls = filled_to n (lines_by reading f xs tail room lsb) in
      pairs-again lsb ls xs 0 whole-pairs
      (λ q l. let again = by-again lsb n q even standard in
      subst (λ (i : ℕ). Again lsb ls i (get_or xs q nothing)) (sym (zero-add q))
      (record { escapes = same q l ∙ level-at xs q; first = again.0; second = again.1 }))

-- 14
lines-taken : (x : Frame) → Modest x.lines → ((i : ℕ) → x.side.lastnz ≤ i → magnitude_at x.lines i ≡ 0) → first_failing (content_of x) ≡ length x.lines
lines-taken x modest zeros =
    first-behind (line_fails (content_of x)) 0 (length x.lines)
    (λ i a b. or-first-fails (leb x.side.lastnz i && ltb 0 (magnitude_at x.lines i)) (le-ltb 32767 (magnitude_at x.lines i) (modest i)) ∙
    by-test (leb x.side.lastnz i)
    (λ e. and-second-fails (leb x.side.lastnz i) (le-ltb 0 (magnitude_at x.lines i) (omega (arith, zeros i (leb-true x.side.lastnz i e)))))
    (λ e. and-first-fails (ltb 0 (magnitude_at x.lines i)) e)) ∙
    zero-add (length x.lines)

-- 15
residual-taken : (bits : ℕ) (x : Frame) → Listed bits x → length x.residual ≤ nonzero x.lines
residual-taken bits x l =
    by-test (eqb x.side.lsb 1)
    (λ e. rw (l.none e) (omega arith))
    (λ e. omega (arith, l.list e))

-- ---- the frame

-- what is written of a frame that was read is what was read: the filters, the pairs, the coder and the tail behind them, and the room there;
-- and what came late makes the frame
pub record Rewritten (k : Configuration) (t : Tables) (f : List ℕ) (n : ℕ) (x : Frame) : Type 0 where
  pub filters : tns_of x.tns.first.order x.tns.second.order (sixteen_of x.tns) ≡ x.tns
  pub pairs : pairs_of (least_bit (content_of x)) x.lines 0 (x.side.lastnz / 2) ≡ x.pairs
  pub range : x.range ≡ (behind whole (symbols_of k t (8 * length f) n (content_of x))).range
  pub head : x.cursor.head ≡ 3 + (behind whole (symbols_of k t (8 * length f) n (content_of x))).shifts
  pub room : ℕ
  pub all : length (early_bits k.fs_ind n (content_of x)) + reserved (symbols_of k t (8 * length f) n (content_of x)) + room ≡ 8 * length f
  pub late :
      let d : Data = record { side = x.side; tns = x.tns; pairs = x.pairs; range = x.range } in
      let c : Cursor = record { head = x.cursor.head; tail = length (early_bits k.fs_ind n (content_of x)) } in
      cond (least_bit (content_of x)) (with_late k.reading n f d c room) (with_residual n f d c room) ≡ x

-- what is shown of a frame by its parts
record Parts (k : Configuration) (t : Tables) (f : List ℕ) (n : ℕ) (x : Frame) : Type 0 where
  count : length x.lines ≡ n
  fields : fields_pass k.fs_ind n (content_of x) ≡ true
  zeros : (i : ℕ) → x.side.lastnz ≤ i → magnitude_at x.lines i ≡ 0
  again : Modest x.lines → StandardLate k x → SameEscapes x → Rewritten k t f n x

abbrev frame_by : SideInfo → Tns → List Pair → ℕ → List ℤ → List ℕ → Cursor → Frame
frame_by s tns pairs range ls rs c =
    record { side = s; tns = tns; pairs = pairs; lines = ls; residual = rs; cursor = c; range = range }

-- the frame by its mode
abbrev by_mode : ℕ → ℕ → List ℕ → Data × Cursor → ℕ → Bool → Frame
by_mode reading n f r room lsb = cond lsb (with_late reading n f r.0 r.1 room) (with_residual n f r.0 r.1 room)

module _ (k : Configuration) (t : Tables) (f : List ℕ) (n : ℕ) (lines : frame_lines k (length f) ≡ accepted n) (tables : tables_pass t ≡ true) where
  -- what data that was read makes
  abbrev Made : Data × Cursor → Type 0
  Made r =
      Behind k.reading k.fs_ind n f r → used_bits r.1 r.0.range ≤ 8 * length f → (lsb : Bool) → eqb r.0.side.lsb 1 ≡ lsb → Parts k t f n (by_mode k.reading n f r (8 * length f - used_bits r.1 r.0.range) lsb)

  module _ (s : SideInfo) (b : Cursor) (sided : read_all k.fs_ind n f origin ≡ accepted (s, b)) (y : DecoderState × Cursor) (started : start_in f b ≡ accepted y)
      (tn : Coded Tns × Cursor) (tns_read : read_tns t.orders t.coefficients (weighting_row k.duration (8 * length f)) s.tns_first s.tns_second y.0 f y.1 ≡ accepted tn)
      (pr : Coded (List Pair) × Cursor) (pairs_read : read_pairs t.lookup t.frequencies (eqb k.reading 1) (eqb s.lsb 1) (rate_flag (8 * length f) k.fs_ind) n 0 (s.lastnz / 2) 0 tn.0.state f tn.1 ≡ accepted pr) where
    abbrev xs : List Pair
    xs = pr.0.value

    abbrev read : Data × Cursor
    read = (record { side = s; tns = tn.0.value; pairs = xs; range = pr.0.state.range }, pr.1)

    abbrev room : ℕ
    room = 8 * length f - used_bits pr.1 pr.0.state.range

    module _ (known : Behind k.reading k.fs_ind n f read) (fits : used_bits pr.1 pr.0.state.range ≤ 8 * length f) (lsb : Bool) (is : eqb s.lsb 1 ≡ lsb) where
      abbrev ls : List ℤ
      ls = lines_by k.reading f xs pr.1.tail room lsb

      size : length ls ≡ 2 * (s.lastnz / 2)
      size = by_length k.reading f xs pr.1.tail room lsb ∙ ap (λ (m : ℕ). 2 * m) known.count

      again : (lsb ≡ true → k.reading ≡ 1) → ((p : ℕ) → p < s.lastnz / 2 → escapes_at (filled_to n ls) p ≡ get_or (levels_of xs) p 0) → xs ≡ pairs_of (eqb s.lsb 1) (filled_to n ls) 0 (s.lastnz / 2)
      again standard same =
          let pairs = by-pairs k.reading f xs pr.1.tail room lsb n (pairs-kept k t f n lines tables s b sided y started tn tns_read pr pairs_read) (λ h. known.even (is ∙ h)) standard (λ q l. same q (omega (arith, l, known.count))) in
          subst (λ (m : ℕ). xs ≡ pairs_of (eqb s.lsb 1) (filled_to n ls) 0 m) known.count
          (subst (λ (u : Bool). xs ≡ pairs_of u (filled_to n ls) 0 (length xs)) (sym is) (sym pairs))

      module _ (rs : List ℕ) (c : Cursor) (headed : c.head ≡ pr.1.head) where
        abbrev x : Frame
        x = frame_by s tn.0.value xs pr.0.state.range (filled_to n ls) rs c

        rewritten : ((tail : ℕ) → tail ≡ pr.1.tail → by_mode k.reading n f (read.0, record { head = c.head; tail = tail }) room (eqb s.lsb 1) ≡ x) → Modest x.lines → StandardLate k x → SameEscapes x → Rewritten k t f n x
        rewritten late modest standard same =
            let pairs = again (λ h. standard (is ∙ h)) same in
            let at = (behind-all k t f n lines tables s b sided y started tn tns_read pr pairs_read (filled_to n ls) rs modest pairs).0 in
            record {
              filters = (tns-kept k t f n lines tables s b sided y started tn tns_read pr pairs_read).1;
              pairs = sym pairs;
              range = at.range;
              head = headed ∙ at.head;
              room = room;
              all = room-taken k t f n lines tables s b sided y started tn tns_read pr pairs_read (filled_to n ls) rs modest pairs known.least known.most fits;
              late = late (length (early_bits k.fs_ind n (content_of x))) (early-is k t f n lines tables s b sided y started tn tns_read pr pairs_read (filled_to n ls) rs modest pairs);
            }

        parts-by : ((tail : ℕ) → tail ≡ pr.1.tail → by_mode k.reading n f (read.0, record { head = c.head; tail = tail }) room (eqb s.lsb 1) ≡ x) → Parts k t f n x
        parts-by late =
            let most = known.limits.last in
            record {
              count = omega (arith, length-append ls (replicate (n - length ls) (pos 0)), length-replicate (n - length ls) (pos 0), size, most);
              fields = fields-taken k t f n lines tables s b sided y started tn tns_read pr pairs_read (filled_to n ls) rs;
              zeros = λ i h. ap nat_abs (filled_at ls (n - length ls) i ∙ get_or-eq_default ls (pos 0) (omega (arith, size, h)));
              again = rewritten late;
            }

    made : Made read
    made known fits true is = parts-by known fits true is _ (by_mode k.reading n f read room true).cursor refl (λ tail e. rw (is, e) refl)
    made known fits false is = parts-by known fits false is _ (by_mode k.reading n f read room false).cursor refl (λ tail e. rw (is, e) refl)

  data-made : (r : Data × Cursor) → read_data k t (8 * length f) n f origin ≡ accepted r → Made r
  data-made r e =
      let a = then-split (read_all k.fs_ind n f origin) _ e in
      let st = then-split (start_in f a.0.1) _ a.2 in
      let tr = then-split (read_tns t.orders t.coefficients (weighting_row k.duration (8 * length f)) a.0.0.tns_first a.0.0.tns_second st.0.0 f st.0.1) _ st.2 in
      let pr = then-split (read_pairs t.lookup t.frequencies (eqb k.reading 1) (eqb a.0.0.lsb 1) (rate_flag (8 * length f) k.fs_ind) n 0 (a.0.0.lastnz / 2) 0 tr.0.0.state f tr.0.1) _ tr.2 in
      subst Made (accepted-same pr.2) (made a.0.0 a.0.1 a.1 st.0 st.1 tr.0 tr.1 pr.0 pr.1)

-- ---- the theorem

module _ (k : Configuration) (t : Tables) (count : ℕ) (f : List ℕ) (x : Frame) (e : read_frame k t count f ≡ accepted x) where
  abbrev n : ℕ
  n = ne k.duration k.fs_ind

  -- it passed 1 to 4
  pub checked : (frame_lines k (length f) ≡ accepted n) × (tables_pass t ≡ true) × (n ≤ count) × (read_on k t n f ≡ accepted x)
  checked =
      let p = then-split (frame_lines k (length f)) (λ m. given (not (tables_pass t)) tables_fail (given (ltb count m) (wrong_count count) (read_on k t m f))) e in
      let is : p.0 ≡ n = (frame-known k (length f) p.1).2 in
      let q = given-split (not (tables_pass t)) tables_fail (given (ltb count p.0) (wrong_count count) (read_on k t p.0 f)) p.2 in
      let r = given-split (ltb count p.0) (wrong_count count) (read_on k t p.0 f) q.1 in
      (p.1 ∙ ap accepted is, not-false (tables_pass t) q.0, omega (arith, is, ltb-false count p.0 r.0), ap (λ (m : ℕ). read_on k t m f) (sym is) ∙ r.1)

  parts : Parts k t f n x
  parts =
      let lines = checked.0 in
      let tables = checked.1 in
      let s = then-split (read_data k t (8 * length f) n f origin) (λ d. finished k.reading n f d.0 d.1) checked.3 in
      let u = then-split (available (8 * length f) s.0.1 s.0.0.range) (λ room. accepted (by_mode k.reading n f s.0 room (eqb s.0.0.side.lsb 1))) s.2 in
      let g = given-split (ltb (8 * length f) (used_bits s.0.1 s.0.0.range)) residual_negative (accepted (8 * length f - used_bits s.0.1 s.0.0.range)) u.1 in
      let known = data-behind k n f t (coded-passed t tables) lines s.1 in
      subst (Parts k t f n) (ap (λ (room : ℕ). by_mode k.reading n f s.0 room (eqb s.0.0.side.lsb 1)) (accepted-same g.1) ∙ accepted-same u.2)
      (data-made k t f n lines tables s.0 s.1 known (ltb-false (8 * length f) (used_bits s.0.1 s.0.0.range) g.0) (eqb s.0.0.side.lsb 1) refl)

  -- no line is above 32,767: in the standard reading none can be
  modest : FewInCrate k x → Modest x.lines
  modest few =
      let passes = (frame-known k (length f) checked.0).0 in
      let low : k.reading ≤ 1 = leb-true k.reading 1 (and_right (leb k.fs_ind 4 && leb k.duration 1) (leb k.reading 1) passes) in
      within-sixteen x (lines-within k t count f x e)
      (by-test (eqb k.reading 1) (λ is. few-escapes k t count f x e (eqb-true k.reading 1 is)) (λ is. few (omega (arith, low, eqb-false k.reading 1 is))))

  -- what was read with the escapes that its lines have is written as it was read
  pub taken-again : StandardLate k x → FewInCrate k x → SameEscapes x → Rewritten k t f n x
  taken-again standard few same = parts.again (modest few) standard same

  -- whatever is read passes 4, 13 and 15, and 14 and 16 where it was read with the escapes that its lines have
  pub taken : Taken k t (length f) x
  taken =
      record {
        count = parts.count;
        fields = parts.fields;
        lines = λ few. lines-taken x (modest few) parts.zeros;
        residual = residual-taken (8 * length f) x (residual-listed k t count f x e);
        room = λ standard few same. omega (arith, (taken-again standard few same).all);
      }

  -- in the standard reading 14 is passed by whatever was read
  pub standard-taken : k.reading ≡ 1 → first_failing (content_of x) ≡ length x.lines
  standard-taken is = taken.lines (λ zero. absurd (omega (arith, is, zero)))

  -- so the writer takes it back into a frame of as many bytes
  pub taken-written : StandardLate k x → FewInCrate k x → SameEscapes x →
      let w = content_of x in
      write_frame k t w (length f) ≡ accepted (laid k.reading (length f) (symbols_of k t (8 * length f) n w) (tail_bits k t (8 * length f) n w))
  taken-written standard few same =
      let w = content_of x in
      let counted = eq-eqb (length x.lines) n taken.count in
      let none = le-ltb (first_failing w) (length x.lines) (omega (arith, taken.lines few)) in
      let listed = le-ltb (nonzero x.lines) (length x.residual) taken.residual in
      let room = le-ltb (8 * length f) (length (early_bits k.fs_ind n w) + reserved (symbols_of k t (8 * length f) n w)) (taken.room standard few same) in
      rw (checked.0, checked.1, counted, taken.fields, none, listed, room) refl
