-- What is known of the data behind its reading, and of a refusal on the way, by what each stage says of itself. From a frame's start
-- the side information never lacks room and the coder's three bytes are there. Assumes nothing.
use Prim.Native.Nat.{ℕ, ◌+◌, ◌*◌, ◌/◌, ◌≤◌, ◌<◌}
use mathlib.Core.Path.{◌≡◌, refl, sym, ap, subst, ◌∙◌}
use mathlib.Core.Bool.{Bool, true, false, cond, true≢false}
use mathlib.Core.List.{List}
use mathlib.Core.Logic.{inl, inr}
use native.Mathlib.Omega.{arith}
use borrow.Author.Tests.{le-leb, leb-true, eqb-true}
use lib.Dec.{leb, ltb, eqb}
use lib.ListN.{length}
use Rattle.common.specs.Reply.{Step, nowhere, side, start, order, coef, symbol, bit, Reply, Answer, accepted, refused, and_then, within}
use Rattle.common.specs.Configuration.{frame_lines}
use Rattle.common.specs.Configuration.{ne as lines·ne}
use Rattle.common.specs.Tables.{Tables, coded_pass}
use Rattle.common.specs.declared.configuration.Configuration.{Configuration}
use Rattle.common.proofs.Bools.{and_left, and_right}
use Rattle.common.proofs.Configurations.{frame-known, frame-ranges}
use Rattle.common.proofs.Sets.{lookup-coded, frequencies-coded, orders-coded, coefficients-coded}
use Rattle.buffer_reader.specs.Reads.{three_at}
use Rattle.buffer_reader.specs.declared.Cursor.{Cursor}
use Rattle.buffer_reader.proofs.Answers.{three-taken}
use Rattle.buffer_reader.proofs.Roomy.{Ahead, Ends, ends-then, ends-refused}
use Rattle.side_info.specs.Reader.{read_all}
use Rattle.side_info.specs.declared.SideInfo.{SideInfo}
use Rattle.side_info.proofs.SideLimits.{SideLimits, side-limits}
use Rattle.side_info.proofs.Image.{image-passes}
use Rattle.side_info.proofs.Start.{Own, side-roomy}
use Rattle.range_decoder.specs.Decoder.{start_decoder, range_passes}
use Rattle.range_decoder.specs.declared.DecoderState.{DecoderState}
use Rattle.contexts.specs.Contexts.{rate_flag}
use Rattle.coding.proofs.Keeps
use Rattle.coding.proofs.Keeps.{HeadMoved, head-here, BothMoved, both-here, both-of-head, keeps-at}
use Rattle.coding.specs.Coding.{Coded}
use Rattle.tns_data.specs.Tns.{Tns, read_tns, weighting_row}
use Rattle.tns_data.proofs.Within.{tns_step, TnsRefusal, TnsWithin, tns-keeps}
use Rattle.spectral_data.specs.Spectral.{Pair, read_pairs}
use Rattle.spectral_data.proofs.Bounds.{Meets, bit_missing, byte_missing, low_beyond, too_many, All, Sized, Pairs, pairs-going}
use Rattle.frame_reader.specs.Frame.{Data, read_data, start_in}
use Rattle.frame_reader.specs.Refusals.{stands_in, InFrame}
use Rattle.frame_reader.specs.Private.{Low, read_coded}
use Rattle.frame_reader.proofs.Magnitudes.{EvenPair, pairs-even}

-- ---- refusals, by stage

pub own-in-frame : (reading : ℕ) (r : Reply) → Own r → InFrame reading r
own-in-frame reading r o =
    record {
      least = o.some;
      most = inl (omega (arith, o.low));
      place = rw (o.place, le-leb r.number 8 o.low) refl;
    }

tns-in-frame : (reading : ℕ) (r : Reply) → TnsRefusal r → InFrame reading r
tns-in-frame reading r t =
    let n = r.number in
    let ten = leb-true 10 n (and_left (leb 10 n) (leb n 11) t.number) in
    let eleven = leb-true n 11 (and_right (leb 10 n) (leb n 11) t.number) in
    record { least = omega arith; most = inl (omega arith); place = by r.step t.place }
  where
    by : (s : Step) → tns_step s ≡ true → stands_in r.number s ≡ true
    by nowhere e = absurd (true≢false (sym e))
    by side e = absurd (true≢false (sym e))
    by start e = absurd (true≢false (sym e))
    by (order f) e = t.number
    by (coef f k) e = t.number
    by (symbol p level) e = absurd (true≢false (sym e))
    by (bit p level) e = absurd (true≢false (sym e))

pairs-in-frame : (reading : ℕ) (r : Reply) → Meets (eqb reading 1) r → InFrame reading r
pairs-in-frame reading r (bit_missing p level tail h) = record { least = omega arith; most = inl (omega arith); place = refl }
pairs-in-frame reading r (byte_missing p level head h) = record { least = omega arith; most = inl (omega arith); place = refl }
pairs-in-frame reading r (low_beyond p level low limit h) = record { least = omega arith; most = inl (omega arith); place = refl }
pairs-in-frame reading r (too_many p is) = record { least = omega arith; most = inr (eqb-true reading 1 is, refl); place = refl }

-- what holds of one kind of refusals, said of another
ends-refusing : {A : Type 0} (P Q : Reply → Type 0) (K : A → Type 0) (a : Answer A) → ((r : Reply) → P r → Q r) → Ends P K a → Ends Q K a
ends-refusing P Q K (accepted x) go h = h
ends-refusing P Q K (refused r) go h = go r h

-- ---- the start

pub start-taken : (f : List ℕ) (c : Cursor) → length f ≤ 65535 → c.head + 2 < length f → start_decoder f c ≡ accepted (record { low = three_at f c.head; range = 0xFFFFFF }, record { head = c.head + 3; tail = c.tail })
start-taken f c short there =
    ap (λ (a : Answer (ℕ × Cursor)). and_then a (λ r. accepted (record { low = r.0; range = 0xFFFFFF }, r.1))) (three-taken f c short there)

weighting-low : (duration bits : ℕ) → weighting_row duration bits ≤ 1
weighting-low duration bits = by (ltb bits (cond (eqb duration 0) 480 360))
  where
    by : (t : Bool) → cond t 1 0 ≤ 1
    by true = omega arith
    by false = omega arith

-- of the code's numbers for them
pub weighting-most : (w duration bits : ℕ) → w ≡ weighting_row duration bits → w ≤ 1
weighting-most w duration bits e = rw e (weighting-low duration bits)

pub rate-most : (r bits fs : ℕ) → r ≡ rate_flag bits fs → r ≤ 512
rate-most r bits fs e = rw e (by (ltb (160 + 160 * fs) bits))
  where
    by : (t : Bool) → cond t 512 0 ≤ 512
    by true = omega arith
    by false = omega arith

-- ---- the data

-- a cursor behind the coder's start, within the frame
pub record Inside (f : List ℕ) (c : Cursor) : Type 0 where
  pub three : 3 ≤ c.head
  pub head : c.head ≤ length f
  pub tail : c.tail ≤ 8 * length f

inside_on : {f : List ℕ} {c d : Cursor} → BothMoved f c d → Inside f c → Inside f d
inside_on m i = record { three = omega (arith, m.head, i.three); head = m.head_inside i.head; tail = m.tail_inside i.tail }

-- what is known of data that was read, and of the cursor behind it
pub record Behind (reading fs ne : ℕ) (f : List ℕ) (r : Data × Cursor) : Type 0 where
  pub limits : SideLimits fs ne r.0.side
  pub filters : TnsWithin r.0.side.tns_first r.0.side.tns_second r.0.tns
  pub count : length r.0.pairs ≡ r.0.side.lastnz / 2
  pub sized : All (Sized (eqb reading 1)) r.0.pairs
  pub even : eqb r.0.side.lsb 1 ≡ true → All EvenPair r.0.pairs
  pub least : 0x10000 ≤ r.0.range
  pub most : r.0.range ≤ 0xFFFFFF
  pub place : Inside f r.1

abbrev origin : Cursor
origin = record { head = 0; tail = 0 }

-- the side information, and the coder's start behind it
module _ (k : Configuration) (ne : ℕ) (f : List ℕ) (judged : frame_lines k (length f) ≡ accepted ne) where
  pub ranges : (k.fs_ind ≤ 4) × (60 ≤ ne) × (ne ≤ 400) × (20 ≤ length f) × (length f ≤ 400)
  ranges = frame-ranges k (length f) judged

  short : length f ≤ 65535
  short = omega (arith, ranges.4)

  side-ends : Ends Own (λ r. Ahead origin 74 r.1) (read_all k.fs_ind ne f origin)
  side-ends = (side-roomy k.fs_ind ne ranges.0 ranges.1 ranges.2).ends f origin short (omega (arith, ranges.3))

  -- a refusal of the side information is its own
  pub side-refusal : {r : Reply} → read_all k.fs_ind ne f origin ≡ refused r → Own r
  side-refusal e = ends-refused Own (λ r. Ahead origin 74 r.1) (read_all k.fs_ind ne f origin) side-ends e

  pub side-low : {r : Reply} → read_all k.fs_ind ne f origin ≡ refused r → Low r
  side-low {r} e = le-leb r.number 8 (side-refusal e).low

  module _ (x : SideInfo × Cursor) (e : read_all k.fs_ind ne f origin ≡ accepted x) where
    side-ahead : Ahead origin 74 x.1
    side-ahead = subst (Ends Own (λ r. Ahead origin 74 r.1)) e side-ends

    pub side-known : SideLimits k.fs_ind ne x.0
    side-known =
        let whole = ap (λ (a : Answer ℕ). and_then a (λ n. read_all k.fs_ind n f origin)) judged ∙ e in
        let same = (frame-known k (length f) judged).2 in
        subst (λ n. SideLimits k.fs_ind n x.0) (sym same) (side-limits k.fs_ind (lines·ne k.duration k.fs_ind) x.0 (image-passes k f origin x.0 x.1 whole))

    -- the coder's start is never refused there
    pub start-there : start_decoder f x.1 ≡ accepted (record { low = three_at f x.1.head; range = 0xFFFFFF }, record { head = x.1.head + 3; tail = x.1.tail })
    start-there = start-taken f x.1 short (omega (arith, side-ahead.same, ranges.3))

    start-inside : Inside f (record { head = x.1.head + 3; tail = x.1.tail })
    start-inside =
        record {
          three = omega arith;
          head = omega (arith, side-ahead.same, ranges.3);
          tail = omega (arith, side-ahead.near, ranges.3);
        }

-- all of it, with tables that pass
module _ (k : Configuration) (ne : ℕ) (f : List ℕ) (t : Tables) (passes : coded_pass t ≡ true) (judged : frame_lines k (length f) ≡ accepted ne) where
  abbrev fs : ℕ
  fs = k.fs_ind

  abbrev bits : ℕ
  bits = 8 * length f

  abbrev standard : Bool
  standard = eqb k.reading 1

  abbrev reading_tns : SideInfo → DecoderState → Cursor → Answer (Coded Tns × Cursor)
  reading_tns s state c = read_tns t.orders t.coefficients (weighting_row k.duration bits) s.tns_first s.tns_second state f c

  abbrev reading_pairs : SideInfo → DecoderState → Cursor → Answer (Coded (List Pair) × Cursor)
  reading_pairs s state c = read_pairs t.lookup t.frequencies standard (eqb s.lsb 1) (rate_flag bits fs) ne 0 (s.lastnz / 2) 0 state f c

  -- behind the TNS data
  tns-ends : (s : SideInfo) (state : DecoderState) (c : Cursor) → range_passes state.range ≡ true →
      Ends TnsRefusal (Keeps.Behind HeadMoved (TnsWithin s.tns_first s.tns_second) f c) (reading_tns s state c)
  tns-ends s state c ok =
      (tns-keeps t.orders t.coefficients (weighting_row k.duration bits) (orders-coded t passes) (coefficients-coded t passes) (weighting-low k.duration bits) s.tns_first s.tns_second).ends state f c c (short k ne f judged) ok (head-here f c)

  pub tns-range : (s : SideInfo) (state : DecoderState) (c : Cursor) → range_passes state.range ≡ true → {x : Coded Tns × Cursor} → reading_tns s state c ≡ accepted x → range_passes x.0.state.range ≡ true
  tns-range s state c ok e = (subst (Ends TnsRefusal (Keeps.Behind HeadMoved (TnsWithin s.tns_first s.tns_second) f c)) e (tns-ends s state c ok)).range

  module _ (s : SideInfo) (limits : SideLimits fs ne s) where
    coded-ends : (state : DecoderState) (c : Cursor) → range_passes state.range ≡ true → Inside f c → Ends (InFrame k.reading) (Behind k.reading fs ne f) (read_coded k t bits ne s state f c)
    coded-ends state c ok inside =
        ends-then (InFrame k.reading) (Behind k.reading fs ne f) (Keeps.Behind HeadMoved (TnsWithin s.tns_first s.tns_second) f c) (reading_tns s state c) _
        (ends-refusing TnsRefusal (InFrame k.reading) _ (reading_tns s state c) (tns-in-frame k.reading) (tns-ends s state c ok))
        (λ x e b. ends-then (InFrame k.reading) (Behind k.reading fs ne f) (Keeps.Behind BothMoved (Pairs (Sized standard) (s.lastnz / 2)) f x.1) (reading_pairs s x.0.state x.1) _
        (ends-refusing (Meets standard) (InFrame k.reading) _ (reading_pairs s x.0.state x.1) (pairs-in-frame k.reading)
        ((pairs-going t.lookup t.frequencies (lookup-coded t passes) (frequencies-coded t passes) standard (eqb s.lsb 1) (rate_flag bits fs) ne 0 (s.lastnz / 2) 0).ends x.0.state f x.1 x.1 (short k ne f judged) b.range (both-here f x.1)))
        (λ y q p.
        let ranged = p.range in
        let n = y.0.state.range in
        record {
          limits = limits;
          filters = b.known;
          count = p.known.count;
          sized = p.known.each;
          even = λ h. (keeps-at (pairs-even t.lookup t.frequencies (lookup-coded t passes) (frequencies-coded t passes) standard (rate_flag bits fs) ne 0 (s.lastnz / 2) 0) x.0.state f x.1 (short k ne f judged) b.range (both-here f x.1) (subst (λ lsb. read_pairs t.lookup t.frequencies standard lsb (rate_flag bits fs) ne 0 (s.lastnz / 2) 0 x.0.state f x.1 ≡ accepted y) h q)).known.each;
          least = leb-true 0x10000 n (and_left (leb 0x10000 n) (leb n 0xFFFFFF) ranged);
          most = leb-true n 0xFFFFFF (and_right (leb 0x10000 n) (leb n 0xFFFFFF) ranged);
          place = inside_on p.moved (inside_on (both-of-head b.moved) inside);
        }))

  behind-side : (x : SideInfo × Cursor) → read_all fs ne f origin ≡ accepted x → Ends (InFrame k.reading) (Behind k.reading fs ne f) (and_then (start_in f x.1) (λ r. read_coded k t bits ne x.0 r.0 f r.1))
  behind-side x e =
      subst (λ (a : Answer (DecoderState × Cursor)). Ends (InFrame k.reading) (Behind k.reading fs ne f) (and_then (within start a) (λ r. read_coded k t bits ne x.0 r.0 f r.1))) (sym (start-there k ne f judged x e))
      (coded-ends x.0 (side-known k ne f judged x e) (record { low = three_at f x.1.head; range = 0xFFFFFF }) (record { head = x.1.head + 3; tail = x.1.tail }) refl (start-inside k ne f judged x e))

  pub data-ends : Ends (InFrame k.reading) (Behind k.reading fs ne f) (read_data k t bits ne f origin)
  data-ends =
      ends-then (InFrame k.reading) (Behind k.reading fs ne f) (λ r. Ahead origin 74 r.1) (read_all fs ne f origin) _
      (ends-refusing Own (InFrame k.reading) _ (read_all fs ne f origin) (own-in-frame k.reading) (side-ends k ne f judged))
      (λ x e ahead. behind-side x e)

  pub data-behind : {r : Data × Cursor} → read_data k t bits ne f origin ≡ accepted r → Behind k.reading fs ne f r
  data-behind e = subst (Ends (InFrame k.reading) (Behind k.reading fs ne f)) e data-ends
