-- What holds of every frame, over its definition: where a refusal stands, that used and spare are N, how long the residual list is,
-- and how large its lines are. By what the stages say of themselves. Assumes nothing.
use Prim.Native.Nat.{ℕ, ◌+◌, ◌-◌, ◌*◌, ◌/◌, ◌%◌, ◌≤◌, min}
use mathlib.Core.Path.{◌≡◌, refl, sym, ap, subst, ◌∙◌}
use mathlib.Core.Bool.{Bool, true, false, cond, not, true≢false}
use mathlib.Core.List.{List, [], ◌∷◌}
use mathlib.Core.Logic.{inl}
use native.Mathlib.Omega.{arith}
use borrow.Author.Tests.{le-leb, ltb-false, eqb-true, eqb-false, not-false}
use lib.Dec.{ltb, eqb}
use lib.ListN.{length, get_or}
use lib.IntN.{pos, nat_abs}
use Rattle.common.specs.Last.{floor_log2}
use Rattle.common.specs.Reply.{nowhere, Reply, Answer, accepted, refused, given, and_then, tables_fail, wrong_count, residual_negative}
use Rattle.common.specs.Configuration.{frame_lines}
use Rattle.common.specs.Tables.{Tables, tables_pass}
use Rattle.common.proofs.Sets.{coded-passed}
use Rattle.common.specs.declared.configuration.Configuration.{Configuration}
use Rattle.common.proofs.Replies.{accepted-same, then-split, given-split}
use Rattle.common.proofs.Bools.{by-test}
use Rattle.common.proofs.Lasts.{log-range}
use Rattle.buffer_reader.specs.declared.Cursor.{Cursor}
use Rattle.buffer_reader.proofs.Roomy.{Ends, ends-given, ends-then, ends-refused}
use Rattle.side_info.proofs.Start.{lines-refusal}
use Rattle.tns_data.proofs.Within.{TnsWithin}
use Rattle.spectral_data.specs.Spectral.{lines_of, levels_of}
use Rattle.spectral_data.proofs.Bounds.{All, Sized}
use Rattle.spectral_data.proofs.Lines.{even-most, odd-most, odd-few, level-few}
use Rattle.residual_data.specs.Residual.{used_bits, available, nonzero, residual_list, escaped_by, late_from}
use Rattle.residual_data.proofs.Residuals.{residual-length}
use Rattle.residual_data.proofs.Lates.{late-spends}
use Rattle.frame_reader.specs.Frame.{Data, Frame, filled_to, read_data, with_residual, with_late, finished, read_frame}
use Rattle.frame_reader.specs.Refusals.{InFrame}
use Rattle.frame_reader.specs.Spare.{used, spare}
use Rattle.frame_reader.specs.Stated.{Listed, Magnitudes, FewEscapes, WithinSixteen}
use Rattle.frame_reader.specs.Private.{read_on}
use Rattle.frame_reader.proofs.Data.{Inside, Behind, ranges, own-in-frame, data-ends, data-behind}
use Rattle.frame_reader.proofs.Magnitudes.{EvenPair, late-each, bounds, even-late, odd-late, odd-few-late, filled-size}

-- ---- refusals

module _ (k : Configuration) (t : Tables) (count : ℕ) (f : List ℕ) where
  abbrev origin : Cursor
  origin = record { head = 0; tail = 0 }

  abbrev Read : Frame → Type 0
  Read fr = Unit {0}

  in-no-step : (n : ℕ) (values : List ℕ) → 1 ≤ n → n ≤ 8 → InFrame k.reading (record { number = n; values = values; step = nowhere })
  in-no-step n values least most = record { least = least; most = inl (omega arith); place = rw (le-leb n 8 most) refl }

  finished-ends : (ne : ℕ) (d : Data) (c : Cursor) → Ends (InFrame k.reading) Read (finished k.reading ne f d c)
  finished-ends ne d c =
      ends-then (InFrame k.reading) Read (λ room. Unit {0}) (available (8 * length f) c d.range) _
      (ends-given (InFrame k.reading) (λ room. Unit {0}) (ltb (8 * length f) (used_bits c d.range)) residual_negative _
      (record { least = omega arith; most = inl (omega arith); place = refl })
      (λ e. tt))
      (λ room e u. tt)

  frame-ends : Ends (InFrame k.reading) Read (read_frame k t count f)
  frame-ends = by (frame_lines k (length f)) refl
    where
      by : (a : Answer ℕ) → frame_lines k (length f) ≡ a →
          Ends (InFrame k.reading) Read (and_then a (λ n. given (not (tables_pass t)) tables_fail (given (ltb count n) (wrong_count count) (read_on k t n f))))
      by (refused r) e = own-in-frame k.reading r (lines-refusal k f e)
      by (accepted n) e =
          ends-given (InFrame k.reading) Read (not (tables_pass t)) tables_fail _ (in-no-step 3 [] (omega arith) (omega arith))
          (λ g. ends-given (InFrame k.reading) Read (ltb count n) (wrong_count count) _ (in-no-step 4 (count ∷ []) (omega arith) (omega arith))
          (λ h. ends-then (InFrame k.reading) Read (Behind k.reading k.fs_ind n f) (read_data k t (8 * length f) n f origin) _
          (data-ends k n f t (coded-passed t (not-false (tables_pass t) g)) e)
          (λ x q b. finished-ends n x.0 x.1)))

  -- 1: in a whole frame 9 stands in `bit` alone, 10 and 11 in `order`, `coef` or `symbol` alone, any other in no step; all are 1 to 12,
  -- and in the standard reading also 19
  pub frame-refusal : {r : Reply} → read_frame k t count f ≡ refused r → InFrame k.reading r
  frame-refusal e = ends-refused (InFrame k.reading) Read (read_frame k t count f) frame-ends e

-- ---- accepted frames

-- the frame by its mode
abbrev pub by_mode : ℕ → ℕ → List ℕ → Data → Cursor → ℕ → Bool → Frame
by_mode reading ne f d c room lsb = cond lsb (with_late reading ne f d c room) (with_residual ne f d c room)

-- an accepted frame is not too long, its filters are within their limits, and so are the last cursors and range
pub record Bounded (f : List ℕ) (x : Frame) : Type 0 where
  pub short : length f ≤ 400
  pub filters : TnsWithin x.side.tns_first x.side.tns_second x.tns
  pub three : 3 ≤ x.cursor.head
  pub head : x.cursor.head ≤ length f
  pub least : 0x10000 ≤ x.range
  pub most : x.range ≤ 0xFFFFFF

-- what stands behind an accepted frame
record Parts (k : Configuration) (t : Tables) (f : List ℕ) (fr : Frame) : Type 0 where
  ne : ℕ
  read : Data
  cursor : Cursor
  room : ℕ
  short : length f ≤ 400
  filters : TnsWithin read.side.tns_first read.side.tns_second read.tns
  place : Inside f cursor
  sized : All (Sized (eqb k.reading 1)) read.pairs
  even : eqb read.side.lsb 1 ≡ true → All EvenPair read.pairs
  least : 0x10000 ≤ read.range
  most : read.range ≤ 0xFFFFFF
  fits : used_bits cursor read.range ≤ 8 * length f
  left : 8 * length f - used_bits cursor read.range ≡ room
  same : by_mode k.reading ne f read cursor room (eqb read.side.lsb 1) ≡ fr

-- every place is an even or an odd one
pub within-sixteen : (x : Frame) → Magnitudes x → FewEscapes x → WithinSixteen x
within-sixteen x m few k =
    by-test (eqb (k % 2) 0)
    (λ e. let at : k ≡ 2 * (k / 2) = omega (arith, eqb-true (k % 2) 0 e) in
    subst (λ (i : ℕ). nat_abs (get_or x.lines i (pos 0)) ≤ 32767) (sym at) (m.evens (k / 2)))
    (λ e. let at : k ≡ 2 * (k / 2) + 1 = omega (arith, eqb-false (k % 2) 0 e) in
    subst (λ (i : ℕ). nat_abs (get_or x.lines i (pos 0)) ≤ 32767) (sym at) (m.few (k / 2) (few (k / 2))))

module _ (k : Configuration) (t : Tables) (count : ℕ) (f : List ℕ) (fr : Frame) (e : read_frame k t count f ≡ accepted fr) where
  frame-parts : Parts k t f fr
  frame-parts =
      let p = then-split (frame_lines k (length f)) (λ n. given (not (tables_pass t)) tables_fail (given (ltb count n) (wrong_count count) (read_on k t n f))) e in
      let n = p.0 in
      let q = given-split (not (tables_pass t)) tables_fail (given (ltb count n) (wrong_count count) (read_on k t n f)) p.2 in
      let r = given-split (ltb count n) (wrong_count count) (read_on k t n f) q.1 in
      let s = then-split (read_data k t (8 * length f) n f (record { head = 0; tail = 0 })) (λ x. finished k.reading n f x.0 x.1) r.1 in
      let d = s.0.0 in
      let c = s.0.1 in
      let u = then-split (available (8 * length f) c d.range) (λ room. accepted (by_mode k.reading n f d c room (eqb d.side.lsb 1))) s.2 in
      let g = given-split (ltb (8 * length f) (used_bits c d.range)) residual_negative (accepted (8 * length f - used_bits c d.range)) u.1 in
      let b = data-behind k n f t (coded-passed t (not-false (tables_pass t) q.0)) p.1 s.1 in
      record {
        ne = n;
        read = d;
        cursor = c;
        room = u.0;
        short = (ranges k n f p.1).4;
        filters = b.filters;
        place = b.place;
        sized = b.sized;
        even = b.even;
        least = b.least;
        most = b.most;
        fits = ltb-false (8 * length f) (used_bits c d.range) g.0;
        left = accepted-same g.1;
        same = accepted-same u.2;
      }

  abbrev P : Parts k t f fr
  P = frame-parts

  log : floor_log2 P.read.range ≤ 23
  log = (log-range P.read.range P.least (omega (arith, P.most))).1

  -- 2: used and spare are N exactly
  used-most : used fr ≤ 8 * length f
  used-most = subst (λ x. used x ≤ 8 * length f) P.same (by (eqb P.read.side.lsb 1))
    where
      by : (lsb : Bool) → used (by_mode k.reading P.ne f P.read P.cursor P.room lsb) ≤ 8 * length f
      by true =
          let escaped = escaped_by k.reading (levels_of P.read.pairs) in
          let spends = late-spends f escaped 0 (lines_of P.read.pairs) P.cursor.tail P.room in
          omega (arith, spends, log, P.fits, P.left)
      by false =
          let size = residual-length f P.cursor.tail P.room (filled_to P.ne (lines_of P.read.pairs)) in
          omega (arith, size, log, P.fits, P.left)

  pub used-and-spare : used fr + spare (8 * length f) fr ≡ 8 * length f
  used-and-spare = omega (arith, used-most)

  -- its length, filters, last cursors and range are within their limits
  pub frame-bounded : Bounded f fr
  frame-bounded = subst (Bounded f) P.same (by (eqb P.read.side.lsb 1))
    where
      by : (lsb : Bool) → Bounded f (by_mode k.reading P.ne f P.read P.cursor P.room lsb)
      by true = record { short = P.short; filters = P.filters; three = P.place.three; head = P.place.head; least = P.least; most = P.most }
      by false = record { short = P.short; filters = P.filters; three = P.place.three; head = P.place.head; least = P.least; most = P.most }

  pub tail-most : fr.cursor.tail ≤ 8 * length f
  tail-most = omega (arith, used-most, log-range fr.range frame-bounded.least (omega (arith, frame-bounded.most)))

  -- 3: in least-bit mode there is no residual list; outside it the list has as many bits as the smaller of the room and the nonzero
  -- lines, the room being what is spare behind the list and the list itself
  pub residual-listed : Listed (8 * length f) fr
  residual-listed = subst (Listed (8 * length f)) P.same (by (eqb P.read.side.lsb 1) refl)
    where
      by : (lsb : Bool) → eqb P.read.side.lsb 1 ≡ lsb → Listed (8 * length f) (by_mode k.reading P.ne f P.read P.cursor P.room lsb)
      by true is = record { none = λ h. refl; list = λ h. absurd (true≢false (sym is ∙ h)) }
      by false is =
          let lines = filled_to P.ne (lines_of P.read.pairs) in
          let bits = residual_list f P.cursor.tail P.room lines in
          let size : length bits ≡ min P.room (nonzero lines) = residual-length f P.cursor.tail P.room lines in
          let whole : P.room ≡ spare (8 * length f) (with_residual P.ne f P.read P.cursor P.room) + length bits = omega (arith, size, log, P.fits, P.left) in
          record { none = λ h. absurd (true≢false (sym h ∙ is)); list = λ h. size ∙ ap (λ n. min n (nonzero lines)) whole }

  -- 4: even lines are at most 32,767 and odd ones at most 81,919, in both modes; odd ones at most 32,767 behind fewer than fourteen
  -- escapes
  pub lines-within : Magnitudes fr
  lines-within = subst Magnitudes P.same (by (eqb P.read.side.lsb 1) refl)
    where
      by : (lsb : Bool) → eqb P.read.side.lsb 1 ≡ lsb → Magnitudes (by_mode k.reading P.ne f P.read P.cursor P.room lsb)
      by true is =
          let xs = P.read.pairs in
          let all = bounds xs P.sized (P.even is) in
          let late = late_from f (escaped_by k.reading (levels_of xs)) 0 (lines_of xs) P.cursor.tail P.room in
          let each = late-each f (escaped_by k.reading (levels_of xs)) 0 (lines_of xs) P.cursor.tail P.room in
          record {
            evens = λ i. omega (arith, filled-size late.lines (P.ne - length late.lines) (2 * i), each (2 * i), even-late xs all i);
            odds = λ i. omega (arith, filled-size late.lines (P.ne - length late.lines) (2 * i + 1), each (2 * i + 1), odd-late xs all i);
            few = λ i h. omega (arith, filled-size late.lines (P.ne - length late.lines) (2 * i + 1), each (2 * i + 1), odd-few-late xs all i h);
          }
      by false is =
          let xs = P.read.pairs in
          record {
            evens = λ i. omega (arith, filled-size (lines_of xs) (P.ne - length (lines_of xs)) (2 * i), even-most xs P.sized i);
            odds = λ i. omega (arith, filled-size (lines_of xs) (P.ne - length (lines_of xs)) (2 * i + 1), odd-most xs P.sized i);
            few = λ i h. omega (arith, filled-size (lines_of xs) (P.ne - length (lines_of xs)) (2 * i + 1), odd-few xs P.sized i h);
          }

  -- 4, in the standard reading: no pair has fourteen escapes, so every line is -32,767 to 32,767
  pub few-escapes : k.reading ≡ 1 → FewEscapes fr
  few-escapes is = subst FewEscapes P.same (by (eqb P.read.side.lsb 1))
    where
      each : FewEscapes (with_residual P.ne f P.read P.cursor P.room)
      each p = level-few P.read.pairs (subst (λ (r : ℕ). All (Sized (eqb r 1)) P.read.pairs) is P.sized) p

      by : (lsb : Bool) → FewEscapes (by_mode k.reading P.ne f P.read P.cursor P.room lsb)
      by true = each
      by false = each

  pub standard-within : k.reading ≡ 1 → WithinSixteen fr
  standard-within is = within-sixteen fr lines-within (few-escapes is)
