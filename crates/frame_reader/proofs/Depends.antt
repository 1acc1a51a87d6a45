-- The symbols and escapes of a frame depend on the side information and the head's bytes alone: each stage answers alike in two frames
-- that agree on those, or a tail bit is not there, and the residual bits leave all of it as it was. Assumes nothing.
use Prim.Native.Nat.{ℕ, ◌*◌, ◌/◌, ◌≤◌}
use mathlib.Core.Path.{◌≡◌, refl, sym, ap, subst, ◌∙◌}
use mathlib.Core.Bool.{Bool, true, false, cond, not}
use mathlib.Core.List.{List}
use native.Mathlib.Omega.{arith}
use borrow.Author.Tests.{not-false}
use lib.Dec.{ltb, eqb}
use lib.ListN.{length}
use Rattle.common.specs.Reply.{Answer, accepted, refused, given, and_then, tables_fail, wrong_count, residual_negative}
use Rattle.common.specs.Configuration.{frame_lines}
use Rattle.common.specs.Tables.{Tables, tables_pass}
use Rattle.common.specs.declared.configuration.Configuration.{Configuration}
use Rattle.common.proofs.Replies.{accepted-same, then-split, given-split}
use Rattle.common.proofs.Configurations.{frame-ranges}
use Rattle.buffer_reader.specs.Tail.{Agree}
use Rattle.buffer_reader.specs.Steps.{Reading, found, next}
use Rattle.buffer_reader.specs.declared.Cursor.{Cursor}
use Rattle.buffer_reader.proofs.Roomy.{Ahead, Ends, ends-given, ends_so, ends-then}
use Rattle.side_info.specs.Reader.{read_all, read_side}
use Rattle.side_info.specs.declared.SideInfo.{SideInfo}
use Rattle.side_info.proofs.Answers.{read-on}
use Rattle.side_info.proofs.Start.{Own, side-roomy}
use Rattle.side_info.proofs.Depends.{side-depends}
use Rattle.range_decoder.specs.declared.DecoderState.{DecoderState}
use Rattle.contexts.specs.Contexts.{rate_flag}
use Rattle.coding.specs.Coding.{Coded}
use Rattle.tns_data.specs.Tns.{Tns, read_tns, weighting_row}
use Rattle.spectral_data.specs.Spectral.{Pair, read_pairs}
use Rattle.spectral_data.proofs.Heads.{AgreeHead, Alike}
use Rattle.spectral_data.proofs.Symbols.{forward-pairs}
use Rattle.residual_data.specs.Residual.{used_bits, available}
use Rattle.frame_reader.specs.Frame.{Data, Frame, start_in, read_data, with_residual, with_late, finished, read_frame}
use Rattle.frame_reader.specs.Depends.{SameHead, symbols_of, SameSymbols, ByTail, negative, SameOrByTail}
use Rattle.frame_reader.specs.Private.{read_coded, read_on}
use Rattle.frame_reader.proofs.Whole.{read-on as frame_on}
use Rattle.frame_reader.proofs.Heads.{at, only-tns, only-start}
use Rattle.frame_reader.proofs.Follows.{Symbols, follows-pairs}

-- ---- the data

-- what two readings of the data share
record SameData (x y : Data × Cursor) : Type 0 where
  tns : x.0.tns ≡ y.0.tns
  symbols : symbols_of x.0.pairs ≡ symbols_of y.0.pairs
  head : x.1.head ≡ y.1.head
  range : x.0.range ≡ y.0.range

module _ (k : Configuration) (t : Tables) (bits ne : ℕ) (s : SideInfo) where
  abbrev behind_side : Reading Data
  behind_side = next start_in (λ state. read_coded k t bits ne s state)

  abbrev tns_by : DecoderState → Reading (Coded Tns)
  tns_by state = read_tns t.orders t.coefficients (weighting_row k.duration bits) s.tns_first s.tns_second state

  abbrev pairs_by : DecoderState → Reading (Coded (List Pair))
  pairs_by state = read_pairs t.lookup t.frequencies (eqb k.reading 1) (eqb s.lsb 1) (rate_flag bits k.fs_ind) ne 0 (s.lastnz / 2) 0 state

  abbrev data_by : Tns → Coded (List Pair) → Data
  data_by tns pairs = record { side = s; tns = tns; pairs = pairs.value; range = pairs.state.range }

  record Stages (f : List ℕ) (c : Cursor) (x : Data × Cursor) : Type 0 where
    first : DecoderState × Cursor
    begun : start_in f c ≡ accepted first
    second : Coded Tns × Cursor
    filtered : tns_by first.0 f first.1 ≡ accepted second
    third : Coded (List Pair) × Cursor
    paired : pairs_by second.0.state f second.1 ≡ accepted third
    same : (data_by second.0.value third.0, third.1) ≡ x

  stages : (f : List ℕ) (c : Cursor) (x : Data × Cursor) → behind_side f c ≡ accepted x → Stages f c x
  stages f c x e =
      let p = then-split (start_in f c) (λ r. read_coded k t bits ne s r.0 f r.1) e in
      let q = then-split (tns_by p.0.0 f p.0.1) (λ r. next (pairs_by r.0.state) (λ pairs. found (data_by r.0.value pairs)) f r.1) p.2 in
      let r = then-split (pairs_by q.0.0.state f q.0.1) (λ y. found (data_by q.0.0.value y.0) f y.1) q.2 in
      record { first = p.0; begun = p.1; second = q.0; filtered = q.1; third = r.0; paired = r.1; same = accepted-same r.2 }

  side-stays : (f : List ℕ) (c : Cursor) (x : Data × Cursor) → behind_side f c ≡ accepted x → s ≡ x.0.side
  side-stays f c x e = ap (λ (d : Data × Cursor). d.0.side) (stages f c x e).same

  behind-follows : (f g : List ℕ) (c d : Cursor) (x : Data × Cursor) → length f ≤ 65535 → length f ≡ length g → c.head ≡ d.head →
      behind_side f c ≡ accepted x → AgreeHead f g c.head x.1.head → Ends ByTail (SameData x) (behind_side g d)
  behind-follows f g c d x short size h e agree =
      let p : Stages f c x = stages f c x e in
      let tns = only-tns t.orders t.coefficients (weighting_row k.duration bits) s.tns_first s.tns_second p.first.0 in
      let a : c.head ≤ p.first.1.head = only-start.forward f c p.first p.begun in
      let b : p.first.1.head ≤ p.second.1.head = tns.forward f p.first.1 p.second p.filtered in
      let u : p.second.1.head ≤ p.third.1.head = (forward-pairs t.lookup t.frequencies (eqb k.reading 1) (eqb s.lsb 1) (rate_flag bits k.fs_ind) ne 0 (s.lastnz / 2) 0).on p.second.0.state f p.second.1 p.third p.paired in
      let v : p.third.1.head ≡ x.1.head = ap (λ (r : Data × Cursor). r.1.head) p.same in
      rw (
        only-start.own f g c d p.first size h p.begun (λ j m n. agree j m (omega arith)),
        tns.own f g p.first.1 (at p.first.1 d) p.second size refl p.filtered (λ j m n. agree j (omega arith) (omega arith)),
      )
      (ends-then ByTail (SameData x) (Alike Symbols p.third) (pairs_by p.second.0.state g (at p.second.1 d)) _
      ((follows-pairs t.lookup t.frequencies (eqb k.reading 1) (eqb s.lsb 1) (rate_flag bits k.fs_ind) ne 0 (s.lastnz / 2) 0).follow p.second.0.state f g p.second.1 (at p.second.1 d) p.third short size refl p.paired (λ j m n. agree j (omega arith) (omega arith)))
      (λ y w l. subst (λ (r : Data × Cursor). SameData r (data_by p.second.0.value y.0, y.1)) p.same
      (record { tns = refl; symbols = l.value; head = l.head; range = ap (λ (r : DecoderState). r.range) l.state })))

-- ---- the frame

-- what the residual bits leave as it was
record Kept (d : Data) (c : Cursor) (x : Frame) : Type 0 where
  side : x.side ≡ d.side
  tns : x.tns ≡ d.tns
  pairs : x.pairs ≡ d.pairs
  head : x.cursor.head ≡ c.head
  range : x.range ≡ d.range

finished-keeps : (reading ne : ℕ) (f : List ℕ) (d : Data) (c : Cursor) → Ends ByTail (Kept d c) (finished reading ne f d c)
finished-keeps reading ne f d c =
    ends-then ByTail (Kept d c) (λ room. Unit {0}) (available (8 * length f) c d.range) _
    (ends-given ByTail (λ room. Unit {0}) (ltb (8 * length f) (used_bits c d.range)) residual_negative _ negative (λ e. tt))
    (λ room e u. by room (eqb d.side.lsb 1))
  where
    by : (room : ℕ) (lsb : Bool) → Kept d c (cond lsb (with_late reading ne f d c room) (with_residual ne f d c room))
    by room true = record { side = refl; tns = refl; pairs = refl; head = refl; range = refl }
    by room false = record { side = refl; tns = refl; pairs = refl; head = refl; range = refl }

abbrev origin : Cursor
origin = record { head = 0; tail = 0 }

-- the side information leaves the head
side-head : (k : Configuration) (ne : ℕ) (f : List ℕ) → frame_lines k (length f) ≡ accepted ne → (x : SideInfo × Cursor) → read_all k.fs_ind ne f origin ≡ accepted x → x.1.head ≡ 0
side-head k ne f lines x e =
    let (low, least, most, size, short) = frame-ranges k (length f) lines in
    (subst (Ends Own (λ r. Ahead origin 74 r.1)) e ((side-roomy k.fs_ind ne low least most).ends f origin (omega arith) (omega arith))).same

-- an accepted frame behind the checks: its side information, and the data
record Read (k : Configuration) (t : Tables) (count : ℕ) (f : List ℕ) (x : Frame) : Type 0 where
  ne : ℕ
  lines : frame_lines k (length f) ≡ accepted ne
  tables : tables_pass t ≡ true
  counted : ltb count ne ≡ false
  behind : Cursor
  sided : read_all k.fs_ind ne f origin ≡ accepted (x.side, behind)
  read : Data × Cursor
  coded : behind_side k t (8 * length f) ne x.side f behind ≡ accepted read
  kept : Kept read.0 read.1 x

module _ (k : Configuration) (t : Tables) (count : ℕ) (f : List ℕ) (x : Frame) where
  frame-read : read_frame k t count f ≡ accepted x → Read k t count f x
  frame-read e =
      let p = then-split (frame_lines k (length f)) (λ n. given (not (tables_pass t)) tables_fail (given (ltb count n) (wrong_count count) (read_on k t n f))) e in
      let n = p.0 in
      let q = given-split (not (tables_pass t)) tables_fail (given (ltb count n) (wrong_count count) (read_on k t n f)) p.2 in
      let r = given-split (ltb count n) (wrong_count count) (read_on k t n f) q.1 in
      let s = then-split (read_data k t (8 * length f) n f origin) (λ y. finished k.reading n f y.0 y.1) r.1 in
      let u = then-split (read_all k.fs_ind n f origin) (λ y. behind_side k t (8 * length f) n y.0 f y.1) s.1 in
      let kept : Kept s.0.0 s.0.1 x = subst (Ends ByTail (Kept s.0.0 s.0.1)) s.2 (finished-keeps k.reading n f s.0.0 s.0.1) in
      let side : u.0.0 ≡ x.side = side-stays k t (8 * length f) n u.0.0 f u.0.1 s.0 u.2 ∙ sym kept.side in
      record {
        ne = n;
        lines = p.1;
        tables = not-false (tables_pass t) q.0;
        counted = r.0;
        behind = u.0.1;
        sided = subst (λ (w : SideInfo). read_all k.fs_ind n f origin ≡ accepted (w, u.0.1)) side u.1;
        read = s.0;
        coded = subst (λ (w : SideInfo). behind_side k t (8 * length f) n w f u.0.1 ≡ accepted s.0) side u.2;
        kept = kept;
      }

module _ (k : Configuration) (t : Tables) (count : ℕ) (f g : List ℕ) (x : Frame) (size : length f ≡ length g) (e : read_frame k t count f ≡ accepted x) (same : SameHead f g x.cursor.head) where
  abbrev P : Read k t count f x
  P = frame-read k t count f x e

  lines-there : frame_lines k (length g) ≡ accepted P.ne
  lines-there = ap (frame_lines k) (sym size) ∙ P.lines

  data-follows : (d : Cursor) → read_all k.fs_ind P.ne g origin ≡ accepted (x.side, d) → Ends ByTail (SameData P.read) (read_data k t (8 * length g) P.ne g origin)
  data-follows d u =
      let low = frame-ranges k (length f) P.lines in
      let a = side-head k P.ne f P.lines (x.side, P.behind) P.sided in
      let b = side-head k P.ne g lines-there (x.side, d) u in
      subst (λ n. Ends ByTail (SameData P.read) (read_data k t (8 * n) P.ne g origin)) size
      (subst (λ (r : Answer (SideInfo × Cursor)). Ends ByTail (SameData P.read) (and_then r (λ y. behind_side k t (8 * length f) P.ne y.0 g y.1))) (sym u)
      (behind-follows k t (8 * length f) P.ne x.side f g P.behind d P.read (omega (arith, low.4)) size (a ∙ sym b) P.coded
      (λ j m n. same j (omega (arith, P.kept.head)))))

  frame-follows : (d : Cursor) → read_all k.fs_ind P.ne g origin ≡ accepted (x.side, d) → Ends ByTail (SameSymbols x) (read_on k t P.ne g)
  frame-follows d u =
      ends-then ByTail (SameSymbols x) (SameData P.read) (read_data k t (8 * length g) P.ne g origin) _ (data-follows d u)
      (λ y w l. ends_so ByTail (SameSymbols x) (Kept y.0 y.1) (finished k.reading P.ne g y.0 y.1) (finished-keeps k.reading P.ne g y.0 y.1)
      (λ z q. record {
        tns = P.kept.tns ∙ l.tns ∙ sym q.tns;
        symbols = ap symbols_of P.kept.pairs ∙ l.symbols ∙ ap symbols_of (sym q.pairs);
        head = P.kept.head ∙ l.head ∙ sym q.head;
        range = P.kept.range ∙ l.range ∙ sym q.range;
      }))

  -- 6: the frame's symbols and escapes depend on the side information and the head's bytes alone, as long as no tail bit is refused:
  -- a frame with the same has the same symbols and escapes, or is refused by 9 in a step `bit` or by 12, and by nothing else
  pub symbols-follow : (d : Cursor) → read_side k g origin ≡ accepted (x.side, d) → SameOrByTail x (read_frame k t count g)
  symbols-follow d u =
      subst (SameOrByTail x) (sym (frame_on k t count g P.ne lines-there P.tables P.counted))
      (by (read_on k t P.ne g) (frame-follows d (sym (read-on k g origin lines-there) ∙ u)))
    where
      by : (a : Answer Frame) → Ends ByTail (SameSymbols x) a → SameOrByTail x a
      by (accepted y) h = h
      by (refused r) h = h

  -- so too where the bits of the side information are the same
  pub symbols-follow-bits : (s : SideInfo) (d : Cursor) → read_side k f origin ≡ accepted (s, d) → Agree f g 0 d.tail → SameOrByTail x (read_frame k t count g)
  symbols-follow-bits s d u agree =
      let side : s ≡ x.side = ap (λ (r : SideInfo × Cursor). r.0) (accepted-same (sym u ∙ read-on k f origin P.lines ∙ P.sided)) in
      symbols-follow d (subst (λ (w : SideInfo). read_side k g origin ≡ accepted (w, d)) side (side-depends k f g origin s d size u agree))

  -- and of two frames that are both accepted
  pub symbols-same : (y : Frame) → read_frame k t count g ≡ accepted y → x.side ≡ y.side → SameSymbols x y
  symbols-same y u side =
      let q : Read k t count g y = frame-read k t count g y u in
      subst (SameOrByTail x) u
      (symbols-follow q.behind (subst (λ (w : SideInfo). read_side k g origin ≡ accepted (w, q.behind)) (sym side) (read-on k g origin q.lines ∙ q.sided)))
