-- The whole frame from its parts: behind the checks what was read stands as the residual stage asks, and what the code hands back is
-- what the definition says; and the checks 1 to 4, each by its test. Assumes nothing.
use Prim.Native.Nat.{ℕ, zero, suc, ◌-◌, ◌*◌, ◌/◌, ◌≤◌}
use mathlib.Core.Path.{◌≡◌, sym, ap, subst, ◌∙◌}
use mathlib.Core.Bool.{Bool, true, false, not}
use mathlib.Core.List.{List, [], ◌∷◌, ◌++◌}
use native.Mathlib.Omega.{arith}
use lib.Dec.{ltb}
use lib.ListN.{length, get_or, replicate, length-append, length-replicate}
use lib.IntN.{ℤ, pos, nat_abs}
use Rattle.common.specs.Reply.{Reply, Answer, accepted, refused, and_then, answer_by, given, tables_fail, wrong_count}
use Rattle.common.specs.Configuration.{frame_lines}
use Rattle.common.specs.Tables.{Tables, tables_pass, coded_pass, coded_in}
use Rattle.common.specs.TableSets.{coded_of}
use Rattle.common.specs.declared.table_set.CodedTables.{CodedTables}
use Rattle.common.specs.declared.configuration.Configuration.{Configuration}
use Rattle.common.proofs.Replies.{accepted-same, then-split}
use Rattle.buffer_reader.specs.declared.Cursor.{Cursor}
use Rattle.spectral_data.specs.Spectral.{Pair, lines_of, levels_of}
use Rattle.spectral_data.proofs.Bounds.{Sized, All, none, more}
use Rattle.spectral_data.proofs.Lines.{lines-length, levels-length}
use Rattle.residual_data.specs.Private.{AtMost}
use Rattle.frame_reader.specs.Frame.{Data, Frame, read_data, finished, read_frame}
use Rattle.frame_reader.specs.Returned.{reply_of, told, indices_of, residual_of, lines_behind}
use Rattle.frame_reader.specs.Private.{Standing, Held, held_of, held, read_on, Shown, shown, shown_of, shown_refused, shown_finished}
use Rattle.frame_reader.specs.declared.FrameRead.{FrameRead}
use Rattle.frame_reader.proofs.Shown.{append-most, drop-replicate, finished-shown}
use Rattle.frame_reader.proofs.Data.{Behind, ranges, data-behind}
use Rattle.frame_reader.proofs.Coded.{then-refused}

-- ---- magnitudes

zeros-most : (m n k : ℕ) → nat_abs (get_or (replicate n (pos 0)) k (pos 0)) ≤ m
zeros-most m zero k = omega arith
zeros-most m (suc n) zero = omega arith
zeros-most m (suc n) (suc k) = zeros-most m n k

filled-most : (m n : ℕ) (xs : List ℤ) → AtMost m xs → AtMost m (xs ++ replicate n (pos 0))
filled-most m n xs h = append-most m xs (replicate n (pos 0)) h (zeros-most m n)

pub lines-most : {standard : Bool} (xs : List Pair) → All (Sized standard) xs → AtMost 81919 (lines_of xs)
unfolding lines_of
lines-most [] none k = omega arith
lines-most (x ∷ xs) (more s rest) zero = omega (arith, s.first)
lines-most (x ∷ xs) (more s rest) (suc zero) = s.second
lines-most (x ∷ xs) (more s rest) (suc (suc k)) = lines-most xs rest k

-- ---- behind the checks

module _ (k : Configuration) (ne : ℕ) (f : List ℕ) (t : Tables) (passes : coded_pass t ≡ true) (judged : frame_lines k (length f) ≡ accepted ne) where
  abbrev origin : Cursor
  origin = record { head = 0; tail = 0 }

  abbrev reads : Answer (Data × Cursor)
  reads = read_data k t (8 * length f) ne f origin

  abbrev zeros : List ℤ
  zeros = replicate 400 (pos 0)

  abbrev flat : List ℕ
  flat = replicate 200 0

  pub on-refused : (before : List ℤ) {r : Reply} → held zeros flat reads ≡ refused r → shown_refused r before ≡ shown k.reading (read_on k t ne f) before
  on-refused before e =
      sym (ap (λ (a : Answer (Data × Cursor)). shown k.reading (and_then a (λ x. finished k.reading ne f x.0 x.1)) before) (then-refused reads (λ x. (held_of zeros flat x.0, x.1)) e))

  module _ (h : Held × Cursor) (e : held zeros flat reads ≡ accepted h) where
    read-so : (x : Data × Cursor) × (reads ≡ accepted x) × (accepted (held_of zeros flat x.0, x.1) ≡ accepted h)
    read-so = then-split reads (λ x. accepted (held_of zeros flat x.0, x.1)) e

    abbrev d : Data
    d = read-so.0.0

    abbrev c : Cursor
    c = read-so.0.1

    same : (held_of zeros flat d, c) ≡ h
    same = accepted-same read-so.2

    behind : Behind k.reading k.fs_ind ne f (d, c)
    behind = data-behind k ne f t passes judged read-so.1

    abbrev n : ℕ
    n = d.side.lastnz / 2

    low : 2 * n ≤ ne
    low = omega (arith, behind.limits.last)

    few : ne ≤ 400
    few = (ranges k ne f judged).2

    two : 2 ≤ ne
    two = omega (arith, (ranges k ne f judged).1)

    pub on-standing : Standing ne f h.1 h.0.known.range h.0.known.side.lastnz
    on-standing =
        subst (λ (w : Held × Cursor). Standing ne f w.1 w.0.known.range w.0.known.side.lastnz) same
        (record {
          three = behind.place.three;
          head = behind.place.head;
          tail = behind.place.tail;
          least = behind.least;
          most = behind.most;
          even = omega (arith, behind.limits.even);
          last = behind.limits.last;
          two = two;
          few = few;
          short = (ranges k ne f judged).4;
        })

    pub on-most : AtMost 81919 h.0.lines
    on-most =
        subst (λ (w : Held × Cursor). AtMost 81919 w.0.lines) same
        (subst (λ (ys : List ℤ). AtMost 81919 (lines_of d.pairs ++ ys)) (sym (drop-replicate (pos 0) (2 * n) 400 (omega (arith, low, few))))
        (filled-most 81919 (400 - 2 * n) (lines_of d.pairs) (lines-most d.pairs behind.sized)))

    pub on-length : length h.0.lines ≡ 400
    on-length =
        subst (λ (w : Held × Cursor). length w.0.lines ≡ 400) same
        (rw (drop-replicate (pos 0) (2 * n) 400 (omega (arith, low, few)), length-append (lines_of d.pairs) (replicate (400 - 2 * n) (pos 0)), length-replicate (400 - 2 * n) (pos 0), lines-length d.pairs, behind.count) (omega (arith, low, few)))

    pub on-levels : length h.0.levels ≡ 200
    on-levels =
        subst (λ (w : Held × Cursor). length w.0.levels ≡ 200) same
        (rw (drop-replicate {A = ℕ} 0 n 200 (omega (arith, low, few)), length-append (levels_of d.pairs) (replicate (200 - n) 0), length-replicate {A = ℕ} (200 - n) 0, levels-length d.pairs, behind.count) (omega (arith, low, few)))

    pub on-accepted : (before : List ℤ) → shown_finished k.reading ne f h.0 h.1 before ≡ shown k.reading (read_on k t ne f) before
    on-accepted before =
        ap (λ (w : Held × Cursor). shown_finished k.reading ne f w.0 w.1 before) (sym same)
        ∙ finished-shown k.reading ne f d c before behind.count low two few
        ∙ sym (ap (λ (a : Answer (Data × Cursor)). shown k.reading (and_then a (λ x. finished k.reading ne f x.0 x.1)) before) read-so.1)

-- ---- the checks

module _ (k : Configuration) (t : Tables) (count : ℕ) (f : List ℕ) where
  abbrev from : ℕ → Answer Frame
  from n = given (not (tables_pass t)) tables_fail (given (ltb count n) (wrong_count count) (read_on k t n f))

  pub lines-refused : {r : Reply} → frame_lines k (length f) ≡ refused r → read_frame k t count f ≡ refused r
  lines-refused e = ap (λ (a : Answer ℕ). and_then a from) e

  module _ (ne : ℕ) (e : frame_lines k (length f) ≡ accepted ne) where
    behind-lines : read_frame k t count f ≡ from ne
    behind-lines = ap (λ (a : Answer ℕ). and_then a from) e

    pub tables-refused : tables_pass t ≡ false → read_frame k t count f ≡ refused tables_fail
    tables-refused g = behind-lines ∙ ap (λ b. given (not b) tables_fail (given (ltb count ne) (wrong_count count) (read_on k t ne f))) g

    module _ (g : tables_pass t ≡ true) where
      behind-tables : read_frame k t count f ≡ given (ltb count ne) (wrong_count count) (read_on k t ne f)
      behind-tables = behind-lines ∙ ap (λ b. given (not b) tables_fail (given (ltb count ne) (wrong_count count) (read_on k t ne f))) g

      pub count-refused : ltb count ne ≡ true → read_frame k t count f ≡ refused (wrong_count count)
      count-refused h = behind-tables ∙ ap (λ b. given b (wrong_count count) (read_on k t ne f)) h

      pub read-coded : (p : CodedTables) → coded_of p ≡ coded_in t → ltb count ne ≡ false → read_on k (coded_of p) ne f ≡ read_frame k t count f
      read-coded p same h = ap (λ (s : Tables). read_on k s ne f) same ∙ sym (behind-tables ∙ ap (λ b. given b (wrong_count count) (read_on k t ne f)) h)

      pub read-on : ltb count ne ≡ false → read_frame k t count f ≡ read_on k t ne f
      read-on h = behind-tables ∙ ap (λ b. given b (wrong_count count) (read_on k t ne f)) h

-- the four parts of what is handed back
pub shown-parts : (reading : ℕ) (r : FrameRead) (exit before : List ℤ) (a : Answer Frame) → shown_of r exit ≡ shown reading a before →
    (answer_by reply_of r.outcome ≡ told reading a) × (r.indices ≡ indices_of a) × (r.residual ≡ residual_of a) × (exit ≡ lines_behind a before)
shown-parts reading r exit before a e =
    (ap (λ (s : Shown). s.outcome) e, ap (λ (s : Shown). s.indices) e, ap (λ (s : Shown). s.residual) e, ap (λ (s : Shown). s.lines) e)
