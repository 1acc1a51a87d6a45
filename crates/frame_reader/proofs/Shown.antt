-- What the code hands back by its arrays is what the definition says of the frame: the arrays hold the pairs' lines and levels in
-- front and zeros behind them, so their first `ne` lines are the frame's. Assumes nothing.
use Prim.Native.Nat.{ℕ, zero, suc, ◌+◌, ◌-◌, ◌*◌, ◌/◌, ◌≤◌, min}
use mathlib.Core.Path.{◌≡◌, refl, sym, ap, subst, ◌∙◌}
use mathlib.Core.Bool.{Bool, true, false, cond}
use mathlib.Core.List.{List, [], ◌∷◌, ◌++◌}
use native.Mathlib.Omega.{arith}
use borrow.Author.Tests.{ltb-false}
use lib.Dec.{ltb, eqb}
use lib.ListN.{length, take, drop, replicate, length-append, length-take, length-replicate, length-drop, replicate-append-replicate}
use lib.Seq.{take_at, drop_at, take-append-add, length-take-le, get_or-take, get_or-drop}
use lib.IntN.{ℤ, pos, nat_abs}
use Rattle.common.specs.Reply.{Answer, accepted, refused, and_then, residual_negative}
use Rattle.common.proofs.Replies.{accepted-same, given-split}
use Rattle.buffer_reader.specs.declared.Cursor.{Cursor}
use Rattle.side_info.specs.declared.SideInfo.{SideInfo}
use Rattle.tns_data.specs.Tns.{Tns, sixteen_of}
use Rattle.spectral_data.specs.Spectral.{Pair, lines_of, levels_of}
use Rattle.spectral_data.proofs.Lines.{lines-length, levels-length}
use Rattle.residual_data.specs.Residual.{AllLate, used_bits, available, nonzero, residual_list, escaped_by, late_from}
use Rattle.residual_data.proofs.Residuals.{nonzero-most, residual-length}
use Rattle.residual_data.specs.Private.{AtMost}
use Rattle.residual_data.proofs.Rooms.{room_within}
use Rattle.residual_data.proofs.Lates.{late-length, late-most}
use Rattle.frame_reader.specs.Frame.{Data, Frame, filled_to, with_residual, with_late, finished}
use Rattle.frame_reader.specs.Private.{Held, held_of, shown, shown_at, shown_late, shown_residual, shown_by, shown_finished, late_of}
use Rattle.frame_reader.specs.declared.inner.Known.{Known}

-- ---- zeros

module _ {A : Type 0} (a : A) (n m : ℕ) (h : n ≤ m) where
  both : replicate n a ++ replicate (m - n) a ≡ replicate m a
  both = let e : n + (m - n) ≡ m = omega arith in rw (replicate-append-replicate, e) refl

  pub take-replicate : take n (replicate m a) ≡ replicate n a
  take-replicate = ap (take n) (sym both) ∙ take_at (replicate n a) (replicate (m - n) a) n (length-replicate n a)

  pub drop-replicate : drop n (replicate m a) ≡ replicate (m - n) a
  drop-replicate = ap (drop n) (sym both) ∙ drop_at (replicate n a) (replicate (m - n) a) n (length-replicate n a)

-- lines in front of an array of zeros, up to `ne`
pub filled-take : (ne n : ℕ) (l : List ℤ) → length l ≡ n → n ≤ ne → ne ≤ 400 → take ne (l ++ drop n (replicate 400 (pos 0))) ≡ filled_to ne l
filled-take ne n l size low few =
    let whole : ne ≡ length l + (ne - length l) = omega arith in
    ap (λ (ys : List ℤ). take ne (l ++ ys)) (drop-replicate (pos 0) n 400 (omega arith))
    ∙ ap (λ m. take m (l ++ replicate (400 - n) (pos 0))) whole
    ∙ take-append-add l (replicate (400 - n) (pos 0)) (ne - length l)
    ∙ ap (λ (ys : List ℤ). l ++ ys) (take-replicate (pos 0) (ne - length l) (400 - n) (omega arith))

-- ---- an accepted frame

module _ (reading ne : ℕ) (side : SideInfo) (tns : Tns) (range : ℕ) (before : List ℤ) (two : 2 ≤ ne) where
  abbrev known : Known
  known = record { side = side; first_order = tns.first.order; second_order = tns.second.order; range = range }

  abbrev frame_by : List Pair → List ℤ → List ℕ → Cursor → Frame
  frame_by pairs lines residual c =
      record { side = side; tns = tns; pairs = pairs; lines = lines; residual = residual; cursor = c; range = range }

  at-shown : (pairs : List Pair) (array : List ℤ) (residual bits : List ℕ) (c : Cursor) → ne ≤ length array → bits ≡ residual ++ replicate (400 - length residual) 0 →
      shown_at reading ne known c (length residual) (sixteen_of tns) bits array before ≡ shown reading (accepted (frame_by pairs (take ne array) residual c)) before
  at-shown pairs array residual bits c long e =
      let size : length (take ne array) ≡ ne = length-take-le ne array long in
      rw (e, size, get_or-take ne array 0 (pos 0) (omega arith), get_or-take ne array 1 (pos 0) (omega arith)) refl

module _ (reading ne : ℕ) (f : List ℕ) (d : Data) (c : Cursor) (before : List ℤ) (count : length d.pairs ≡ d.side.lastnz / 2) (low : 2 * (d.side.lastnz / 2) ≤ ne) (two : 2 ≤ ne) (few : ne ≤ 400) where
  abbrev n : ℕ
  n = d.side.lastnz / 2

  abbrev zeros : List ℤ
  zeros = replicate 400 (pos 0)

  abbrev h : Held
  h = held_of zeros (replicate 200 0) d

  lines-size : length (lines_of d.pairs) ≡ 2 * n
  lines-size = lines-length d.pairs ∙ ap (λ m. 2 * m) count

  lines_are : take ne h.lines ≡ filled_to ne (lines_of d.pairs)
  lines_are = filled-take ne (2 * n) (lines_of d.pairs) lines-size low few

  behind-long : (l : List ℤ) → length l ≡ 2 * n → ne ≤ length (l ++ drop (2 * n) zeros)
  behind-long l e =
      rw (drop-replicate (pos 0) (2 * n) 400 (omega arith), length-append l (replicate (400 - 2 * n) (pos 0)), length-replicate (400 - 2 * n) (pos 0), e) (omega arith)

  -- the residual list is no longer than 400
  list-low : (room : ℕ) (lines : List ℤ) → length lines ≤ 400 → length (residual_list f c.tail room lines) ≤ 400
  list-low room lines few-lines = omega (arith, residual-length f c.tail room lines, nonzero-most lines)

  residual-shown : (room : ℕ) → shown_residual reading ne f h c room before ≡ shown reading (accepted (with_residual ne f d c room)) before
  residual-shown room =
      let bits : List ℕ = residual_list f c.tail room (take ne h.lines) in
      let short : length (take ne h.lines) ≤ 400 = omega (arith, length-take ne h.lines) in
      at-shown reading ne d.side d.tns d.range before two d.pairs h.lines bits (bits ++ drop (length bits) (replicate 400 0)) (record { head = c.head; tail = c.tail + length bits })
      (behind-long (lines_of d.pairs) lines-size)
      (ap (λ (ys : List ℕ). bits ++ ys) (drop-replicate 0 (length bits) 400 (list-low room (take ne h.lines) short)))
      ∙ ap (λ (ls : List ℤ). let list = residual_list f c.tail room ls in shown reading (accepted (frame_by reading ne d.side d.tns d.range before two d.pairs ls list (record { head = c.head; tail = c.tail + length list }))) before) lines_are

  abbrev late : ℕ → AllLate
  late room = late_from f (escaped_by reading (levels_of d.pairs)) 0 (lines_of d.pairs) c.tail room

  late-same : (room : ℕ) → late_of reading f h c.tail room ≡ late room
  late-same room =
      rw (take_at (levels_of d.pairs) (drop n (replicate 200 0)) n (levels-length d.pairs ∙ count), take_at (lines_of d.pairs) (drop (2 * n) zeros) (2 * n) lines-size) refl

  late-shown : (room : ℕ) → shown_late reading ne f h c room before ≡ shown reading (accepted (with_late reading ne f d c room)) before
  late-shown room =
      let size : length (late room).lines ≡ 2 * n = late-length f (escaped_by reading (levels_of d.pairs)) 0 (lines_of d.pairs) c.tail room ∙ lines-size in
      let at : Cursor = record { head = c.head; tail = (late room).tail } in
      ap (λ (l : AllLate). shown_at reading ne h.known (record { head = c.head; tail = l.tail }) 0 h.indices (replicate 400 0) (l.lines ++ drop (2 * n) h.lines) before) (late-same room)
      ∙ ap (λ (ys : List ℤ). shown_at reading ne h.known at 0 h.indices (replicate 400 0) ((late room).lines ++ ys) before) (drop_at (lines_of d.pairs) (drop (2 * n) zeros) (2 * n) lines-size)
      ∙ at-shown reading ne d.side d.tns d.range before two d.pairs ((late room).lines ++ drop (2 * n) zeros) [] (replicate 400 0) at (behind-long (late room).lines size) refl
      ∙ ap (λ (ls : List ℤ). shown reading (accepted (frame_by reading ne d.side d.tns d.range before two d.pairs ls [] at)) before) (filled-take ne (2 * n) (late room).lines size low few)

  pub finished-shown : shown_finished reading ne f h c before ≡ shown reading (finished reading ne f d c) before
  finished-shown = by-room (available (8 * length f) c d.range)
    where
      by_mode-shown : (lsb : Bool) (room : ℕ) →
          cond lsb (shown_late reading ne f h c room before) (shown_residual reading ne f h c room before)
          ≡ shown reading (accepted (cond lsb (with_late reading ne f d c room) (with_residual ne f d c room))) before
      by_mode-shown true room = late-shown room
      by_mode-shown false room = residual-shown room

      by-room : (a : Answer ℕ) →
          shown_by a (λ room. cond (eqb d.side.lsb 1) (shown_late reading ne f h c room before) (shown_residual reading ne f h c room before)) before
          ≡ shown reading (and_then a (λ room. accepted (cond (eqb d.side.lsb 1) (with_late reading ne f d c room) (with_residual ne f d c room)))) before
      by-room (accepted room) = by_mode-shown (eqb d.side.lsb 1) room
      by-room (refused r) = refl

-- ---- the code's returns

-- what comes late, by the tail and the array that the code has behind it
pub late-so : (reading ne : ℕ) (f : List ℕ) (h : Held) (c : Cursor) (room : ℕ) (before : List ℤ) (tail : ℕ) (array : List ℤ) →
    tail ≡ (late_of reading f h c.tail room).tail → array ≡ (late_of reading f h c.tail room).lines ++ drop (2 * (h.known.side.lastnz / 2)) h.lines →
    shown_at reading ne h.known (record { head = c.head; tail = tail }) 0 h.indices (replicate 400 0) array before ≡ shown_late reading ne f h c room before
late-so reading ne f h c room before tail array et ea = rw (et, ea) refl

pub residual-so : (reading ne : ℕ) (f : List ℕ) (h : Held) (c : Cursor) (room : ℕ) (before : List ℤ) (count : ℕ) (bits : List ℕ) →
    count ≡ min room (nonzero (take ne h.lines)) → bits ≡ residual_list f c.tail room (take ne h.lines) ++ drop count (replicate 400 0) →
    shown_at reading ne h.known (record { head = c.head; tail = c.tail + count }) count h.indices bits h.lines before ≡ shown_residual reading ne f h c room before
residual-so reading ne f h c room before count bits ec eb =
    let size : count ≡ length (residual_list f c.tail room (take ne h.lines)) = ec ∙ sym (residual-length f c.tail room (take ne h.lines)) in
    rw (eb, size) refl

-- ---- what the residual stage asks

-- the bits that are left end within the frame
pub room_in : (f : List ℕ) (c : Cursor) (range room : ℕ) → 0x10000 ≤ range → range ≤ 0xFFFFFF → available (8 * length f) c range ≡ accepted room → c.tail + room ≤ 8 * length f
room_in f c range room least most e =
    let g = given-split (ltb (8 * length f) (used_bits c range)) residual_negative (accepted (8 * length f - used_bits c range)) e in
    let fits : used_bits c range ≤ 8 * length f = ltb-false (8 * length f) (used_bits c range) g.0 in
    subst (λ n. c.tail + n ≤ 8 * length f) (accepted-same g.1) (room_within c range least most f fits)

take-most : (m n : ℕ) (xs : List ℤ) → AtMost m xs → AtMost m (take n xs)
take-most m zero xs h k = omega arith
take-most m (suc n) [] h k = omega arith
take-most m (suc n) (x ∷ xs) h zero = h 0
take-most m (suc n) (x ∷ xs) h (suc k) = take-most m n xs (λ i. h (suc i)) k

pub append-most : (m : ℕ) (xs ys : List ℤ) → AtMost m xs → AtMost m ys → AtMost m (xs ++ ys)
append-most m [] ys h g k = g k
append-most m (x ∷ xs) ys h g zero = h 0
append-most m (x ∷ xs) ys h g (suc k) = append-most m xs ys (λ i. h (suc i)) g k

module _ (f : List ℕ) (escaped : ℕ → Bool) (n tail room : ℕ) (lines array : List ℤ) (e : array ≡ (late_from f escaped 0 (take n lines) tail room).lines ++ drop n lines) where
  pub late-array-most : AtMost 81919 lines → AtMost 81920 array
  late-array-most h =
      subst (AtMost 81920) (sym e)
      (append-most 81920 (late_from f escaped 0 (take n lines) tail room).lines (drop n lines)
      (late-most f escaped 81919 0 (take n lines) tail room (take-most 81919 n lines h))
      (λ k. subst (λ (z : ℤ). nat_abs z ≤ 81920) (sym (get_or-drop n lines k (pos 0))) (omega (arith, h (n + k)))))

  pub late-array-length : n ≤ length lines → length array ≡ length lines
  late-array-length low =
      rw (e, length-append (late_from f escaped 0 (take n lines) tail room).lines (drop n lines), late-length f escaped 0 (take n lines) tail room, length-take-le n lines low, length-drop n lines) (omega arith)
