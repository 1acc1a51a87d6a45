-- A symbol's part of a range is at least 64, so two appended bytes bring it back to 0x10000 and more: there is never a third.
-- Assumes nothing.
use Prim.Native.Nat.{ℕ, ◌+◌, ◌*◌, ◌≤◌, ◌<◌}
use mathlib.Core.Path.{◌≡◌, refl, sym, ap}
use mathlib.Core.Bool.{Bool, true, false, cond}
use mathlib.Core.List.{List}
use native.Mathlib.Omega.{arith}
use borrow.Author.Tests.{le-leb, leb-true, leb-false, ltb-true, ltb-false}
use lib.Dec.{leb, ltb}
use lib.ListN.{length, get_or}
use Rattle.common.specs.Reply.{Answer, accepted, low_beyond_limit}
use Rattle.common.specs.Tables.{row_passes, cumulative}
use Rattle.common.proofs.Bools.{and_left, and_right, and_both}
use Rattle.common.proofs.Cumulatives.{row-shares}
use Rattle.common.proofs.Replies.{accepted-same, then-split, given-split}
use Rattle.buffer_reader.specs.Reads.{take_byte}
use Rattle.buffer_reader.specs.Steps.{next, found}
use Rattle.buffer_reader.specs.declared.Cursor.{Cursor}
use Rattle.range_decoder.specs.Decoder.{unit_of, owner, narrowed, append_byte, renormalised, Decoded, symbol_step, range_passes}
use Rattle.range_decoder.specs.declared.DecoderState.{DecoderState}
use Rattle.range_decoder.proofs.Owners.{owner_owns}
use Rattle.range_decoder.proofs.Shares.{shares-given}

-- a range within its limits
pub range-limits : (range : ℕ) → range_passes range ≡ true → (0x10000 ≤ range) × (range ≤ 0xFFFFFF)
range-limits range e =
    (leb-true 0x10000 range (and_left (leb 0x10000 range) (leb range 0xFFFFFF) e), leb-true range 0xFFFFFF (and_right (leb 0x10000 range) (leb range 0xFFFFFF) e))

-- the range behind one turn, by the test of it
abbrev turned : Bool → ℕ → ℕ
turned below range = cond below (range * 256) range

range_same : (u v : DecoderState × Cursor) → ◌≡◌ {A = Answer (DecoderState × Cursor)} (accepted u) (accepted v) → v.0.range ≡ u.0.range
range_same u v e = sym (ap (λ (r : DecoderState × Cursor). r.0.range) (accepted-same e))

turn-range : (below : Bool) (s : DecoderState) (f : List ℕ) (c : Cursor) (t : DecoderState) (d : Cursor) → cond below (next take_byte (λ byte. found (record { low = s.low * 256 + byte; range = s.range * 256 }))) (found s) f c ≡ accepted (t, d) → t.range ≡ turned below s.range
turn-range true s f c t d e = range_same _ _ (then-split (take_byte f c) _ e).2
turn-range false s f c t d e = range_same _ _ e

-- a turn takes a range from n on to 256*n or past 0x10000, and never past 0xFFFFFF
turned-bounds : (below : Bool) (n range : ℕ) → ltb range 0x10000 ≡ below → n ≤ 256 → n ≤ range → range ≤ 0xFFFFFF → (n * 256 ≤ turned below range) × (turned below range ≤ 0xFFFFFF)
turned-bounds true n range e small least most = (omega arith, omega (arith, ltb-true range 0x10000 e))
turned-bounds false n range e small least most = (omega (arith, ltb-false range 0x10000 e), omega arith)

-- one turn, whichever way its test goes
one-turn : (n : ℕ) (s : DecoderState) (f : List ℕ) (c : Cursor) (t : DecoderState) (d : Cursor) → n ≤ 256 → n ≤ s.range → s.range ≤ 0xFFFFFF → append_byte s f c ≡ accepted (t, d) → (n * 256 ≤ t.range) × (t.range ≤ 0xFFFFFF)
one-turn n s f c t d small least most e =
    rw (turn-range (ltb s.range 0x10000) s f c t d e)
    (turned-bounds (ltb s.range 0x10000) n s.range refl small least most)

-- from 64 on the first turn leaves 0x4000 at least, so the second 0x10000
pub renormalised-range : (s : DecoderState) (f : List ℕ) (c : Cursor) (t : DecoderState) (d : Cursor) → 64 ≤ s.range → s.range ≤ 0xFFFFFF → renormalised s f c ≡ accepted (t, d) → (0x10000 ≤ t.range) × (t.range ≤ 0xFFFFFF)
renormalised-range s f c t d least most e =
    let p = then-split (append_byte s f c) (λ r. append_byte r.0 f r.1) e in
    let first = one-turn 64 s f c p.0.0 p.0.1 (omega arith) least most p.1 in
    one-turn 256 p.0.0 f p.0.1 t d (omega arith) (omega (arith, first.0)) first.1 p.2

-- behind a symbol the range is within the limits again
pub step_range : (s : DecoderState) (row f : List ℕ) (c : Cursor) (r : Decoded) (d : Cursor) → range_passes s.range ≡ true → row_passes row ≡ true → symbol_step s row f c ≡ accepted (r, d) → range_passes r.state.range ≡ true
step_range s row f c r d within passed e =
    let n : ℕ = s.range in
    let limits = range-limits n within in
    let g = given-split (leb (1024 * unit_of n) s.low) (low_beyond_limit s.low (1024 * unit_of n)) _ e in
    let k : ℕ = owner (unit_of n) s.low row in
    let there : k < length row = (owner_owns row passed (unit_of n) s.low (leb-false (1024 * unit_of n) s.low g.0)).there in
    let p = then-split (renormalised (narrowed (unit_of n) s.low row k) f c) _ g.1 in
    let own = shares-given n (cumulative row k) (get_or row k 0) limits.0 (row-shares row passed k there) in
    let b =
    renormalised-range (narrowed (unit_of n) s.low row k) f c p.0.0 p.0.1 own.least (omega (arith, own.most)) p.1 in
    let same : r.state.range ≡ p.0.0.range = sym (ap (λ (x : Decoded × Cursor). x.0.state.range) (accepted-same p.2)) in
    rw same (and_both (leb 0x10000 p.0.0.range) (leb p.0.0.range 0xFFFFFF) (le-leb 0x10000 _ b.0) (le-leb _ 0xFFFFFF b.1))
