-- What holds behind a coding, proved once for each form that codings are made of: the range passes again, the cursor has moved from where
-- it was as M allows, the value is such as K says, and a refusal such as P says. Assumes nothing.
use Prim.Native.Nat.{ℕ, ◌*◌, ◌+◌, ◌/◌, ◌≤◌, ◌<◌}
use mathlib.Core.Path.{◌≡◌, refl, ap, subst}
use mathlib.Core.Bool.{Bool, true, false, cond}
use mathlib.Core.List.{List}
use native.Mathlib.Omega.{arith}
use borrow.Author.Tests.{le-ltb, leb-false}
use lib.Dec.{leb, ltb}
use lib.ListN.{length}
use Rattle.common.specs.Reply.{Step, Reply, Answer, accepted, refused, within, in_step, low_beyond_limit, head_past_end, no_tail_room}
use Rattle.common.specs.Tables.{row_passes}
use Rattle.common.proofs.Bools.{or-fails-second}
use Rattle.common.proofs.Replies.{accepted-same, then-split, given-split}
use Rattle.buffer_reader.specs.Reads.{take_byte, take_bit, bit_beyond}
use Rattle.buffer_reader.specs.Steps.{next, found, refusing, as_number, take_flag}
use Rattle.buffer_reader.specs.declared.Cursor.{Cursor}
use Rattle.buffer_reader.proofs.Roomy.{Ends, ends-given, ends-then}
use Rattle.range_decoder.specs.Decoder.{unit_of, owner, narrowed, append_byte, renormalised, Decoded, symbol_step, range_passes}
use Rattle.range_decoder.specs.declared.DecoderState.{DecoderState}
use Rattle.range_decoder.proofs.Owners.{owner_owns}
use Rattle.range_decoder.proofs.Renormal.{step_range}
use Rattle.coding.specs.Coding.{Coded, Coding, done, onward, met, symbol_by, tail_bit_by}

-- ---- how a cursor moves in a frame

-- neither end has gone back, nor out of the frame
pub record BothMoved (f : List ℕ) (c d : Cursor) : Type 0 where
  pub head : c.head ≤ d.head
  pub tail : c.tail ≤ d.tail
  pub head_inside : c.head ≤ length f → d.head ≤ length f
  pub tail_inside : c.tail ≤ 8 * length f → d.tail ≤ 8 * length f

-- and the tail is as it was
pub record HeadMoved (f : List ℕ) (c d : Cursor) : Type 0 where
  pub forward : c.head ≤ d.head
  pub inside : c.head ≤ length f → d.head ≤ length f
  pub kept : d.tail ≡ c.tail

pub both-of-head : {f : List ℕ} {c d : Cursor} → HeadMoved f c d → BothMoved f c d
both-of-head m =
    record { head = m.forward; tail = omega (arith, m.kept); head_inside = m.inside; tail_inside = λ h. omega (arith, m.kept, h) }

pub head-here : (f : List ℕ) (c : Cursor) → HeadMoved f c c
head-here f c = record { forward = omega arith; inside = λ h. h; kept = refl }

pub both-here : (f : List ℕ) (c : Cursor) → BothMoved f c c
both-here f c = both-of-head (head-here f c)

-- a byte was there, or a tail bit: the cursor goes on by it
abbrev pub OnByByte : (List ℕ → Cursor → Cursor → Type 0) → Type 0
OnByByte M = (f : List ℕ) (c d : Cursor) → d.head < length f → M f c d → M f c (record { head = d.head + 1; tail = d.tail })

abbrev pub OnByBit : (List ℕ → Cursor → Cursor → Type 0) → Type 0
OnByBit M = (f : List ℕ) (c d : Cursor) → d.tail / 8 < length f → M f c d → M f c (record { head = d.head; tail = d.tail + 1 })

pub head_byte : OnByByte HeadMoved
head_byte f c d l m = record { forward = omega (arith, m.forward); inside = λ h. omega arith; kept = m.kept }

pub both-byte : OnByByte BothMoved
both-byte f c d l m = record { head = omega (arith, m.head); tail = m.tail; head_inside = λ h. omega arith; tail_inside = m.tail_inside }

pub both-bit : OnByBit BothMoved
both-bit f c d l m = record { head = m.head; tail = omega (arith, m.tail); head_inside = m.head_inside; tail_inside = λ h. omega arith }

-- ---- codings

-- what holds of an accepted coding: of its value, of the state and of the cursor behind it
pub record Behind {A : Type 0} (M : List ℕ → Cursor → Cursor → Type 0) (K : A → Type 0) (f : List ℕ) (c : Cursor) (r : Coded A × Cursor) : Type 0 where
  pub known : K r.0.value
  pub range : range_passes r.0.state.range ≡ true
  pub moved : M f c r.1

-- a coding that ends so from every state whose range passes, in every frame whose length has been judged, wherever the cursor came from
pub record Keeps {A : Type 0} (M : List ℕ → Cursor → Cursor → Type 0) (P : Reply → Type 0) (K : A → Type 0) (coding : Coding A) : Type 0 where
  pub ends : (s : DecoderState) (f : List ℕ) (c d : Cursor) → length f ≤ 65535 → range_passes s.range ≡ true → M f c d → Ends P (Behind M K f c) (coding s f d)

ends-within : {A : Type 0} (P Q : Reply → Type 0) (K : A → Type 0) (step : Step) (a : Answer A) → ((r : Reply) → P r → Q (in_step step r)) → Ends P K a → Ends Q K (within step a)
ends-within P Q K step (accepted x) go h = h
ends-within P Q K step (refused r) go h = go r h

module _ {M : List ℕ → Cursor → Cursor → Type 0} where
  -- so it holds of what was accepted, and of what was refused
  module _ {A : Type 0} {P : Reply → Type 0} {K : A → Type 0} {coding : Coding A} (k : Keeps M P K coding) (s : DecoderState) (f : List ℕ) (c : Cursor) (short : length f ≤ 65535) (ok : range_passes s.range ≡ true) (here : M f c c) where
    pub keeps-at : {r : Coded A × Cursor} → coding s f c ≡ accepted r → Behind M K f c r
    keeps-at e = subst (Ends P (Behind M K f c)) e (k.ends s f c c short ok here)

    pub keeps-refused : {r : Reply} → coding s f c ≡ refused r → P r
    keeps-refused e = subst (Ends P (Behind M K f c)) e (k.ends s f c c short ok here)

  pub keeps-done : {A : Type 0} (P : Reply → Type 0) (K : A → Type 0) (a : A) → K a → Keeps M P K (done a)
  keeps-done P K a v = record { ends = λ s f c d l ok m. record { known = v; range = ok; moved = m } }

  pub keeps-onward : {A B : Type 0} (P : Reply → Type 0) (K : A → Type 0) (W : B → Type 0) (first : Coding A) (rest : A → Coding B) → Keeps M P K first → ((x : A) → K x → Keeps M P W (rest x)) → Keeps M P W (onward first rest)
  keeps-onward P K W first rest kf kr =
      record {
        ends = λ s f c d l ok m.
            ends-then P (Behind M W f c) (Behind M K f c) (first s f d) _ (kf.ends s f c d l ok m)
            (λ x e h. (kr x.0.value h.known).ends x.0.state f c x.1 l h.range h.moved);
      }

  pub keeps-met : {A : Type 0} (P Q : Reply → Type 0) (K : A → Type 0) (step : Step) (coding : Coding A) → ((r : Reply) → P r → Q (in_step step r)) → Keeps M P K coding → Keeps M Q K (met step coding)
  keeps-met P Q K step coding go k =
      record { ends = λ s f c d l ok m. ends-within P Q (Behind M K f c) step (coding s f d) go (k.ends s f c d l ok m) }

  pub keeps-if : {A : Type 0} (P : Reply → Type 0) (K : A → Type 0) (t : Bool) (a b : Coding A) → (t ≡ true → Keeps M P K a) → (t ≡ false → Keeps M P K b) → Keeps M P K (cond t a b)
  keeps-if P K true a b ka kb = ka refl
  keeps-if P K false a b ka kb = kb refl

  -- a refusal before it, where a test holds
  pub keeps-refusing : {A : Type 0} (P : Reply → Type 0) (K : A → Type 0) (t : Bool) (r : Reply) (coding : Coding A) → P r → (t ≡ false → Keeps M P K coding) → Keeps M P K (λ s. refusing t r (coding s))
  keeps-refusing P K t r coding p k =
      record { ends = λ s f c d l ok m. ends-given P (Behind M K f c) t r (coding s f d) p (λ e. (k e).ends s f c d l ok m) }

-- ---- a symbol

-- the symbol found by a row that passes is one of the row's
pub symbol_low : (s : DecoderState) (row f : List ℕ) (c : Cursor) (r : Decoded) (d : Cursor) → row_passes row ≡ true → symbol_step s row f c ≡ accepted (r, d) → r.symbol < length row
symbol_low s row f c r d passed e =
    let n : ℕ = unit_of s.range in
    let g = given-split (leb (1024 * n) s.low) (low_beyond_limit s.low (1024 * n)) _ e in
    let k : ℕ = owner n s.low row in
    let there : k < length row = (owner_owns row passed n s.low (leb-false (1024 * n) s.low g.0)).there in
    let p = then-split (renormalised (narrowed n s.low row k) f c) _ g.1 in
    let same : k ≡ r.symbol = ap (λ (x : Decoded × Cursor). x.0.symbol) (accepted-same p.2) in
    rw (← same) there

-- 10 or 11 is all that a symbol's step can refuse, and of the cursor it keeps what a byte keeps
module _ (P : Reply → Type 0) (past : (head : ℕ) → P (head_past_end head)) (beyond : (low limit : ℕ) → P (low_beyond_limit low limit)) where
  module _ (I : Cursor → Type 0) (f : List ℕ) (short : length f ≤ 65535) (on : (c : Cursor) → c.head < length f → I c → I (record { head = c.head + 1; tail = c.tail })) where
    abbrev At : {A : Type 0} → A × Cursor → Type 0
    At r = I r.1

    byte-ends : (c : Cursor) → I c → Ends P At (take_byte f c)
    byte-ends c i =
        rw (le-ltb 65535 (length f) short)
        (ends-given P At (leb (length f) c.head) (head_past_end c.head) _ (past c.head) (λ e. on c (leb-false (length f) c.head e) i))

    append-ends : (s : DecoderState) (c : Cursor) → I c → Ends P At (append_byte s f c)
    append-ends s c i = go (ltb s.range 0x10000)
      where
        go : (t : Bool) → Ends P At (cond t (next take_byte (λ byte. found (record { low = s.low * 256 + byte; range = s.range * 256 }))) (found s) f c)
        go true = ends-then P At At (take_byte f c) _ (byte-ends c i) (λ x e h. h)
        go false = i

    pub step-ends : (s : DecoderState) (row : List ℕ) (c : Cursor) → I c → Ends P At (symbol_step s row f c)
    step-ends s row c i =
        ends-given P At (leb (1024 * unit_of s.range) s.low) (low_beyond_limit s.low (1024 * unit_of s.range)) _ (beyond s.low (1024 * unit_of s.range))
        (λ e. let own : DecoderState = narrowed (unit_of s.range) s.low row (owner (unit_of s.range) s.low row) in
        ends-then P At At (renormalised own f c) _
        (ends-then P At At (append_byte own f c) (λ x. append_byte x.0 f x.1) (append-ends own c i) (λ x q h. append-ends x.0 x.1 h))
        (λ x q h. h))

  pub keeps-symbol : {M : List ℕ → Cursor → Cursor → Type 0} → OnByByte M → (row : List ℕ) → row_passes row ≡ true → Keeps M P (λ k. k < length row) (symbol_by row)
  keeps-symbol {M} on row passed =
      record {
        ends = λ s f c d l ok m.
            ends-then P (Behind M (λ k. k < length row) f c) (λ r. M f c r.1) (symbol_step s row f d) _ (step-ends (M f c) f l (on f c) s row d m)
            (λ x e h. record {
              known = symbol_low s row f d x.0 x.1 passed e;
              range = step_range s row f d x.0 x.1 ok passed e;
              moved = h;
            });
      }

-- behind a symbol: it is one of the row's, the range passes again, and the cursor went on at the head alone
pub symbol-behind : (row : List ℕ) → row_passes row ≡ true → (s : DecoderState) (f : List ℕ) (c : Cursor) → length f ≤ 65535 → range_passes s.range ≡ true → {r : Coded ℕ × Cursor} → symbol_by row s f c ≡ accepted r → Behind HeadMoved (λ k. k < length row) f c r
symbol-behind row passed s f c short ok =
    keeps-at (keeps-symbol (λ r. Unit {0}) (λ head. tt) (λ low limit. tt) head_byte row passed) s f c short ok (head-here f c)

-- ---- a tail bit

one-most : (b : Bool) → cond b 1 0 ≤ 1
one-most true = omega arith
one-most false = omega arith

-- 9 is all that it can refuse
module _ (P : Reply → Type 0) (none : (tail : ℕ) → P (no_tail_room 1 tail)) where
  module _ (I : Cursor → Type 0) (f : List ℕ) (short : length f ≤ 65535) (on : (c : Cursor) → c.tail / 8 < length f → I c → I (record { head = c.head; tail = c.tail + 1 })) where
    pub bit-ends : (c : Cursor) → I c → Ends P (λ r. I r.1) (take_bit f c)
    bit-ends c i =
        rw (le-ltb 65535 (length f) short)
        (ends-given P (λ r. I r.1) (bit_beyond (length f) c) (no_tail_room 1 c.tail) _ (none c.tail)
        (λ e. on c (leb-false (length f) (c.tail / 8) (or-fails-second (ltb (length f + 2) (c.head + c.tail / 8)) (leb (length f) (c.tail / 8)) e)) i))

  pub keeps-bit : {M : List ℕ → Cursor → Cursor → Type 0} → OnByBit M → Keeps M P (λ b. b ≤ 1) tail_bit_by
  keeps-bit {M} on =
      record {
        ends = λ s f c d l ok m.
            ends-then P (Behind M (λ b. b ≤ 1) f c) (λ r. (r.0 ≤ 1) × M f c r.1) (take_flag f d) _
            (ends-then P (λ r. (r.0 ≤ 1) × M f c r.1) (λ r. M f c r.1) (take_bit f d) as_number (bit-ends (M f c) f l (on f c) d m) (λ x e h. (one-most x.0, h)))
            (λ x e h. record { known = h.0; range = ok; moved = h.1 });
      }

-- both as they are met in a step
module _ (P : Reply → Type 0) (step : Step) where
  abbrev InIt : Reply → Type 0
  InIt r = P (in_step step r)

  module _ {M : List ℕ → Cursor → Cursor → Type 0} where
    pub met-symbol : ((head : ℕ) → P (in_step step (head_past_end head))) → ((low limit : ℕ) → P (in_step step (low_beyond_limit low limit))) → OnByByte M → (row : List ℕ) → row_passes row ≡ true → Keeps M P (λ k. k < length row) (met step (symbol_by row))
    met-symbol past beyond on row passed = keeps-met InIt P (λ k. k < length row) step (symbol_by row) (λ r h. h) (keeps-symbol InIt past beyond on row passed)

    pub met-bit : ((tail : ℕ) → P (in_step step (no_tail_room 1 tail))) → OnByBit M → Keeps M P (λ b. b ≤ 1) (met step tail_bit_by)
    met-bit none on = keeps-met InIt P (λ b. b ≤ 1) step tail_bit_by (λ r h. h) (keeps-bit InIt none on)
