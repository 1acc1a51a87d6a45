-- What an accepted coding leaves, by the forms that codings are made of: the range and the head behind it are those that the symbols
-- read make of an interval's range and shifts, and the tail has gone on by the bits read. Assumes nothing.
use Prim.Native.Nat.{ℕ, ◌+◌, ◌*◌, ◌<◌}
use mathlib.Core.Path.{◌≡◌, refl, sym, ap, subst, ◌∙◌}
use mathlib.Core.Bool.{Bool, true, false, cond}
use mathlib.Core.List.{List, [], ◌∷◌, ◌++◌}
use native.Mathlib.Omega.{arith}
use native.Mathlib.Nat.{add-zero}
use lib.Dec.{leb, ltb}
use lib.ListN.{length, get_or}
use Rattle.common.specs.Reply.{Step, accepted, wrong_length, head_past_end, no_tail_room, low_beyond_limit}
use Rattle.common.specs.Tables.{row_passes}
use Rattle.common.proofs.Replies.{accepted-same, then-split, given-split, within-split}
use Rattle.buffer_reader.specs.Reads.{take_byte, take_bit, bit_beyond}
use Rattle.buffer_reader.specs.Steps.{next, found, as_number, take_flag}
use Rattle.buffer_reader.specs.declared.Cursor.{Cursor}
use Rattle.range_decoder.specs.Decoder.{unit_of, owner, narrowed, append_byte, renormalised, Decoded, symbol_step}
use Rattle.range_decoder.specs.declared.DecoderState.{DecoderState}
use Rattle.range_encoder.specs.Interval.{Sent, Interval, part, widened, behind}
use Rattle.coding.specs.Coding.{Coded, done, met, symbol_by, tail_bit_by}
use Rattle.coding.proofs.Keeps.{symbol_low}
use Rattle.sending.specs.Sending.{sent}
use Rattle.sending.proofs.Standing.{behind-append}

-- a state and a cursor as an interval has them, h bytes before its shifts
pub record AtInterval (s : DecoderState) (c : Cursor) (i : Interval) (h : ℕ) : Type 0 where
  pub range : s.range ≡ i.range
  pub head : c.head ≡ h + i.shifts

-- what is known behind a coding that took these symbols and so many bits
pub record Traced {A : Type 0} (s : DecoderState) (c : Cursor) (xs : List Sent) (bits : ℕ) (r : Coded A × Cursor) : Type 0 where
  pub place : (i : Interval) (h : ℕ) → AtInterval s c i h → AtInterval r.0.state r.1 (behind i xs) h
  pub tail : r.1.tail ≡ c.tail + bits

-- nothing is read
pub traced-none : {A : Type 0} (s : DecoderState) (c : Cursor) (a : A) → Traced s c [] 0 (record { value = a; state = s }, c)
unfolding behind
traced-none s c a = record { place = λ i h at. at; tail = sym (add-zero c.tail) }

pub traced-done : {A : Type 0} (a : A) (s : DecoderState) (f : List ℕ) (c : Cursor) (r : Coded A × Cursor) → done a s f c ≡ accepted r → Traced s c [] 0 r
traced-done a s f c r e = subst (Traced s c [] 0) (accepted-same e) (traced-none s c a)

-- one behind the other
pub traced-on : {A B : Type 0} (s : DecoderState) (c : Cursor) (xs ys : List Sent) (m n : ℕ) (q : Coded A × Cursor) (r : Coded B × Cursor) → Traced s c xs m q → Traced q.0.state q.1 ys n r → Traced s c (xs ++ ys) (m + n) r
traced-on s c xs ys m n q r first rest =
    record {
      place = λ i h at. rw (behind-append i xs ys) (rest.place (behind i xs) h (first.place i h at));
      tail = omega (arith, first.tail, rest.tail);
    }

-- another value is made of it
pub traced-as : {A B : Type 0} {s : DecoderState} {c : Cursor} {xs : List Sent} {n : ℕ} {q : Coded A × Cursor} (b : B) → Traced s c xs n q → Traced s c xs n (record { value = b; state = q.0.state }, q.1)
traced-as b t = record { place = t.place; tail = t.tail }

-- ---- a bit

pub traced-bit : (step : Step) (s : DecoderState) (f : List ℕ) (c : Cursor) (r : Coded ℕ × Cursor) → met step tail_bit_by s f c ≡ accepted r → Traced s c [] 1 r
unfolding behind
traced-bit step s f c r e =
    let p = then-split (take_flag f c) (λ q. done q.0 s f q.1) (within-split step _ e) in
    let q = then-split (take_bit f c) as_number p.1 in
    let a = given-split (ltb 65535 (length f)) (wrong_length (length f)) _ q.1 in
    let b = given-split (bit_beyond (length f) c) (no_tail_room 1 c.tail) _ a.1 in
    let moved : q.0.1 ≡ record { head = c.head; tail = c.tail + 1 } = sym (ap (λ (u : Bool × Cursor). u.1) (accepted-same b.1)) in
    let same : r.1 ≡ record { head = c.head; tail = c.tail + 1 } =
    sym (ap (λ (u : Coded ℕ × Cursor). u.1) (accepted-same p.2)) ∙ sym (ap (λ (u : ℕ × Cursor). u.1) (accepted-same q.2)) ∙ moved in
    let kept : r.0.state ≡ s = sym (ap (λ (u : Coded ℕ × Cursor). u.0.state) (accepted-same p.2)) in
    record {
      place = λ i h at. record { range = rw kept at.range; head = rw same at.head };
      tail = rw same refl;
    }

-- ---- a symbol

-- a byte
byte_split : (f : List ℕ) (c : Cursor) (r : ℕ × Cursor) → take_byte f c ≡ accepted r → (get_or f c.head 0, record { head = c.head + 1; tail = c.tail }) ≡ r
byte_split f c r e =
    let a = given-split (ltb 65535 (length f)) (wrong_length (length f)) _ e in
    let b = given-split (leb (length f) c.head) (head_past_end c.head) _ a.1 in
    accepted-same b.1

-- one turn of the renormalising
record Turned (s : DecoderState) (c : Cursor) (x : DecoderState × Cursor) : Type 0 where
  place : (i : Interval) (h : ℕ) → AtInterval s c i h → AtInterval x.0 x.1 (widened i) h
  tail : x.1.tail ≡ c.tail

turn-split : (f : List ℕ) (s : DecoderState) (c : Cursor) (below : Bool) (x : DecoderState × Cursor) → ltb s.range 0x10000 ≡ below →
    cond below (next take_byte (λ byte. found (record { low = s.low * 256 + byte; range = s.range * 256 }))) (found s) f c ≡ accepted x → Turned s c x
turn-split f s c true x small e =
    let p = then-split (take_byte f c) (λ r. found (record { low = s.low * 256 + r.0; range = s.range * 256 }) f r.1) e in
    subst (Turned s c) (accepted-same p.2)
    (subst (λ (r : ℕ × Cursor). Turned s c (record { low = s.low * 256 + r.0; range = s.range * 256 }, r.1)) (byte_split f c p.0 p.1)
    (record {
      place = λ i h at. let test : ltb i.range 0x10000 ≡ true = rw at.range at small in
          rw test (record { range = omega (arith, at.range); head = omega (arith, at.head) });
      tail = refl;
    }))
turn-split f s c false x large e =
    subst (Turned s c) (accepted-same e)
    (record {
      place = λ i h at. let test : ltb i.range 0x10000 ≡ false = rw at.range at large in rw test at;
      tail = refl;
    })

turned : (f : List ℕ) (s : DecoderState) (c : Cursor) (x : DecoderState × Cursor) → append_byte s f c ≡ accepted x → Turned s c x
turned f s c x e = turn-split f s c (ltb s.range 0x10000) x refl e

-- the symbol that is found is sent back to where the coder is
pub traced-symbol : (step : Step) (row : List ℕ) (s : DecoderState) (f : List ℕ) (c : Cursor) (r : Coded ℕ × Cursor) → met step (symbol_by row) s f c ≡ accepted r → Traced s c (sent row r.0.value ∷ []) 0 r
unfolding behind
traced-symbol step row s f c r e =
    let u : ℕ = unit_of s.range in
    let k : ℕ = owner u s.low row in
    let own : DecoderState = narrowed u s.low row k in
    let p = then-split (symbol_step s row f c) (λ q. found (record { value = q.0.symbol; state = q.0.state }) f q.1) (within-split step _ e) in
    let a = given-split (leb (1024 * u) s.low) (low_beyond_limit s.low (1024 * u)) _ p.1 in
    let q = then-split (renormalised own f c) (λ t. found (record { symbol = k; state = t.0 }) f t.1) a.1 in
    let v = then-split (append_byte own f c) (λ t. append_byte t.0 f t.1) q.1 in
    let one = turned f own c v.0 v.1 in
    let two = turned f v.0.0 v.0.1 q.0 v.2 in
    let step_is : ◌≡◌ {A = Decoded × Cursor} (record { symbol = k; state = q.0.0 }, q.0.1) p.0 = accepted-same q.2 in
    subst (λ (w : Coded ℕ × Cursor). Traced s c (sent row w.0.value ∷ []) 0 w) (accepted-same p.2)
    (subst (λ (w : Decoded × Cursor). Traced {A = ℕ} s c (sent row w.0.symbol ∷ []) 0 (record { value = w.0.symbol; state = w.0.state }, w.1)) step_is
    (record {
      place = λ i h at. two.place (widened (part i (sent row k))) h (one.place (part i (sent row k)) h (record { range = ap (λ (n : ℕ). unit_of n * get_or row k 0) at.range; head = at.head }));
      tail = two.tail ∙ one.tail ∙ sym (add-zero c.tail);
    }))

-- and it is one of the row's, if the row passes
pub found-low : (step : Step) (row : List ℕ) (s : DecoderState) (f : List ℕ) (c : Cursor) (r : Coded ℕ × Cursor) → row_passes row ≡ true → met step (symbol_by row) s f c ≡ accepted r → r.0.value < length row
found-low step row s f c r passed e =
    let p = then-split (symbol_step s row f c) (λ q. found (record { value = q.0.symbol; state = q.0.state }) f q.1) (within-split step _ e) in
    subst (λ (w : Coded ℕ × Cursor). w.0.value < length row) (accepted-same p.2) (symbol_low s row f c p.0.0 p.0.1 passed p.1)
