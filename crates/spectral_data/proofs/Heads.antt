-- Codings at the head, by the forms that codings are made of: none goes back there, and a tail bit leaves the coder and the head as
-- they are. And what two answers share behind the same head bytes. Assumes nothing.
use Prim.Native.Nat.{ℕ, ◌≤◌, ◌<◌}
use mathlib.Core.Path.{◌≡◌, refl, sym, ap, ◌∙◌}
use mathlib.Core.Bool.{Bool, true, false, cond}
use mathlib.Core.List.{List}
use native.Mathlib.Omega.{arith}
use native.Mathlib.Nat.{add-zero}
use lib.Dec.{ltb}
use lib.ListN.{length, get_or}
use Rattle.common.specs.Reply.{Step, Reply, accepted, wrong_length, no_tail_room}
use Rattle.common.proofs.Replies.{accepted-same, then-split, given-split, within-split}
use Rattle.buffer_reader.specs.Reads.{take_bit, bit_beyond}
use Rattle.buffer_reader.specs.Steps.{refusing, as_number, take_flag}
use Rattle.buffer_reader.specs.declared.Cursor.{Cursor}
use Rattle.range_decoder.specs.declared.DecoderState.{DecoderState}
use Rattle.sending.proofs.Tracing.{traced-symbol}
use Rattle.coding.specs.Coding.{Coded, Coding, done, onward, met, symbol_by, tail_bit_by}

-- two frames agree on the head's places from one to another
abbrev pub AgreeHead : List ℕ → List ℕ → ℕ → ℕ → Type 0
AgreeHead f g from to = (j : ℕ) → from ≤ j → j < to → get_or f j 0 ≡ get_or g j 0

-- what two answers share behind the same head bytes
pub record Alike {A B : Type 0} (R : A → B → Type 0) (x : Coded A × Cursor) (y : Coded B × Cursor) : Type 0 where
  pub state : x.0.state ≡ y.0.state
  pub head : x.1.head ≡ y.1.head
  pub value : R x.0.value y.0.value

-- a coding that does not go back
pub record Forward {A : Type 0} (k : Coding A) : Type 0 where
  pub on : (s : DecoderState) (f : List ℕ) (c : Cursor) (x : Coded A × Cursor) → k s f c ≡ accepted x → c.head ≤ x.1.head

-- a coding that leaves the coder and the head as they are
pub record Still {A : Type 0} (k : Coding A) : Type 0 where
  pub state : (s : DecoderState) (f : List ℕ) (c : Cursor) (x : Coded A × Cursor) → k s f c ≡ accepted x → x.0.state ≡ s
  pub head : (s : DecoderState) (f : List ℕ) (c : Cursor) (x : Coded A × Cursor) → k s f c ≡ accepted x → x.1.head ≡ c.head

-- anything may be read
abbrev pub Any : {A B : Type 0} → A → B → Type 0
Any a b = Unit {0}

-- ---- a coding that leaves the head

pub still-done : {A : Type 0} (a : A) → Still (done a)
still-done {A} a =
    record {
      state = λ s f c x e. sym (ap (λ (q : Coded A × Cursor). q.0.state) (accepted-same e));
      head = λ s f c x e. sym (ap (λ (q : Coded A × Cursor). q.1.head) (accepted-same e));
    }

pub still-onward : {A B : Type 0} (k : Coding A) (l : A → Coding B) → Still k → ((a : A) → Still (l a)) → Still (onward k l)
still-onward k l first rest =
    record {
      state = λ s f c x e. let p = then-split (k s f c) (λ r. l r.0.value r.0.state f r.1) e in
          (rest p.0.0.value).state p.0.0.state f p.0.1 x p.2 ∙ first.state s f c p.0 p.1;
      head = λ s f c x e. let p = then-split (k s f c) (λ r. l r.0.value r.0.state f r.1) e in
          (rest p.0.0.value).head p.0.0.state f p.0.1 x p.2 ∙ first.head s f c p.0 p.1;
    }

pub still-if : {A : Type 0} (t : Bool) (k l : Coding A) → Still k → Still l → Still (cond t k l)
still-if true k l p q = p
still-if false k l p q = q

pub still-refusing : {A : Type 0} (t : Bool) (r : Reply) (k : Coding A) → Still k → Still (λ s. refusing t r (k s))
still-refusing t r k h =
    record {
      state = λ s f c x e. h.state s f c x (given-split t r (k s f c) e).1;
      head = λ s f c x e. h.head s f c x (given-split t r (k s f c) e).1;
    }

-- what a bit leaves
bit-split : (f : List ℕ) (c : Cursor) (r : ℕ × Cursor) → take_flag f c ≡ accepted r → r.1.head ≡ c.head
bit-split f c r e =
    let p = then-split (take_bit f c) as_number e in
    let a = given-split (ltb 65535 (length f)) (wrong_length (length f)) _ p.1 in
    let b = given-split (bit_beyond (length f) c) (no_tail_room 1 c.tail) _ a.1 in
    sym (ap (λ (q : ℕ × Cursor). q.1.head) (accepted-same p.2)) ∙ sym (ap (λ (q : Bool × Cursor). q.1.head) (accepted-same b.1))

pub still-bit : (step : Step) → Still (met step tail_bit_by)
still-bit step =
    record {
      state = λ s f c x e. let p = then-split (take_flag f c) (λ r. done r.0 s f r.1) (within-split step _ e) in
          sym (ap (λ (q : Coded ℕ × Cursor). q.0.state) (accepted-same p.2));
      head = λ s f c x e. let p = then-split (take_flag f c) (λ r. done r.0 s f r.1) (within-split step _ e) in
          sym (ap (λ (q : Coded ℕ × Cursor). q.1.head) (accepted-same p.2)) ∙ bit-split f c p.0 p.1;
    }

-- ---- forward

pub forward-still : {A : Type 0} (k : Coding A) → Still k → Forward k
forward-still k h = record { on = λ s f c x e. let p = h.head s f c x e in omega arith }

pub forward-onward : {A B : Type 0} (k : Coding A) (l : A → Coding B) → Forward k → ((a : A) → Forward (l a)) → Forward (onward k l)
forward-onward k l first rest =
    record {
      on = λ s f c x e. let p = then-split (k s f c) (λ r. l r.0.value r.0.state f r.1) e in
          let a = first.on s f c p.0 p.1 in
          let b = (rest p.0.0.value).on p.0.0.state f p.0.1 x p.2 in
          omega arith;
    }

pub forward-if : {A : Type 0} (t : Bool) (k l : Coding A) → Forward k → Forward l → Forward (cond t k l)
forward-if true k l p q = p
forward-if false k l p q = q

-- a symbol: the head goes on by its shifts
pub forward-symbol : (step : Step) (row : List ℕ) → Forward (met step (symbol_by row))
forward-symbol step row =
    record {
      on = λ s f c x e.
          let at = (traced-symbol step row s f c x e).place (record { base = 0; range = s.range; shifts = 0 }) c.head (record { range = refl; head = sym (add-zero c.head) }) in
          omega (arith, at.head);
    }
