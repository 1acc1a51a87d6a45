-- The laws of readings, over their making: what holds of every value that is read, and that a reading which goes forward
-- depends on the bits between its two cursors alone. Assumes nothing.
use Prim.Native.Nat.{ℕ, ◌+◌, ◌≤◌, ◌<◌, ◌^◌}
use mathlib.Core.Path.{◌≡◌, ap, subst, ◌∙◌}
use mathlib.Core.Bool.{Bool, true, false, cond, not}
use mathlib.Core.List.{List}
use native.Mathlib.Omega.{arith}
use native.Mathlib.Nat.{le_of_eq, le_trans}
use lib.Dec.{ltb}
use lib.ListN.{length}
use Rattle.common.specs.Reply.{Step, Reply, Answer, accepted, refused, given, and_then, within, wrong_length, width_not_listed, no_tail_room}
use Rattle.common.proofs.Replies.{accepted-same, then-split, given-split, within-split}
use Rattle.buffer_reader.specs.Tail.{Agree}
use Rattle.buffer_reader.specs.Reads.{take_bits, take_bit, listed, field_beyond, bit_beyond}
use Rattle.buffer_reader.specs.Steps.{Reading, found, next, refusing, if_present, field_in, flag_in, as_number}
use Rattle.buffer_reader.specs.declared.Cursor.{Cursor}
use Rattle.buffer_reader.proofs.Tails.{field_lt}
use Rattle.buffer_reader.proofs.Answers.{bits-agree, bit-agrees}

-- what holds of the value of an answer, if it has one
abbrev pub Holds : {A : Type 0} → (A → Type 0) → Answer A → Type 0
Holds P (accepted a) = P a
Holds P (refused r) = Unit {0}

module _ {A : Type 0} (P : A → Type 0) where
  pub holds_at : (a : Answer A) {x : A} → Holds P a → a ≡ accepted x → P x
  holds_at a h e = subst (Holds P) e h

  pub holds-given : (t : Bool) (r : Reply) (a : Answer A) → Holds P a → Holds P (given t r a)
  holds-given true r a h = tt
  holds-given false r a h = h

  pub holds-within : (s : Step) (a : Answer A) → Holds P a → Holds P (within s a)
  holds-within s (accepted a) h = h
  holds-within s (refused r) h = tt

  pub holds_then : {B : Type 0} (Q : B → Type 0) (b : Answer B) (k : B → Answer A) → Holds Q b → ((x : B) → Q x → Holds P (k x)) → Holds P (and_then b k)
  holds_then Q (accepted x) k h go = go x h
  holds_then Q (refused r) k h go = tt

-- a field is below 2 to its width, and a bit below 2
pub field-holds : (s : Step) (n : ℕ) (f : List ℕ) (c : Cursor) → Holds (λ r. r.0 < 2 ^ n) (field_in s n f c)
field-holds s n f c =
    holds-within (λ r. r.0 < 2 ^ n) s (take_bits f c n)
    (holds-given (λ r. r.0 < 2 ^ n) (ltb 65535 (length f)) (wrong_length (length f)) _
    (holds-given (λ r. r.0 < 2 ^ n) (not (listed n)) (width_not_listed n) _
    (holds-given (λ r. r.0 < 2 ^ n) (field_beyond (length f) c n) (no_tail_room n _) _ (field_lt f c.tail n))))

one_below : (b : Bool) → cond b 1 0 < 2
one_below true = omega arith
one_below false = omega arith

pub flag-holds : (s : Step) (f : List ℕ) (c : Cursor) → Holds (λ r. r.0 < 2) (flag_in s f c)
flag-holds s f c =
    holds-within Low s (and_then (take_bit f c) as_number)
    (holds_then Low (λ r. Unit {0}) (take_bit f c) as_number (anything (take_bit f c)) (λ r h. one_below r.0))
  where
    Low : ℕ × Cursor → Type 0
    Low r = r.0 < 2

    anything : (a : Answer (Bool × Cursor)) → Holds (λ r. Unit {0}) a
    anything (accepted x) = tt
    anything (refused r) = tt

-- a reading that goes forward, and depends on its own bits alone
pub record Local {A : Type 0} (s : Reading A) : Type 0 where
  pub forward : (f : List ℕ) (c : Cursor) (x : A) (d : Cursor) → s f c ≡ accepted (x, d) → c.tail ≤ d.tail
  pub own : (f g : List ℕ) (c : Cursor) (x : A) (d : Cursor) → length f ≡ length g → s f c ≡ accepted (x, d) → Agree f g c.tail d.tail → s g c ≡ accepted (x, d)

-- where an answer leaves the tail
tail-same : {A : Type 0} {a x : A} {c d : Cursor} → ◌≡◌ {A = Answer (A × Cursor)} (accepted (a, c)) (accepted (x, d)) → c.tail ≡ d.tail
tail-same {A} e = ap (λ (r : A × Cursor). r.1.tail) (accepted-same e)

pub local-found : {A : Type 0} (a : A) → Local (found a)
local-found a = record { forward = λ f c x d e. le_of_eq (tail-same e); own = λ f g c x d l e h. e }

pub local-next : {A B : Type 0} (s : Reading A) (k : A → Reading B) → Local s → ((x : A) → Local (k x)) → Local (next s k)
local-next s k ls lk =
    record {
      forward = λ f c y d e. let p = then-split (s f c) (λ r. k r.0 f r.1) e in
          le_trans (ls.forward f c p.0.0 p.0.1 p.1) ((lk p.0.0).forward f p.0.1 y d p.2);
      own = λ f g c y d l e h. let p = then-split (s f c) (λ r. k r.0 f r.1) e in
          let up : c.tail ≤ p.0.1.tail = ls.forward f c p.0.0 p.0.1 p.1 in
          let on : p.0.1.tail ≤ d.tail = (lk p.0.0).forward f p.0.1 y d p.2 in
          rw (ls.own f g c p.0.0 p.0.1 l p.1 (λ j a b. h j a (omega arith)))
          ((lk p.0.0).own f g p.0.1 y d l p.2 (λ j a b. h j (omega arith) b));
    }

pub local-refusing : {A : Type 0} (t : Bool) (r : Reply) (s : Reading A) → Local s → Local (refusing t r s)
local-refusing t r s ls =
    record {
      forward = λ f c x d e. ls.forward f c x d (given-split t r (s f c) e).1;
      own = λ f g c x d l e h. let p = given-split t r (s f c) e in rw p.0 (ls.own f g c x d l p.1 h);
    }

pub local-if : {A : Type 0} (t : Bool) (s u : Reading A) → Local s → Local u → Local (cond t s u)
local-if true s u ls lu = ls
local-if false s u ls lu = lu

pub local-present : (t : Bool) (s : Reading ℕ) → Local s → Local (if_present t s)
local-present t s ls = local-if t s (found 0) ls (local-found 0)

-- what is left of a field's checks where it is accepted
field-split : (s : Step) (n : ℕ) (f : List ℕ) (c : Cursor) (x : ℕ) (d : Cursor) → field_in s n f c ≡ accepted (x, d) → take_bits f c n ≡ accepted (x, d)
field-split s n f c x d e = within-split s (take_bits f c n) e

field_end : (n : ℕ) (f : List ℕ) (c : Cursor) (x : ℕ) (d : Cursor) → take_bits f c n ≡ accepted (x, d) → c.tail + n ≡ d.tail
field_end n f c x d e =
    let a = given-split (ltb 65535 (length f)) (wrong_length (length f)) _ e in
    let b = given-split (not (listed n)) (width_not_listed n) _ a.1 in
    let r = given-split (field_beyond (length f) c n) (no_tail_room n c.tail) _ b.1 in
    tail-same r.1

pub local-field : (s : Step) (n : ℕ) → Local (field_in s n)
local-field s n =
    record {
      forward = λ f c x d e. let q = field_end n f c x d (field-split s n f c x d e) in omega arith;
      own = λ f g c x d l e h. let q = field_end n f c x d (field-split s n f c x d e) in
          rw (← bits-agree f g c l n (λ k a. h (c.tail + k) (omega arith) (omega arith))) e;
    }

bit-end : (f : List ℕ) (c : Cursor) (b : Bool) (d : Cursor) → take_bit f c ≡ accepted (b, d) → c.tail + 1 ≡ d.tail
bit-end f c b d e =
    let a = given-split (ltb 65535 (length f)) (wrong_length (length f)) _ e in
    let r = given-split (bit_beyond (length f) c) (no_tail_room 1 c.tail) _ a.1 in
    tail-same r.1

flag-end : (s : Step) (f : List ℕ) (c : Cursor) (x : ℕ) (d : Cursor) → flag_in s f c ≡ accepted (x, d) → c.tail + 1 ≡ d.tail
flag-end s f c x d e =
    let p = then-split (take_bit f c) as_number (within-split s (and_then (take_bit f c) as_number) e) in
    bit-end f c p.0.0 p.0.1 p.1 ∙ tail-same p.2

pub local-flag : (s : Step) → Local (flag_in s)
local-flag s =
    record {
      forward = λ f c x d e. let q = flag-end s f c x d e in omega arith;
      own = λ f g c x d l e h. let q = flag-end s f c x d e in
          rw (← bit-agrees f g c l (h c.tail (omega arith) (omega arith))) e;
    }
