-- A reading of at most n bits, where the frame has room for them and for four bytes, finds every field there: it leaves the head
-- and goes on by at most n bits, and refuses only by checks of its own. By the laws of readings along a chain. Assumes nothing.
use Prim.Native.Nat.{ℕ, ◌+◌, ◌/◌, ◌%◌, ◌≤◌}
use mathlib.Core.Path.{◌≡◌, refl, sym, ap, subst}
use mathlib.Core.Bool.{Bool, true, false, cond}
use mathlib.Core.List.{List}
use native.Mathlib.Omega.{arith}
use borrow.Author.Tests.{le-ltb}
use lib.ListN.{length}
use Rattle.common.specs.Reply.{Step, Reply, Answer, accepted, refused, given, and_then, within}
use Rattle.buffer_reader.specs.Reads.{listed, bytes_wanted, field_beyond}
use Rattle.buffer_reader.specs.Steps.{Reading, found, next, refusing, if_present, field_in, flag_in, as_number}
use Rattle.buffer_reader.specs.declared.Cursor.{Cursor}
use Rattle.buffer_reader.proofs.Answers.{bits-taken, bit-there, bit-taken}
use Rattle.buffer_reader.proofs.Rooms.{wanted-holds}
use Rattle.buffer_reader.proofs.Steps.{Holds, holds_at}

-- what holds of an answer: one thing of its refusal, another of its value
abbrev pub Ends : {A : Type 0} → (Reply → Type 0) → (A → Type 0) → Answer A → Type 0
Ends P Q (accepted a) = Q a
Ends P Q (refused r) = P r

module _ {A : Type 0} (P : Reply → Type 0) (Q : A → Type 0) where
  pub ends-refused : (a : Answer A) {r : Reply} → Ends P Q a → a ≡ refused r → P r
  ends-refused a h e = subst (Ends P Q) e h

  pub ends-accepted : (a : Answer A) {x : A} → Q x → a ≡ accepted x → Ends P Q a
  ends-accepted a h e = subst (Ends P Q) (sym e) h

  pub ends-given : (t : Bool) (r : Reply) (a : Answer A) → P r → (t ≡ false → Ends P Q a) → Ends P Q (given t r a)
  ends-given true r a p h = p
  ends-given false r a p h = h refl

  pub ends_so : (R : A → Type 0) (a : Answer A) → Ends P R a → ((x : A) → R x → Q x) → Ends P Q a
  ends_so R (accepted x) h go = go x h
  ends_so R (refused r) h go = h

  pub ends-then : {B : Type 0} (R : B → Type 0) (b : Answer B) (k : B → Answer A) → Ends P R b →
      ((x : B) → b ≡ accepted x → R x → Ends P Q (k x)) → Ends P Q (and_then b k)
  ends-then R (accepted x) k h go = go x refl h
  ends-then R (refused r) k h go = h

-- the head, four bytes more and the whole bytes of a tail n bits on fit into the frame together
abbrev pub Room : List ℕ → Cursor → ℕ → Type 0
Room f c n = c.head + 4 + (c.tail + n) / 8 ≤ length f

-- a cursor at the same head, whose tail is on by at most n bits
pub record Ahead (c : Cursor) (n : ℕ) (d : Cursor) : Type 0 where
  pub same : d.head ≡ c.head
  pub near : d.tail ≤ c.tail + n

-- a reading of at most n bits, whose refusals in a frame with that room are such as P says
pub record Roomy {A : Type 0} (P : Reply → Type 0) (n : ℕ) (s : Reading A) : Type 0 where
  pub ends : (f : List ℕ) (c : Cursor) → length f ≤ 65535 → Room f c n → Ends P (λ r. Ahead c n r.1) (s f c)

module _ (P : Reply → Type 0) where
  pub roomy-more : {A : Type 0} (n m : ℕ) (s : Reading A) → n ≤ m → Roomy P n s → Roomy P m s
  roomy-more n m s h t =
      record {
        ends = λ f c l room.
            ends_so P (λ r. Ahead c m r.1) (λ r. Ahead c n r.1) (s f c) (t.ends f c l (omega arith)) (λ x e. omega arith);
      }

  pub roomy-found : {A : Type 0} (a : A) → Roomy P 0 (found a)
  roomy-found a = record { ends = λ f c l room. record { same = refl; near = omega arith } }

  -- n bits, then m bits by a value of which something is known
  pub roomy-known : {A B : Type 0} (K : A → Type 0) (n m : ℕ) (s : Reading A) (k : A → Reading B) →
      ((f : List ℕ) (c : Cursor) → Holds (λ r. K r.0) (s f c)) → Roomy P n s → ((x : A) → K x → Roomy P m (k x)) →
      Roomy P (n + m) (next s k)
  roomy-known K n m s k known first rest =
      record {
        ends = λ f c l room.
            ends-then P (λ r. Ahead c (n + m) r.1) (λ r. Ahead c n r.1) (s f c) _ (first.ends f c l (omega arith))
            (λ x e h. ends_so P (λ r. Ahead c (n + m) r.1) (λ r. Ahead x.1 m r.1) (k x.0 f x.1)
            ((rest x.0 (holds_at (λ r. K r.0) (s f c) (known f c) e)).ends f x.1 l (omega arith))
            (λ y u. omega arith));
      }

  pub roomy-next : {A B : Type 0} (n m : ℕ) (s : Reading A) (k : A → Reading B) →
      Roomy P n s → ((x : A) → Roomy P m (k x)) → Roomy P (n + m) (next s k)
  roomy-next n m s k first rest = roomy-known (λ x. Unit {0}) n m s k (λ f c. anything (s f c)) first (λ x u. rest x)
    where
      anything : {A : Type 0} (a : Answer A) → Holds (λ r. Unit {0}) a
      anything (accepted x) = tt
      anything (refused r) = tt

  pub roomy-refusing : {A : Type 0} (t : Bool) (r : Reply) (n : ℕ) (s : Reading A) → P r → Roomy P n s → Roomy P n (refusing t r s)
  roomy-refusing t r n s p h =
      record { ends = λ f c l room. ends-given P (λ x. Ahead c n x.1) t r (s f c) p (λ e. h.ends f c l room) }

  pub roomy-if : {A : Type 0} (t : Bool) (n : ℕ) (s u : Reading A) → Roomy P n s → Roomy P n u → Roomy P n (cond t s u)
  roomy-if true n s u hs hu = hs
  roomy-if false n s u hs hu = hu

  -- a field that may be absent
  pub roomy-present : (t : Bool) (n : ℕ) (s : Reading ℕ) → (t ≡ true → Roomy P n s) → Roomy P n (if_present t s)
  roomy-present true n s h = h refl
  roomy-present false n s h = roomy-more 0 n (found 0) (omega arith) (roomy-found 0)

  pub roomy-field : (step : Step) (n : ℕ) → listed n ≡ true → Roomy P n (field_in step n)
  roomy-field step n ok =
      record {
        ends = λ f c l room. let most = wanted-holds n ok (c.tail % 8) (omega arith) in
            let there : field_beyond (length f) c n ≡ false = le-ltb (length f) (bytes_wanted n (c.tail % 8) + c.head + c.tail / 8) (omega arith) in
            ends-accepted P (λ r. Ahead c n r.1) (field_in step n f c) (record { same = refl; near = omega arith })
            (ap (within step) (bits-taken f c n l ok there));
      }

  pub roomy-flag : (step : Step) → Roomy P 1 (flag_in step)
  roomy-flag step =
      record {
        ends = λ f c l room.
            let there = bit-there f c (omega arith) (omega arith) in
            ends-accepted P (λ r. Ahead c 1 r.1) (flag_in step f c) (record { same = refl; near = omega arith })
            (ap (λ a. within step (and_then a as_number)) (bit-taken f c l there));
      }
