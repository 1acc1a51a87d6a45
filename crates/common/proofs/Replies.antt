-- A chain of checks: a refusal does not depend on the value behind it, a value is never a refusal, and what is accepted passed
-- every check on the way.
-- Assumes nothing.
use mathlib.Core.Path.{◌≡◌, refl, sym, ap, subst}
use mathlib.Core.Bool.{Bool, true, false, ◌&&◌}
use lib.Dec.{leb}
use Rattle.common.specs.Reply.{Step, Reply, Answer, accepted, refused, given, and_then, in_step, within}

module _ {A : Type 0} where
  abbrev is_accepted : Answer A → Type 0
  is_accepted (accepted a) = Unit {0}
  is_accepted (refused r) = ⊥

  pub no-refusal : {a : A} {r : Reply} → accepted a ≡ refused r → ⊥
  no-refusal e = subst is_accepted e tt

  -- the refusal of an answer, or another where there is none
  abbrev pub refusal_in : Reply → Answer A → Reply
  refusal_in other (accepted a) = other
  refusal_in other (refused r) = r

  -- the value of an answer, or another where there is none
  abbrev value_in : A → Answer A → A
  value_in other (accepted a) = a
  value_in other (refused r) = other

  pub accepted-same : {a b : A} → accepted a ≡ accepted b → a ≡ b
  accepted-same {a} e = ap (value_in a) e

  -- whatever is refused with one value is refused with another
  pub refusal-first : {B : Type 0} (t : Bool) (q r : Reply) (a : Answer A) (b : Answer B) → (a ≡ refused r → b ≡ refused r) → given t q a ≡ refused r → given t q b ≡ refused r
  refusal-first true q r a b h e = ap (λ x. refused (refusal_in q x)) e
  refusal-first false q r a b h e = h e

-- a chain that is accepted: so is its first reading, and the rest from there
pub then-split : {A B : Type 0} (a : Answer A) (k : A → Answer B) {y : B} → and_then a k ≡ accepted y → (x : A) × (a ≡ accepted x) × (k x ≡ accepted y)
then-split (accepted x) k e = (x, refl, e)
then-split (refused r) k e = absurd (no-refusal (sym e))

pub given-split : {A : Type 0} (t : Bool) (r : Reply) (a : Answer A) {y : A} → given t r a ≡ accepted y → (t ≡ false) × (a ≡ accepted y)
given-split true r a e = absurd (no-refusal (sym e))
given-split false r a e = (refl, e)

pub within-split : {A : Type 0} (s : Step) (a : Answer A) {y : A} → within s a ≡ accepted y → a ≡ accepted y
within-split s (accepted x) e = e
within-split s (refused r) e = absurd (no-refusal (sym e))

-- 9 to 11 get the step, with number and values as they were; any other refusal is left as it is
pub in-step-given : (s : Step) (r : Reply) → (leb 9 r.number && leb r.number 11) ≡ true → in_step s r ≡ record { number = r.number; values = r.values; step = s }
in-step-given s r e = rw e refl

pub in-step-kept : (s : Step) (r : Reply) → (leb 9 r.number && leb r.number 11) ≡ false → in_step s r ≡ r
in-step-kept s r e = rw e refl
