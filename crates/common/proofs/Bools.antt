-- A conjunction of tests holds exactly if both do: how a chain of tests in a definition is taken apart and put together.
-- Assumes nothing.
use mathlib.Core.Path.{◌≡◌, refl, sym, ◌∙◌}
use mathlib.Core.Bool.{Bool, true, false, ◌&&◌, ◌||◌, not, true≢false, false≢true}
use mathlib.Core.Logic.{◌⊎◌, inl, inr}
use Prim.Native.Nat.{ℕ, ◌<◌}
use borrow.Author.Tests.{not-true, not-false, lt-ltb, ltb-true}
use lib.Dec.{ltb}

pub and_left : (a b : Bool) → (a && b) ≡ true → a ≡ true
and_left true b e = refl
and_left false b e = e

pub and_right : (a b : Bool) → (a && b) ≡ true → b ≡ true
and_right true b e = e
and_right false b e = absurd (false≢true e)

pub and_both : (a b : Bool) → a ≡ true → b ≡ true → (a && b) ≡ true
and_both true b p q = q
and_both false b p q = p

pub and-false : (a : Bool) → (a && false) ≡ false
and-false true = refl
and-false false = refl

pub and_assoc : (a b c : Bool) → (a && b && c) ≡ (a && (b && c))
and_assoc true b c = refl
and_assoc false b c = refl

pub and-first-fails : {a : Bool} (b : Bool) → a ≡ false → (a && b) ≡ false
and-first-fails b e = rw e refl

pub and-second-fails : (a : Bool) {b : Bool} → b ≡ false → (a && b) ≡ false
and-second-fails a e = rw (e, and-false a) refl

pub and-first-holds : {a : Bool} (b : Bool) → a ≡ true → (a && b) ≡ b
and-first-holds b e = rw e refl

-- what a test of a call's answer tells of the definition that the answer equals
pub refuted : {r d : Bool} → r ≡ d → not r ≡ true → d ≡ false
refuted {r} e t = sym e ∙ not-true r t

pub confirmed : {r d : Bool} → r ≡ d → not r ≡ false → d ≡ true
confirmed {r} e t = sym e ∙ not-false r t

pub or_split : (a b : Bool) → (a || b) ≡ true → (a ≡ true) ⊎ (b ≡ true)
or_split true b e = inl refl
or_split false b e = inr e

pub or-first : {a : Bool} (b : Bool) → a ≡ true → (a || b) ≡ true
or-first b e = rw e refl

pub or-second : (a : Bool) {b : Bool} → b ≡ true → (a || b) ≡ true
or-second true e = refl
or-second false e = e

pub or-first-fails : {a : Bool} (b : Bool) → a ≡ false → (a || b) ≡ b
or-first-fails b e = rw e refl

-- two tests that hold together are one
pub same_test : (a b : Bool) → (a ≡ true → b ≡ true) → (b ≡ true → a ≡ true) → a ≡ b
same_test true b p q = sym (p refl)
same_test false true p q = q refl
same_test false false p q = refl

pub same-ltb : (a b c d : ℕ) → (a < b → c < d) → (c < d → a < b) → ltb a b ≡ ltb c d
same-ltb a b c d p q =
    same_test (ltb a b) (ltb c d) (λ e. lt-ltb c d (p (ltb-true a b e))) (λ e. lt-ltb a b (q (ltb-true c d e)))

pub or-false : (a : Bool) {b : Bool} → b ≡ false → a ≡ (a || b)
or-false true e = refl
or-false false e = sym e

pub or-fails-second : (a b : Bool) → (a || b) ≡ false → b ≡ false
or-fails-second true b e = absurd (true≢false e)
or-fails-second false b e = e

pub not-passed : (t : Bool) → (t ≡ true → ⊥) → t ≡ false
not-passed true h = absurd (h refl)
not-passed false h = refl

-- by either answer of a test
pub by-test : {G : Type 0} (b : Bool) → (b ≡ true → G) → (b ≡ false → G) → G
by-test true f g = f refl
by-test false f g = g refl
