-- What an answer says decides the answer: an error that is found again from its reply is given by it.
-- Assumes nothing.
use Prim.Native.Nat.{ℕ}
use mathlib.Core.Bool.{cond}
use lib.Dec.{eqb}
use lib.ListN.{get_or}
use mathlib.Core.Path.{◌≡◌, refl, sym, ap, ◌∙◌}
use Rattle.std.specs.Prelude.{Result, Ok, Err}
use Rattle.common.specs.Reply.{Reply, Answer, accepted, refused, answer_by}
use Rattle.common.specs.Configuration.{reply_of}
use Rattle.common.specs.declared.configuration.ConfigurationError.{ConfigurationError}
use Rattle.common.specs.declared.configuration.ConfigurationError.TheVariants.{OutsideLimits, WrongLength}

-- a function that has a way back takes two values to one only if they are one
pub from_back : {A B : Type 0} (f : A → B) (back : B → A) → ((a : A) → back (f a) ≡ a) → (a b : A) → f a ≡ f b → a ≡ b
from_back f back h a b e = sym (h a) ∙ ap back e ∙ h b

-- and a result whose errors are found again from their replies is given by what it says
module _ {A E : Type 0} (says : E → Reply) (back : Reply → E) (h : (e : E) → back (says e) ≡ e) where
  result_back : Answer A → Result A E
  result_back (accepted a) = Ok a
  result_back (refused r) = Err (back r)

  pub result-unique : (a b : Result A E) → answer_by says a ≡ answer_by says b → a ≡ b
  unfolding result_back
  result-unique = from_back (answer_by says) result_back found
    where
      found : (r : Result A E) → result_back (answer_by says r) ≡ r
      found (Ok a) = refl
      found (Err e) = ap Err (h e)

reply_back : Reply → ConfigurationError
reply_back r = cond (eqb r.number 1) OutsideLimits (WrongLength (get_or r.values 0 0))

pub lines-unique : (a b : Result ℕ ConfigurationError) → answer_by reply_of a ≡ answer_by reply_of b → a ≡ b
unfolding reply_back
lines-unique = result-unique reply_of reply_back found
  where
    found : (e : ConfigurationError) → reply_back (reply_of e) ≡ e
    found OutsideLimits = refl
    found (WrongLength n) = refl
