-- What an answer of the gain search says decides the answer: an index by its value, the refusals by their numbers.
-- Assumes nothing.
use Prim.Native.Nat.{ℕ}
use mathlib.Core.Path.{◌≡◌, refl}
use mathlib.Core.Bool.{cond}
use lib.Dec.{eqb}
use lib.ListN.{get_or}
use Rattle.std.specs.Prelude.{Result}
use Rattle.common.specs.Reply.{Reply, answer_by}
use Rattle.common.proofs.Unique.{result-unique}
use Rattle.spectral_quantization.specs.Gain.{reply_of}
use Rattle.spectral_quantization.specs.declared.gain.GainError.{GainError}
use Rattle.spectral_quantization.specs.declared.gain.GainError.TheVariants.{OutsideLimits, WrongCount}

abbrev error_back : Reply → GainError
error_back r = cond (eqb r.number 1) OutsideLimits (WrongCount (get_or r.values 0 0))

error-back : (e : GainError) → error_back (reply_of e) ≡ e
error-back OutsideLimits = refl
error-back (WrongCount count) = refl

pub gain-unique : (a b : Result ℕ GainError) → answer_by reply_of a ≡ answer_by reply_of b → a ≡ b
gain-unique = result-unique reply_of error_back error-back
