-- What the estimate answers decides the result: each refusal is found again by its number. Assumes nothing.
use mathlib.Core.Path.{◌≡◌, refl}
use mathlib.Core.Bool.{cond}
use lib.Dec.{eqb}
use lib.ListN.{get_or}
use Rattle.std.specs.Prelude.{Result}
use Rattle.common.specs.Reply.{Reply, answer_by}
use Rattle.common.proofs.Unique.{result-unique}
use Rattle.spectral_quantization.specs.Estimate.{reply_of}
use Rattle.spectral_quantization.specs.declared.estimate.BitConsumption.{BitConsumption}
use Rattle.spectral_quantization.specs.declared.estimate.EstimateError.{EstimateError}
use Rattle.spectral_quantization.specs.declared.estimate.EstimateError.TheVariants.{OutsideLimits, WrongLength, TablesFail, WrongCount}

abbrev error_back : Reply → EstimateError
error_back r =
    cond (eqb r.number 1) OutsideLimits
    (cond (eqb r.number 2) (WrongLength (get_or r.values 0 0))
    (cond (eqb r.number 3) TablesFail (WrongCount (get_or r.values 0 0))))

error-back : (e : EstimateError) → error_back (reply_of e) ≡ e
error-back OutsideLimits = refl
error-back (WrongLength bytes) = refl
error-back TablesFail = refl
error-back (WrongCount count) = refl

pub estimated-unique : (a b : Result BitConsumption EstimateError) → answer_by reply_of a ≡ answer_by reply_of b → a ≡ b
estimated-unique = result-unique reply_of error_back error-back
