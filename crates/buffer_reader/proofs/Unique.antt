-- What an answer says decides the answer: each error is found again from its reply, so a contract that gives the reply gives
-- the result. Assumes nothing.
use mathlib.Core.Path.{◌≡◌, refl}
use mathlib.Core.Bool.{cond}
use Rattle.std.specs.Prelude.{Result}
use lib.Dec.{eqb}
use lib.ListN.{get_or}
use Rattle.common.specs.Reply.{Reply, answer_by}
use Rattle.common.proofs.Unique.{from_back, result-unique}
use Rattle.buffer_reader.specs.Reads.{reply_of}
use Rattle.buffer_reader.specs.declared.BufferError.{BufferError}
use Rattle.buffer_reader.specs.declared.BufferError.TheVariants.{WrongLength, WidthNotListed, NoTailRoom, PastEnd}

-- a refusal, found again by its number
unfoldable pub error_back : Reply → BufferError
error_back r =
    cond (eqb r.number 2) (WrongLength (get_or r.values 0 0))
    (cond (eqb r.number 17) (WidthNotListed (get_or r.values 0 0))
    (cond (eqb r.number 9) (NoTailRoom (get_or r.values 0 0) (get_or r.values 1 0)) (PastEnd (get_or r.values 0 0))))

pub error-back : (e : BufferError) → error_back (reply_of e) ≡ e
unfolding error_back
error-back (WrongLength n) = refl
error-back (WidthNotListed n) = refl
error-back (NoTailRoom n b) = refl
error-back (PastEnd h) = refl

pub error-unique : (a b : BufferError) → reply_of a ≡ reply_of b → a ≡ b
error-unique = from_back reply_of error_back error-back

-- every read and every write of a buffer
pub buffer-unique : {A : Type 0} (a b : Result A BufferError) → answer_by reply_of a ≡ answer_by reply_of b → a ≡ b
buffer-unique = result-unique reply_of error_back error-back
