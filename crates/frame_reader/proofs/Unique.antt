-- What the contract says decides the answer: a refusal is found again from its reply, an outcome from what it says, and the lists are
-- given as they are. Assumes nothing.
use Prim.Native.Nat.{ℕ}
use mathlib.Core.Path.{◌≡◌, refl, sym, ap, ◌∙◌}
use mathlib.Core.Bool.{cond}
use mathlib.Core.List.{List}
use lib.Dec.{eqb}
use lib.ListN.{get_or}
use Rattle.std.specs.Prelude.{Result}
use Rattle.common.specs.Reply.{Reply, Answer, answer_by}
use Rattle.common.proofs.Unique.{from_back, result-unique}
use Rattle.coding.specs.declared.Refusal.TheVariants.{NoTailRoom, PastEnd, LowBeyondLimit}
use Rattle.coding.specs.declared.Met.TheVariants.{Side, Start, Order, Coef, Symbol, Bit}
use Rattle.coding.proofs.Unique.{met_back, met-back}
use Rattle.frame_reader.specs.Frame.{Frame}
use Rattle.frame_reader.specs.Returned.{reply_of, told, indices_of, residual_of}
use Rattle.frame_reader.specs.declared.Numbers.{Numbers}
use Rattle.frame_reader.specs.declared.FrameError.{FrameError}
use Rattle.frame_reader.specs.declared.FrameError.TheVariants.{OutsideLimits, WrongLength, TablesFail, WrongCount, BandwidthIdxOutOfRange, LastNonZeroTupleGreaterThanYLen, PlcTriggerSns1OutOfRange, PlcTriggerSns2OutOfRange, Step, FourteenEscapes, NegativeResidualNumBits}
use Rattle.frame_reader.specs.declared.FrameRead.{FrameRead}

-- a refusal, found again by its number, and by its step
error_back : Reply → FrameError
error_back r =
    let first = get_or r.values 0 0 in
    cond (eqb r.number 1) OutsideLimits
    (cond (eqb r.number 2) (WrongLength first)
    (cond (eqb r.number 3) TablesFail
    (cond (eqb r.number 4) (WrongCount first)
    (cond (eqb r.number 5) (BandwidthIdxOutOfRange first)
    (cond (eqb r.number 6) (LastNonZeroTupleGreaterThanYLen first (get_or r.values 1 0))
    (cond (eqb r.number 7) (PlcTriggerSns1OutOfRange first)
    (cond (eqb r.number 8) (PlcTriggerSns2OutOfRange first)
    (cond (eqb r.number 12) NegativeResidualNumBits
    (cond (eqb r.number 19) (FourteenEscapes first) (Step (met_back r)))))))))))

error-back : (e : FrameError) → error_back (reply_of e) ≡ e
unfolding error_back
error-back OutsideLimits = refl
error-back (WrongLength len) = refl
error-back TablesFail = refl
error-back (WrongCount count) = refl
error-back (BandwidthIdxOutOfRange bandwidth) = refl
error-back (LastNonZeroTupleGreaterThanYLen lastnz ne) = refl
error-back (PlcTriggerSns1OutOfRange j) = refl
error-back (PlcTriggerSns2OutOfRange j) = refl
error-back (Step (Side (NoTailRoom w b))) = ap Step (met-back (Side (NoTailRoom w b)))
error-back (Step (Side (PastEnd h))) = ap Step (met-back (Side (PastEnd h)))
error-back (Step (Side (LowBeyondLimit l m))) = ap Step (met-back (Side (LowBeyondLimit l m)))
error-back (Step (Start (NoTailRoom w b))) = ap Step (met-back (Start (NoTailRoom w b)))
error-back (Step (Start (PastEnd h))) = ap Step (met-back (Start (PastEnd h)))
error-back (Step (Start (LowBeyondLimit l m))) = ap Step (met-back (Start (LowBeyondLimit l m)))
error-back (Step (Order f (NoTailRoom w b))) = ap Step (met-back (Order f (NoTailRoom w b)))
error-back (Step (Order f (PastEnd h))) = ap Step (met-back (Order f (PastEnd h)))
error-back (Step (Order f (LowBeyondLimit l m))) = ap Step (met-back (Order f (LowBeyondLimit l m)))
error-back (Step (Coef f k (NoTailRoom w b))) = ap Step (met-back (Coef f k (NoTailRoom w b)))
error-back (Step (Coef f k (PastEnd h))) = ap Step (met-back (Coef f k (PastEnd h)))
error-back (Step (Coef f k (LowBeyondLimit l m))) = ap Step (met-back (Coef f k (LowBeyondLimit l m)))
error-back (Step (Symbol p level (NoTailRoom w b))) = ap Step (met-back (Symbol p level (NoTailRoom w b)))
error-back (Step (Symbol p level (PastEnd h))) = ap Step (met-back (Symbol p level (PastEnd h)))
error-back (Step (Symbol p level (LowBeyondLimit l m))) = ap Step (met-back (Symbol p level (LowBeyondLimit l m)))
error-back (Step (Bit p level (NoTailRoom w b))) = ap Step (met-back (Bit p level (NoTailRoom w b)))
error-back (Step (Bit p level (PastEnd h))) = ap Step (met-back (Bit p level (PastEnd h)))
error-back (Step (Bit p level (LowBeyondLimit l m))) = ap Step (met-back (Bit p level (LowBeyondLimit l m)))
error-back (FourteenEscapes pair) = refl
error-back NegativeResidualNumBits = refl

pub error-unique : (a b : FrameError) → reply_of a ≡ reply_of b → a ≡ b
error-unique = from_back reply_of error_back error-back

pub outcome-unique : (a b : Result Numbers FrameError) → answer_by reply_of a ≡ answer_by reply_of b → a ≡ b
outcome-unique = result-unique reply_of error_back error-back

made : Result Numbers FrameError → List ℕ → List ℕ → FrameRead
made o indices residual = record { outcome = o; indices = indices; residual = residual }

-- two answers that keep the contract are one
pub read-unique : (reading : ℕ) (fr : Answer Frame) (a b : FrameRead) →
    answer_by reply_of a.outcome ≡ told reading fr → a.indices ≡ indices_of fr → a.residual ≡ residual_of fr →
    answer_by reply_of b.outcome ≡ told reading fr → b.indices ≡ indices_of fr → b.residual ≡ residual_of fr →
    a ≡ b
unfolding made
read-unique reading fr a b oa ia ra ob ib rb =
    ap (λ o. made o a.indices a.residual) (outcome-unique a.outcome b.outcome (oa ∙ sym ob))
    ∙ ap (λ l. made b.outcome l a.residual) (ia ∙ sym ib)
    ∙ ap (made b.outcome b.indices) (ra ∙ sym rb)
