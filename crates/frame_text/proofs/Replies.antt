-- A refusal's text by its parts: in no step it is its number and values alone, and in a step the step stands behind them.
-- Assumes nothing.
use Prim.Native.Nat.{ℕ}
use mathlib.Core.List.{List, [], ◌++◌, append-nil}
use Rattle.common.specs.Reply.{Step, in_step, reply}
use Rattle.coding.specs.Coding.{refusal_of}
use Rattle.coding.specs.declared.Refusal.{Refusal}
use Rattle.coding.specs.declared.Refusal.TheVariants.{NoTailRoom, PastEnd, LowBeyondLimit}
use Rattle.frame_text.specs.Text.{named, spaced, step_text, reply_text}
use Rattle.frame_text.specs.Private.{Laid, numbers_text}
use Rattle.frame_text.proofs.Laid.{laid_none, laid_then}

module _ {b c : List ℕ} {at r : ℕ} where
  -- a refusal in no step, with values or without
  pub laid-plain : (n : ℕ) (values : List ℕ) → Laid b at (named " refused " n ++ spaced values) c r → Laid b at (reply_text (reply n values)) c r
  unfolding reply_text step_text
  laid-plain n values l = rw (append-nil (named " refused " n ++ spaced values)) l

  pub laid-bare : (n : ℕ) → Laid b at (named " refused " n) c r → Laid b at (reply_text (reply n [])) c r
  unfolding spaced
  laid-bare n l = laid-plain n [] (laid_then l laid_none)

  -- one that a step met
  pub laid-step : (e : Refusal) (p : Step) → Laid b at (numbers_text (refusal_of e) ++ step_text p) c r → Laid b at (reply_text (in_step p (refusal_of e))) c r
  unfolding reply_text numbers_text
  laid-step (NoTailRoom width place) p l = l
  laid-step (PastEnd head) p l = l
  laid-step (LowBeyondLimit low limit) p l = l
