-- The step and its two numbers behind the refusal.
-- Assumes nothing.
use Rattle.frame_text.proofs.Laid.{laid_then}
use Rattle.frame_text.proofs.refusals.in_step_at.Goals as goal

pub returns-clause-text : goal.returns-clause-text
returns-clause-text c = laid_then c.refusal-a.ensures.text (laid_then c.named-b.ensures.text c.named.ensures.text)
