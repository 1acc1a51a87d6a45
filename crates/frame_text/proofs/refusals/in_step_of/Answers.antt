-- The step behind the refusal.
-- Assumes nothing.
use Rattle.frame_text.proofs.Laid.{laid_then}
use Rattle.frame_text.proofs.refusals.in_step_of.Goals as goal

pub returns-clause-text : goal.returns-clause-text
returns-clause-text c = laid_then c.refusal-next.ensures.text c.named.ensures.text
