-- The number, and its values behind it.
-- Assumes nothing.
use Rattle.frame_text.proofs.Laid.{laid_then}
use Rattle.frame_text.proofs.refusals.numbers.Goals as goal

pub returns-clause-text : goal.returns-clause-text
returns-clause-text g c = laid_then c.named-next.ensures.text c.spaced.ensures.text
