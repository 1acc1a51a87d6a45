-- Each line behind the one before it.
-- Assumes nothing.
use Rattle.frame_text.proofs.Laid.{laid_then}
use Rattle.frame_text.proofs.accepted.four.Goals as goal

pub returns-clause-text : goal.returns-clause-text
returns-clause-text c = laid_then (laid_then (laid_then c.first-a.ensures.text c.side-b.ensures.text) c.pitch-c.ensures.text) c.sns.ensures.text
