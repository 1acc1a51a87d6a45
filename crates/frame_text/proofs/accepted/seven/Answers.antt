-- Each line behind those before it.
-- Assumes nothing.
use Rattle.frame_text.proofs.Laid.{laid_then}
use Rattle.frame_text.proofs.accepted.seven.Goals as goal

pub returns-clause-text : goal.returns-clause-text
returns-clause-text c = laid_then (laid_then (laid_then c.four-a.ensures.text c.tns-b.ensures.text) c.lines-c.ensures.text) c.residual.ensures.text
