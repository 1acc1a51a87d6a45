-- Each line behind those before it.
-- Assumes nothing.
use Rattle.frame_text.proofs.Laid.{laid_then}
use Rattle.frame_text.proofs.accepted.nine.Goals as goal

pub returns : goal.returns
returns c = laid_then (laid_then c.seven-a.ensures.text c.seed-b.ensures.text) c.used.ensures.text
