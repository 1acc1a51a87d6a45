-- Each part behind the one before it.
-- Assumes nothing.
use Rattle.frame_text.proofs.Laid.{laid_then}
use Rattle.frame_text.specs.Text.{side_line}
use Rattle.frame_text.proofs.lines.side.Goals as goal

pub returns-clause-text : goal.returns-clause-text
unfolding side_line
returns-clause-text c = laid_then (laid_then (laid_then (laid_then (laid_then c.named-a.ensures.text c.named-b.ensures.text) c.named-c.ensures.text) c.named-d.ensures.text) c.named-e.ensures.text) c.word.ensures.text
