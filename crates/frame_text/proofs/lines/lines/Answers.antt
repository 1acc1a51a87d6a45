-- The count of nonzero lines, then each of them.
-- Assumes nothing.
use Rattle.frame_text.proofs.Texts.{counted}
use Rattle.frame_text.proofs.Laid.{laid_then}
use Rattle.frame_text.specs.Text.{lines_line}
use Rattle.frame_text.proofs.lines.lines.Goals as goal

pub returns-clause-text : goal.returns-clause-text
unfolding lines_line
returns-clause-text c = rw (← (counted c.nonzero-count.result c.args.lines.now c.nonzero-count.ensures.0)) (laid_then (laid_then c.named-a.ensures.text c.each-b.ensures.text) c.word.ensures.text)
