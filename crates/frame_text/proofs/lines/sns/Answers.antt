-- The six indices, then the gain and the shape.
-- Assumes nothing.
use Rattle.frame_text.proofs.Laid.{laid_then}
use Rattle.frame_text.specs.Text.{sns_line}
use Rattle.frame_text.proofs.lines.sns.Goals as goal

pub returns-clause-text : goal.returns-clause-text
unfolding sns_line
returns-clause-text c = laid_then (laid_then (laid_then c.sns_indices-a.ensures.text c.named-b.ensures.text) c.named-c.ensures.text) c.word.ensures.text
