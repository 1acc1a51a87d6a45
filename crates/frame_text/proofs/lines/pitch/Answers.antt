-- Each part behind the one before it.
-- Assumes nothing.
use Rattle.frame_text.proofs.Laid.{laid_then}
use Rattle.frame_text.specs.Text.{pitch_line}
use Rattle.frame_text.proofs.lines.pitch.Goals as goal

pub returns-clause-text : goal.returns-clause-text
unfolding pitch_line
returns-clause-text c = laid_then (laid_then (laid_then c.named-a.ensures.text c.named-b.ensures.text) c.named-c.ensures.text) c.word.ensures.text
