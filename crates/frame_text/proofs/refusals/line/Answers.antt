-- The frame's number, its refusal, and a new line.
-- Assumes nothing.
use Rattle.frame_text.proofs.Laid.{laid_then}
use Rattle.frame_text.specs.Text.{refused_text}
use Rattle.frame_text.proofs.refusals.line.Goals as goal

pub returns : goal.returns
unfolding refused_text
returns c = record { text = laid_then (laid_then c.named-a.ensures.text c.error-b.ensures.text) c.word.ensures.text }
