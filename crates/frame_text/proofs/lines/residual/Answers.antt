-- The count is the length of the part that is lent.
-- Assumes nothing.
use lib.Seq.{length-take-le}
use Rattle.frame_text.proofs.Laid.{laid_then}
use Rattle.frame_text.proofs.Texts.{laid-spaced}
use Rattle.frame_text.specs.Text.{residual_line}
use Rattle.frame_text.proofs.lines.residual.Goals as goal

pub returns-clause-text : goal.returns-clause-text
unfolding residual_line
returns-clause-text c = rw (length-take-le c.args.count c.args.bits.now c.requires.1) (laid_then (laid_then c.named-a.ensures.text (laid-spaced _ c.spaced-b.ensures.text)) c.word.ensures.text)
