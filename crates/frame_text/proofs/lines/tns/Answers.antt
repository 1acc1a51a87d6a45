-- Each order, and behind it the part of the indices that is lent.
-- Assumes nothing.
use Rattle.common.proofs.Rows.{next_row}
use Rattle.frame_text.proofs.Laid.{laid_then}
use Rattle.frame_text.proofs.Texts.{laid-spaced}
use Rattle.frame_text.specs.Text.{tns_line}
use Rattle.frame_text.proofs.lines.tns.Goals as goal

pub returns-clause-text : goal.returns-clause-text
unfolding tns_line
returns-clause-text c = rw (← (next_row 8 c.args.second c.args.indices.now)) (laid_then (laid_then (laid_then (laid_then c.named-a.ensures.text (laid-spaced _ c.spaced-b.ensures.text)) c.named-c.ensures.text) (laid-spaced _ c.spaced-d.ensures.text)) c.word.ensures.text)
