-- A line that is 0 lays nothing, and any other its place and value.
-- Assumes nothing.
use Rattle.residual_data.proofs.Lines.{same_line}
use Rattle.frame_text.proofs.Laid.{laid_none, laid_then}
use Rattle.frame_text.proofs.Texts.{line-none, line-there}
use Rattle.frame_text.proofs.lines.line.Goals as goal

pub returns-then-v-eq0-clause-text : goal.returns-then-v-eq0-clause-text
returns-then-v-eq0-clause-text c = rw (line-none c.args.k c.args.v c.ranges.v c.if-v-eq0.true) laid_none

pub returns-clause-text : goal.returns-clause-text
returns-clause-text c = rw (line-there c.args.k c.args.v c.ranges.v (same_line c.args.v c.requires.1) c.if-v-eq0.false) (laid_then (laid_then c.named-a.ensures.text c.word-b.ensures.text) c.signed.ensures.text)
