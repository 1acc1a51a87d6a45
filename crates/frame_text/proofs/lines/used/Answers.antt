-- Each part behind the one before it; what is used is within the frame, so the difference is exact.
-- Assumes nothing.
use Rattle.frame_text.proofs.Laid.{laid_then}
use Rattle.frame_text.specs.Text.{used_line}
use Rattle.frame_text.proofs.lines.used.Goals as goal

pub returns : goal.returns
unfolding used_line
returns c = record { text = rw (← c.used_bits-used.ensures) (laid_then (laid_then c.named-a.ensures.text c.named-b.ensures.text) c.word.ensures.text) }
