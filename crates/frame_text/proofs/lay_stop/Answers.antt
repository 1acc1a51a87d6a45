-- A word, a number and a new line, from the front.
-- Assumes nothing.
use Rattle.frame_text.proofs.Laid.{laid_then}
use Rattle.frame_text.specs.Text.{stop_text}
use Rattle.frame_text.proofs.Whole.{laid-front}
use Rattle.frame_text.proofs.lay_stop.Goals as goal

pub returns : goal.returns
unfolding stop_text
returns c = let p = laid-front (laid_then c.named-next.ensures.text c.word.ensures.text) in record { size = p.0; lent = p.1 }
