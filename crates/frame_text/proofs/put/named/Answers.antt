-- The word, and the number behind it.
-- Assumes nothing.
use Rattle.frame_text.proofs.Laid.{laid_then}
use Rattle.frame_text.proofs.put.named.Goals as goal

pub returns-clause-text : goal.returns-clause-text
returns-clause-text g c = rw (← c.value.ensures) (laid_then c.word-next.ensures.text c.number.ensures.text)
