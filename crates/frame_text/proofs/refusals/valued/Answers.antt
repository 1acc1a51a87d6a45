-- The number, and its value behind it.
-- Assumes nothing.
use Rattle.frame_text.proofs.Replies.{laid-plain}
use Rattle.frame_text.proofs.refusals.valued.Goals as goal

pub returns-clause-text : goal.returns-clause-text
returns-clause-text g c = rw (← c.value.ensures) (laid-plain _ _ c.numbers.ensures.text)
