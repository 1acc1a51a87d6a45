-- Each refusal has its number, and its values behind it.
-- Assumes nothing.
use Rattle.frame_text.specs.Private.{numbers_text}
use Rattle.frame_text.proofs.refusals.refusal.Goals as goal

pub returns-in-NoTailRoom-clause-text : goal.returns-in-NoTailRoom-clause-text
unfolding numbers_text
returns-in-NoTailRoom-clause-text c = rw c.in-NoTailRoom.is c.numbers.ensures.text

pub returns-in-PastEnd-clause-text : goal.returns-in-PastEnd-clause-text
unfolding numbers_text
returns-in-PastEnd-clause-text c = rw c.in-PastEnd.is c.numbers-in-PastEnd.ensures.text

pub returns-in-LowBeyondLimit-clause-text : goal.returns-in-LowBeyondLimit-clause-text
unfolding numbers_text
returns-in-LowBeyondLimit-clause-text c = rw c.in-LowBeyondLimit.is c.numbers-in-LowBeyondLimit.ensures.text
