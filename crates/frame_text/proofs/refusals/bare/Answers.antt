-- The number alone.
-- Assumes nothing.
use Rattle.frame_text.proofs.Replies.{laid-bare}
use Rattle.frame_text.proofs.refusals.bare.Goals as goal

pub returns-clause-text : goal.returns-clause-text
returns-clause-text c = laid-bare _ c.named.ensures.text
