-- Each call has a tenth of the number.
-- Assumes nothing.
use Rattle.frame_text.proofs.put.+number.Given as goal

abbrev pub decreases-number : goal.decreases-number
decreases-number l = l.n
