-- One character is stored if its place is in the buffer; past the end a store would change nothing.
-- Assumes nothing.
use Rattle.frame_text.proofs.Laid.{laid_one, laid-past}
use Rattle.frame_text.proofs.put.byte.Goals as goal
use Rattle.frame_text.proofs.put.byte.Goals.{then-at-out, else-at-out}

pub returns-clause-text : goal.returns-clause-text
returns-clause-text c =
    elim c.if-at-out.branch [ then-at-out w ↦ rw w.out-is (laid_one c.args.b) | else-at-out w ↦ rw w.out-is (laid-past c.args.b w.if-at-out.false) ]
