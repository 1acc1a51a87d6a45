-- `inner::lay` meets its contract: what lies in both is copied, and behind it the list that is laid over stays.
-- Assumes nothing.
use native.Mathlib.Omega.{arith}
use Rattle.common.proofs.Laid.{laid-at_once}
use Rattle.common.proofs.inner.lay.Goals as goal

pub returns : goal.returns
returns g c =
    let to = c.args.to.now in
    let from = c.args.from.now in
    rw c.copy_from_slice.ensures.after (laid-at_once to from c.min-n.result (omega (arith, c.min-n.ensures)))
