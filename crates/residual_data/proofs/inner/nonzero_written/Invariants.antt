-- `inner::nonzero_written` meets its contract: of the lines so far it has counted those that are not 0.
-- Assumes nothing.
use Rattle.std.proofs.Common.{◌≡◌, ◌≤◌, take}
use Rattle.residual_data.specs.Residual.{nonzero}
use Rattle.residual_data.proofs.inner.nonzero_written.Given as goal

abbrev pub invariant-loop-line : goal.invariant-loop-line
invariant-loop-line l = (l.n ≤ l.line-index) × (l.n ≡ nonzero (take l.line-index l.lines))
