-- `inner::nonzero` meets its contract: of the lines so far it has counted those that are not 0.
-- Assumes nothing.
use Rattle.std.proofs.Common.{◌≡◌, ◌≤◌, take}
use Rattle.residual_data.specs.Residual.{nonzero}
use Rattle.residual_data.proofs.inner.nonzero.Given as goal

abbrev pub invariant-loop-k : goal.invariant-loop-k
invariant-loop-k l = (l.n ≤ l.k) × (l.n ≡ nonzero (take l.k l.lines))
