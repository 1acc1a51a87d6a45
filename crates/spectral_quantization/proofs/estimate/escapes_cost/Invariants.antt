-- `estimate::escapes_cost` meets its contract: the cost so far is that of the levels passed, each at most 65,535 and 4,096.
-- Assumes nothing.
use Prim.Native.Nat.{◌*◌, ◌≤◌}
use mathlib.Core.Path.{◌≡◌}
use Rattle.spectral_quantization.specs.Estimate.{escapes_cost}
use Rattle.spectral_quantization.proofs.estimate.escapes_cost.Given as goal

abbrev pub invariant-loop-level : goal.invariant-loop-level
invariant-loop-level l = (l.cost ≤ 69631 * l.level) × (l.cost ≡ escapes_cost l.tables.lookup.now l.tables.bits.now l.mode l.start l.level)
