-- `row::any` meets its contract: so far as it has come, the sum brings the cumulative to the one there. Assumes nothing.
use Prim.Native.Nat.{◌+◌}
use mathlib.Core.Path.{◌≡◌}
use Rattle.common.specs.Tables.{cumulative}
use Rattle.range_decoder.proofs.row.any.Given as goal

abbrev pub invariant-loop-frequency : goal.invariant-loop-frequency
invariant-loop-frequency l = cumulative l.row l.at + l.sum ≡ cumulative l.row (l.at + l.frequency-index)
