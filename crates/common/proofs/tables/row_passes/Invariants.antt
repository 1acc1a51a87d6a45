-- `tables::row_passes` meets its contract: what is left to judge behind place i, with the total so far, is what the whole row
-- asks. The total stays at most 1,024, so it never overflows, and an entry that passes what is left ends the run.
use Prim.Native.Nat.{◌≤◌}
use mathlib.Core.Path.{◌≡◌}
use lib.ListN.{drop}
use Rattle.common.specs.Tables.{row_passes}
use Rattle.common.proofs.Rows.{row_from}
use Rattle.common.proofs.tables.row_passes.Given as goal

abbrev pub invariant-loop-frequency : goal.invariant-loop-frequency
invariant-loop-frequency l = (l.total ≤ 1024) × (row_from l.total (drop l.frequency-index l.row) ≡ row_passes l.row)
