-- `flat::fill_rows` meets its contract: the entries before place i are those of the rows, and a turn adds the one at i.
-- Assumes nothing.
use mathlib.Core.Path.{◌≡◌}
use lib.ListN.{take}
use Rattle.common.specs.Flat.{tabulate, in_rows}
use Rattle.common.proofs.flat.fill_rows.Given as goal

abbrev pub invariant-loop-i : goal.invariant-loop-i
invariant-loop-i l = take l.i l.part ≡ tabulate (in_rows l.width l.first l.rest) 0 l.i
