-- `tables::rows_pass` meets its contract: the rows left from row k on are what the whole asks, and fill the part to its end.
-- Assumes nothing.
use Prim.Native.Nat.{◌*◌, ◌-◌}
use mathlib.Core.Path.{◌≡◌}
use lib.ListN.{drop}
use Rattle.common.specs.Tables.{rows_pass}
use Rattle.common.proofs.tables.rows_pass.Given as goal

abbrev pub invariant-loop-k : goal.invariant-loop-k
invariant-loop-k l = rows_pass (l.rows - l.k) l.width (drop (l.k * l.width) l.part) ≡ rows_pass l.rows l.width l.part
