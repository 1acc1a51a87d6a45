-- `flat::fill_lookup` meets its contract: the entries before place i are the flat ones, and a turn adds the one at i.
-- Assumes nothing.
use mathlib.Core.Path.{◌≡◌}
use lib.ListN.{take}
use Rattle.common.specs.Flat.{flat_lookup}
use Rattle.common.proofs.flat.fill_lookup.Given as goal

abbrev pub invariant-loop-i : goal.invariant-loop-i
invariant-loop-i l = take l.i l.lookup ≡ flat_lookup l.i
