-- `writer::length_of` meets its contract: the bits counted and those of the fields that are left are all.
-- Assumes nothing.
use Prim.Native.Nat.{◌+◌}
use mathlib.Core.Path.{◌≡◌}
use lib.ListN.{drop}
use Rattle.side_info.specs.Layout.{length_of}
use Rattle.side_info.proofs.writer.length_of.Given as goal

abbrev pub invariant-loop-width : goal.invariant-loop-width
invariant-loop-width l = l.bits + length_of (drop l.width-index l.fields) ≡ length_of l.fields
