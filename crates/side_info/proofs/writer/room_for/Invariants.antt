-- `writer::room_for` meets its contract: the fields that are left, from the tail reached, ask what all of them ask.
-- Assumes nothing.
use Prim.Native.Nat.{◌<◌, ◌^◌}
use mathlib.Core.Path.{◌≡◌}
use lib.ListN.{drop}
use Rattle.side_info.specs.Layout.{room_for}
use Rattle.side_info.proofs.writer.room_for.Given as goal

abbrev pub invariant-loop-width : goal.invariant-loop-width
invariant-loop-width l = (l.tail < 2 ^ 64) × (room_for l.bits l.tail (drop l.width-index l.fields) ≡ room_for l.bits l.place l.fields)
