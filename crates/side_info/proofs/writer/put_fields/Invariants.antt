-- `writer::put_fields` meets its contract: what is left to lay, into the frame as it is now, makes the frame that all of it asks for.
-- Assumes nothing.
use Prim.Native.Nat.{◌+◌}
use mathlib.Core.Path.{◌≡◌}
use lib.ListN.{length, drop}
use Rattle.side_info.specs.Layout.{length_of, put_fields}
use Rattle.side_info.proofs.writer.put_fields.Given as goal

abbrev pub invariant-loop-width : goal.invariant-loop-width
invariant-loop-width l = (length l.buf ≡ length l.initial.buf) × (l.at + length_of (drop l.width-index l.fields) ≡ l.place + length_of l.fields) × (put_fields l.buf l.at (drop l.width-index l.fields) ≡ put_fields l.initial.buf l.place l.fields)
