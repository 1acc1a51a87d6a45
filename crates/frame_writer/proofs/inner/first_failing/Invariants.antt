-- `inner::first_failing` meets its contract: no line before the place fails, so the first from there on is the first of all.
-- Assumes nothing.
use Prim.Native.Nat.{◌-◌}
use mathlib.Core.Path.{◌≡◌}
use lib.ListN.{length}
use Rattle.contexts.specs.First.{first_from}
use Rattle.frame_writer.specs.Private.{fails_at}
use Rattle.frame_writer.proofs.inner.first_failing.Given as goal

abbrev pub invariant-loop-k : goal.invariant-loop-k
invariant-loop-k l = first_from (fails_at l.lines l.lastnz) l.k (length l.lines - l.k) ≡ first_from (fails_at l.lines l.lastnz) 0 (length l.lines)
