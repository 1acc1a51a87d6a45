-- `vectors::run` is safe: both buffers keep their lengths, and what is lent stands in its own. Assumes nothing.
use Prim.Native.Nat.{◌≤◌}
use mathlib.Core.Path.{◌≡◌}
use lib.ListN.{length}
use Rattle.vectors.proofs.run.Given as goal

abbrev pub invariant-loop : goal.invariant-loop
invariant-loop g l = (length l.buf ≡ 65536) × (length l.lent ≡ 65536) × (l.tally.lent ≤ 65536)
