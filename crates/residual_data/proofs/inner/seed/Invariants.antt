-- `inner::seed` meets its contract: each line adds its magnitude times its index, and a sum cut to 32 bits on the way is cut the same.
-- Assumes nothing.
use Rattle.std.proofs.Common.{◌≡◌, ◌%◌, ◌^◌, take}
use Rattle.residual_data.specs.Sums.{weighted}
use Rattle.residual_data.proofs.inner.seed.Given as goal

abbrev pub invariant-loop-k : goal.invariant-loop-k
invariant-loop-k l = l.sum ≡ weighted 0 (take l.k l.lines) % 2 ^ 32
