-- `inner::bits_for` meets its contract: the range's logarithm is at most 23, so the difference is exact. Assumes nothing.
use native.Mathlib.Omega.{arith}
use Rattle.common.proofs.Lasts.{log-range}
use Rattle.range_encoder.proofs.inner.bits_for.Goals as goal

pub overflow_sub-result : goal.overflow_sub-result
overflow_sub-result c = omega (arith, c.floor_log2.ensures, (log-range c.args.range c.requires.1 c.requires.2).1)
