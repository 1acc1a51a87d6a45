-- `inner::used_bits` meets its contract: the range's logarithm is at most 23, so the difference is never cut.
-- Assumes nothing.
use Rattle.std.proofs.Common.{arith}
use Rattle.common.proofs.Lasts.{log-range}
use Rattle.residual_data.proofs.inner.used_bits.Goals as goal

pub overflow_sub-result-2 : goal.overflow_sub-result-2
overflow_sub-result-2 c = omega (arith, log-range c.args.range (omega arith) (omega arith))
