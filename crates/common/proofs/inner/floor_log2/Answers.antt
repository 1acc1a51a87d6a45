-- `inner::floor_log2` meets its contract: 31 less the leading zero bits of a number that is not 0 is the place of its top bit.
-- Assumes nothing.
use native.Mathlib.Omega.{arith}
use Rattle.common.proofs.Lasts.{log-zeros, zeros-most}
use Rattle.common.proofs.inner.floor_log2.Goals as goal

pub overflow_sub-result : goal.overflow_sub-result
overflow_sub-result c = zeros-most c.args.n (omega arith) (omega arith)

pub returns : goal.returns
returns c = log-zeros c.args.n (omega arith) (omega arith)
