-- `ending::ending` meets its contract: the floor of the range's logarithm is 16 to 23, so the difference is exact. Assumes nothing.
use native.Mathlib.Omega.{arith}
use Rattle.common.proofs.Lasts.{log-range}
use Rattle.range_encoder.proofs.ending.ending.Goals as goal

pub overflow_sub-bits : goal.overflow_sub-bits
overflow_sub-bits c = omega (arith, c.floor_log2-bits.ensures, (log-range c.args.st.range c.requires.1 c.requires.0.range-fits).1)
