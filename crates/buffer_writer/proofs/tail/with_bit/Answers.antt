-- `tail::with_bit` meets its contract: the code is the definition with the power of two at hand, and stays a byte.
-- Assumes nothing.
use native.Mathlib.Omega.{arith}
use Rattle.buffer_writer.proofs.Bytes.{with-bit-lt}
use Rattle.buffer_writer.proofs.tail.with_bit.Goals as goal

pub overflow_cast-result : goal.overflow_cast-result
overflow_cast-result c = rw (c.from-wide.ensures, c.power-unit.ensures.0) (omega (arith, with-bit-lt c.args.byte c.args.k c.args.bit c.ranges.byte.fits c.requires.0 c.requires.1))
