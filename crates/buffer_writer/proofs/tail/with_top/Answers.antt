-- `tail::with_top` meets its contract: the code is the definition with the power of two at hand, and stays a byte.
-- Assumes nothing.
use native.Mathlib.Omega.{arith}
use Rattle.buffer_writer.proofs.Bytes.{with-top-lt}
use Rattle.buffer_writer.proofs.tail.with_top.Goals as goal

pub overflow_cast-result : goal.overflow_cast-result
overflow_cast-result c = rw (c.from.ensures, c.from-2.ensures, c.power-unit.ensures.0) (omega (arith, with-top-lt c.args.byte c.args.val c.args.num_bits c.ranges.val.fits c.requires.1))
