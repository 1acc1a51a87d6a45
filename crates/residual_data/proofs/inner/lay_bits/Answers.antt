-- `inner::lay_bits` meets its contract: in front stand the bits that are laid, and behind them the places are as they were.
-- Assumes nothing.
use Rattle.std.proofs.Common.{arith}
use Rattle.residual_data.proofs.Residuals.{bits_none, bits-one}
use Rattle.residual_data.proofs.inner.lay_bits.Goals as goal

pub loop-i-init : goal.loop-i-init
loop-i-init c = bits_none c.args.buf.now c.args.tail c.args.bits.now

pub loop-i-preserved : goal.loop-i-preserved
loop-i-preserved c =
    let a = c.args in
    rw c.bit_at.ensures (bits-one a.buf.now a.tail c.loop-i.i c.loop-i.bits a.bits.now (omega arith) c.loop-i.invariant)
