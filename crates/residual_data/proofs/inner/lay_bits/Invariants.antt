-- `inner::lay_bits` meets its contract: in front stand the bits that are laid, and behind them the places are as they were.
-- Assumes nothing.
use Rattle.std.proofs.Common.{◌≡◌, ◌++◌, drop}
use Rattle.residual_data.specs.Residual.{bits_from}
use Rattle.residual_data.proofs.inner.lay_bits.Given as goal

abbrev pub invariant-loop-i : goal.invariant-loop-i
invariant-loop-i l = l.bits ≡ bits_from l.buf l.tail l.i ++ drop l.i l.initial.bits
