-- `gain::gain_index` meets its contract: the index is at most 255, so it is a u8. Assumes nothing.
use native.Mathlib.Omega.{arith}
use Rattle.spectral_quantization.proofs.Turns.{searched-range}
use Rattle.spectral_quantization.proofs.gain.gain_index.Goals as goal

pub overflow_cast-result : goal.overflow_cast-result
overflow_cast-result c = omega (arith, c.search.ensures, searched-range c.args.energies.now c.from.result c.args.target)
