-- `inner::signs` meets its contract: both magnitudes keep their bounds, so they fit, and each line has its sign by the definition.
-- Assumes nothing.
use Rattle.spectral_data.proofs.Sizes.{first-most, second-most}
use Rattle.spectral_data.specs.Private.{levels_in}
use native.Mathlib.Omega.{arith}
use Rattle.spectral_data.proofs.inner.signs.Goals as goal

pub signed_line-requires : goal.signed_line-requires
signed_line-requires c = (c.requires.0, omega (arith, first-most (levels_in c.args.read) c.requires.1, c.raised.ensures.value))

pub signed_line-requires-2 : goal.signed_line-requires-2
signed_line-requires-2 c = (c.requires.0, omega (arith, second-most (levels_in c.args.read) c.requires.1, c.raised-2.ensures.value))
