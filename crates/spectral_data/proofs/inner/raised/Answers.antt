-- `inner::raised` meets its contract: a part of at most 4 at a level of at most 14 loses no bit.
-- Assumes nothing.
use Rattle.spectral_data.proofs.Sizes.{raised-most}
use native.Mathlib.Omega.{arith}
use Rattle.spectral_data.proofs.inner.raised.Goals as goal

pub returns-clause-most : goal.returns-clause-most
returns-clause-most c = omega (arith, raised-most c.args.part c.args.level c.requires.0 c.requires.1)
