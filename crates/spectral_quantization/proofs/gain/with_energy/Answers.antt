-- `gain::with_energy` meets its contract: `Energies.antt` has its four ways.
-- Assumes nothing.
use lib.Ieee.{round, of_bits}
use Rattle.spectral_quantization.specs.Single.{constant}
use Rattle.spectral_quantization.proofs.Energies.{below-first, below-later, far-above, near-above}
use Rattle.spectral_quantization.proofs.gain.with_energy.Goals as goal

pub returns-then-cost : goal.returns-then-cost
unfolding constant round of_bits
returns-then-cost c =
    let a = c.args in
    below-first a.level a.energy a.cost c.if-energy-level.true c.if-cost.true

pub returns-then-energy-level : goal.returns-then-energy-level
unfolding constant round of_bits
returns-then-energy-level c =
    let a = c.args in
    below-later a.level a.energy a.cost c.if-energy-level.true c.if-cost.false

pub returns-then-level-energy : goal.returns-then-level-energy
unfolding constant round of_bits
returns-then-level-energy c =
    let a = c.args in
    far-above a.level a.energy a.cost c.if-energy-level.false c.if-level-energy.true

pub returns : goal.returns
unfolding constant round of_bits
returns c =
    let a = c.args in
    near-above a.level a.energy a.cost c.if-energy-level.false c.if-level-energy.false
