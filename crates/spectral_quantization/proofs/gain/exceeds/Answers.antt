-- `gain::exceeds` meets its contract: the cost that was walked is held against what the target allows.
-- Assumes nothing.
use mathlib.Core.Path.{◌∙◌}
use lib.Ieee.{round, of_bits}
use Rattle.spectral_quantization.specs.Single.{constant}
use Rattle.spectral_quantization.proofs.Energies.{cost-over, cost-within, target-exact}
use Rattle.spectral_quantization.proofs.gain.exceeds.Goals as goal

pub int_to_float-target : goal.int_to_float-target
int_to_float-target c = target-exact c.args.target c.requires

pub returns-then-cost-target : goal.returns-then-cost-target
unfolding constant round of_bits
returns-then-cost-target c =
    let a = c.args in
    cost-over a.energies.now a.level a.target c.cost_at-cost.result c.cost_at-cost.ensures c.if-cost-target.true

pub returns-else-cost-target : goal.returns-else-cost-target
unfolding constant round of_bits
returns-else-cost-target c =
    let a = c.args in
    c.if-cost-target.false ∙ cost-within a.energies.now a.level a.target c.cost_at-cost.result c.cost_at-cost.ensures c.if-cost-target.false
