-- `gain::cost_at` meets its contract (`Energies.antt`). Assumes nothing.
use mathlib.Core.Path.{◌≡◌, ◌∙◌}
use Rattle.std.specs.Prelude.{reverse, fold}
use lib.Ieee.{Float, round, of_bits}
use borrow.Author.Rules.{rules}
use Rattle.spectral_quantization.specs.Single.{constant}
use Rattle.spectral_quantization.specs.Private.{cost_with}
use Rattle.spectral_quantization.specs.declared.gain.Cost.{Cost}
use Rattle.spectral_quantization.proofs.Energies.{no_cost, walked_back}
use Rattle.spectral_quantization.proofs.gain.cost_at.Goals as goal

pub returns : goal.returns
unfolding constant round of_bits
returns c =
    let e : c.fold.result ≡ fold (λ (cost : Cost) (energy : Float). cost_with c.args.level energy cost) (no_cost c.args.level) (reverse c.args.energies.now) = search rules in
    e ∙ walked_back c.args.level c.args.energies.now
