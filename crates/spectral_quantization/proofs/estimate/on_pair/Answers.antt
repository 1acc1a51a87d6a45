-- `estimate::on_pair` meets its contract: each part of the step found what the definition says, and the target decides what is kept.
-- Assumes nothing.
use Prim.Native.Nat.{◌*◌, ◌<◌}
use mathlib.Core.Path.{refl, sym, ◌∙◌}
use Rattle.contexts.proofs.Lookups.{start-low}
use Rattle.spectral_quantization.proofs.Runs.{Found, pair-behind}
use Rattle.spectral_quantization.proofs.estimate.on_pair.Goals as goal
use Rattle.spectral_quantization.proofs.estimate.on_pair.Goals.{After-context_behind, After-lookup_start-start}

-- the lookup of the pair begins below 1,024
start-below : (c : After-lookup_start-start) → c.lookup_start-start.result < 1024
start-below c =
    let a = c.args in
    rw c.lookup_start-start.ensures (start-low a.s.context a.frame.rate a.frame.ne (2 * a.p) c.requires.4.context c.requires.0)

-- what the parts of the step found
found : (c : After-context_behind) →
    let a = c.args in
    Found a.tables.now.lookup.now a.tables.now.bits.now a.frame a.p a.a a.b a.s c.pair_cost.result c.least_bits.result c.context_behind.result
found c =
    record {
      small = c.requires.2;
      small₂ = c.requires.3;
      come = c.requires.4;
      cost-is = c.pair_cost.ensures.value ∙ rw c.lookup_start-start.ensures refl;
      cost-most = c.pair_cost.ensures.most;
      least-is = c.least_bits.ensures.value;
      least-most = c.least_bits.ensures.most;
      context-is = c.context_behind.ensures;
    }

pub pair_cost-requires : goal.pair_cost-requires
pair_cost-requires c = (start-below c, c.requires.2, c.requires.3, c.escapes-n.ensures)

pub returns-then-keeps : goal.returns-then-keeps
returns-then-keeps c = let p = pair-behind (found (goal.at.returns-then-keeps c).After-context_behind) (sym c.keeps.ensures ∙ c.if-keeps.true) in record { value = p.0; bounds = p.1 }

pub returns-else-keeps : goal.returns-else-keeps
returns-else-keeps c = let p = pair-behind (found (goal.at.returns-else-keeps c).After-context_behind) (sym c.keeps.ensures ∙ c.if-keeps.false) in record { value = p.0; bounds = p.1 }
