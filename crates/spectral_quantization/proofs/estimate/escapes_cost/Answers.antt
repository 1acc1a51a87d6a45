-- `estimate::escapes_cost` meets its contract: the cost so far is that of the levels passed, each at most 65,535 and 4,096.
-- Assumes nothing.
use mathlib.Core.Path.{refl, sym}
use native.Mathlib.Omega.{arith}
use Rattle.spectral_quantization.proofs.Costs.{escapes-none, escapes-more}
use Rattle.spectral_quantization.proofs.estimate.escapes_cost.Goals as goal

pub loop-level-init : goal.loop-level-init
loop-level-init c =
    let a = c.args in
    (omega arith, sym (escapes-none a.tables.now.lookup.now a.tables.now.bits.now a.mode a.start))

pub loop-level-preserved : goal.loop-level-preserved
loop-level-preserved c =
    let a = c.args in (
      omega (arith, c.symbol_cost.ensures.most, c.tail_cost.ensures.most, c.loop-level.invariant.0),
      rw (escapes-more a.tables.now.lookup.now a.tables.now.bits.now a.mode a.start c.loop-level.level, ← c.loop-level.invariant.1, c.symbol_cost.ensures.value, c.tail_cost.ensures.value) refl,
    )
