-- `estimate::pair_cost` meets its contract: the escapes, the symbol behind them, and a sign for each line that is not 0.
-- Assumes nothing.
use Prim.Native.Nat.{◌+◌, ◌≤◌, ◌<◌}
use mathlib.Core.Path.{refl}
use native.Mathlib.Omega.{arith}
use Rattle.contexts.specs.Contexts.{escape_symbol}
use Rattle.contexts.proofs.Escapes.{escaped-at, pair-symbol-low}
use Rattle.spectral_quantization.proofs.Costs.{pair-by}
use Rattle.spectral_quantization.proofs.estimate.pair_cost.Goals as goal
use Rattle.spectral_quantization.proofs.estimate.pair_cost.Goals.{After-pair_symbol-symbol, After-symbol_cost, Start}

-- at most 14 escapes, and the symbol is none
few : (c : Start) → c.args.n ≤ 14
few c = (escaped-at c.args.a c.args.b c.args.n (omega arith) (omega arith) c.requires.3).most

low : (c : After-pair_symbol-symbol) → c.pair_symbol-symbol.result < escape_symbol
low c = rw c.pair_symbol-symbol.ensures (pair-symbol-low c.args.a c.args.b (omega arith) (omega arith))

pub escapes_cost-requires : goal.escapes_cost-requires
escapes_cost-requires c = (c.requires.0, few (goal.at.escapes_cost-requires c).Start)

pub symbol_cost-requires : goal.symbol_cost-requires
symbol_cost-requires c = (c.requires.0, omega (arith, low (goal.at.symbol_cost-requires c).After-pair_symbol-symbol))

-- what stands before the signs
before-signs : (c : After-symbol_cost) → c.escapes_cost.result + c.symbol_cost.result ≤ 1040369
before-signs c = omega (arith, c.escapes_cost.ensures.most, few (goal.at.After-symbol_cost c).Start, c.symbol_cost.ensures.most)

pub overflow_add-result : goal.overflow_add-result
overflow_add-result c = record { fits = omega (arith, before-signs c) }

pub overflow_add-result-2 : goal.overflow_add-result-2
overflow_add-result-2 c = record { fits = omega (arith, before-signs (goal.at.overflow_add-result-2 c).After-symbol_cost, c.sign_cost.ensures.most) }

pub overflow_add-result-3 : goal.overflow_add-result-3
overflow_add-result-3 c = record { fits = omega (arith, before-signs (goal.at.overflow_add-result-3 c).After-symbol_cost, c.sign_cost.ensures.most, c.sign_cost-2.ensures.most) }

pub returns : goal.returns
returns c = let a = c.args in record { value = rw (pair-by a.tables.now.lookup.now a.tables.now.bits.now a.mode a.start a.a a.b a.n c.requires.3, c.escapes_cost.ensures.value, c.symbol_cost.ensures.value, c.sign_cost.ensures.value, c.sign_cost-2.ensures.value, c.pair_symbol-symbol.ensures) refl; most = omega (arith, before-signs (goal.at.returns c).After-symbol_cost, c.sign_cost.ensures.most, c.sign_cost-2.ensures.most) }
