-- `estimate::symbol_cost` meets its contract: a row of the lookup is at most 63, so its 17 entries lie within the 1,088.
-- Assumes nothing.
use Prim.Native.Nat.{◌≤◌}
use native.Mathlib.Omega.{arith}
use Rattle.common.proofs.Sets.{lookup-passed, bits-passed}
use Rattle.contexts.proofs.Lookups.{row_low}
use Rattle.spectral_quantization.proofs.estimate.symbol_cost.Goals as goal
use Rattle.spectral_quantization.proofs.estimate.symbol_cost.Goals.{After-row}

-- the row that was found
row-most : (c : After-row) → c.row.result ≤ 63
row-most c = omega (arith, c.row.ensures, row_low c.args.tables.now.lookup.now (lookup-passed _ c.args.tables.now.passed) c.args.start c.args.level)

pub overflow_mul-index : goal.overflow_mul-index
overflow_mul-index c = record { fits = omega (arith, row-most c) }

pub overflow_add-index : goal.overflow_add-index
overflow_add-index c = record { fits = omega (arith, row-most c) }

pub offset_bounds-tables-index : goal.offset_bounds-tables-index
offset_bounds-tables-index c = record { fits = omega (arith, row-most c) }

pub bounds-tables-index : goal.bounds-tables-index
bounds-tables-index c = omega (arith, row-most (goal.at.bounds-tables-index c).After-row, bits-passed _ c.args.tables.now.passed)
