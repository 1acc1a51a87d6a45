-- `tables::rows_pass` meets its contract: the rows left from row k on are what the whole asks, and fill the part to its end.
-- Assumes nothing.
use Prim.Native.Nat.{◌+◌, ◌*◌, ◌-◌, ◌≤◌}
use mathlib.Core.Path.{refl, sym, ◌∙◌}
use native.Mathlib.Omega.{arith}
use native.Mathlib.Nat.{zero-mul, sub-zero}
use lib.ListN.{length, drop}
use Rattle.common.proofs.Rows.{row-stops, row-goes_on, rows_end, row_fits}
use Rattle.common.proofs.tables.rows_pass.Goals as goal
use Rattle.common.proofs.tables.rows_pass.Goals.{In-loop-k}

-- row k ends within the part
fits : (c : In-loop-k) → c.loop-k.k * c.args.width + c.args.width ≤ length c.args.part.now
fits c = rw c.requires (row_fits c.loop-k.k c.args.rows c.args.width c.loop-k-test.true)

pub loop-k-init : goal.loop-k-init
loop-k-init c = rw (zero-mul, sub-zero) refl

pub overflow_mul-at : goal.overflow_mul-at
overflow_mul-at c = record { fits = omega (arith, fits c) }

pub returns-then-not-row_passes : goal.returns-then-not-row_passes
returns-then-not-row_passes c =
    let a = c.args in
    sym (row-stops c.loop-k.k a.rows a.width a.part.now c.loop-k-test.true c.row_passes.result c.row_passes.ensures c.if-not-row_passes.true) ∙ c.loop-k.invariant

pub loop-k-preserved : goal.loop-k-preserved
loop-k-preserved c =
    let a = c.args in
    sym (row-goes_on c.loop-k.k a.rows a.width a.part.now c.loop-k-test.true c.row_passes.result c.row_passes.ensures c.if-not-row_passes.false) ∙ c.loop-k.invariant

pub returns : goal.returns
returns c = sym (rows_end (c.args.rows - c.loop-k.k) c.args.width (drop (c.loop-k.k * c.args.width) c.args.part.now) (omega arith)) ∙ c.loop-k.invariant
