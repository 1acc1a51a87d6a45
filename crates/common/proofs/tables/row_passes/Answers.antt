-- `tables::row_passes` meets its contract: what is left to judge behind place i, with the total so far, is what the whole row
-- asks. The total stays at most 1,024, so it never overflows, and an entry that passes what is left ends the run.
use mathlib.Core.Path.{sym, ◌∙◌}
use native.Mathlib.Omega.{arith}
use Rattle.common.proofs.Rows.{row-start, row-end, row_zero, row_next, row-over}
use Rattle.common.proofs.tables.row_passes.Goals as goal
use Rattle.common.proofs.tables.row_passes.Goals.{then-frequency-eq0-via-then-frequency-eq0, then-frequency-eq0-via-else-frequency-eq0+then-total-frequency}

pub loop-frequency-init : goal.loop-frequency-init
loop-frequency-init c = (omega arith, row-start c.args.row.now)

pub returns-then-frequency-eq0 : goal.returns-then-frequency-eq0
returns-then-frequency-eq0 c =
    elim c.then-frequency-eq0.branch [
      | then-frequency-eq0-via-then-frequency-eq0 w ↦ sym (row_zero c.loop-frequency.total c.loop-frequency.frequency-index c.args.row.now (omega arith) w.if-frequency-eq0.true) ∙ c.loop-frequency.invariant.1
      | then-frequency-eq0-via-else-frequency-eq0+then-total-frequency w ↦ sym (row-over c.loop-frequency.total c.loop-frequency.frequency-index c.args.row.now (omega arith) (omega arith)) ∙ c.loop-frequency.invariant.1
    ]

pub loop-frequency-preserved : goal.loop-frequency-preserved
loop-frequency-preserved c = (
  omega arith,
  sym (row_next c.loop-frequency.total c.loop-frequency.frequency-index c.args.row.now (omega arith) c.if-frequency-eq0.false) ∙ c.loop-frequency.invariant.1,
)

pub returns : goal.returns
returns c =
    sym (row-end c.loop-frequency.total c.loop-frequency.frequency-index c.args.row.now (omega arith)) ∙
    c.loop-frequency.invariant.1
