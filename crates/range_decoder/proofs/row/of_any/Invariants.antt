-- `row::of_any` meets its contract: each turn leaves fewer symbols, and the owner among them.
-- Assumes nothing.
use Rattle.common.proofs.Halves.{Among}
use Rattle.range_decoder.proofs.row.of_any.Given as goal

abbrev pub invariant-loop-last : goal.invariant-loop-last
invariant-loop-last l = Among l.row l.unit l.low l.last.symbol l.last.left l.last.sum l.last.base l.last.end l.last.products

abbrev pub decreases-loop-last : goal.decreases-loop-last
decreases-loop-last l = l.last.left
