-- `inner::late_lines` meets its contract: what is left from a pair on, behind the lines that are passed, is what the whole asks.
-- Assumes nothing.
use Rattle.std.proofs.Common.{take}
use Rattle.residual_data.specs.Residual.{escaped_by}
use Rattle.residual_data.proofs.Turns.{Passed}
use Rattle.residual_data.proofs.inner.late_lines.Given as goal

abbrev pub invariant-loop-p : goal.invariant-loop-p
invariant-loop-p l = Passed l.buf (escaped_by l.reading (take l.pairs l.levels)) l.initial.lines l.pairs l.tail l.room l.lines l.at l.left l.p
