-- The dump goes forward within the input while it goes on: what is left of the input is the measure. What was written and what is
-- still to come make the whole text.
use Rattle.std.proofs.Common.{length, suc}
use Rattle.dumping.specs.Dump.{started}
use Rattle.dumping.specs.Tables.{tables_in}
use Rattle.dumping.specs.Steps.{steps_text}
use Rattle.std.specs.Option.{IfSome}
use Rattle.dump_io.specs.Private.{Standing}
use Rattle.dump_io.proofs.Told.{Told}
use Rattle.dump_io.proofs.Turns.{left}
use Rattle.dump_io.proofs.inner.run.Given as goal

abbrev pub invariant-loop-next : goal.invariant-loop-next
invariant-loop-next g l =
    IfSome l.next Standing
    × Told (g.W.Write.contents l.initial.to) (g.W.Write.contents l.to) l.next
    (tables_in l.tables)
    l.input
    (steps_text (suc (length l.input)) (record { state = started; tables = tables_in l.initial.tables }) l.input 0)

abbrev pub decreases-loop-next : goal.decreases-loop-next
decreases-loop-next g l = left l.next (length l.input)
