-- One read more.
use Rattle.std.proofs.Common.{rules}
use Rattle.dump_io.proofs.Taken.{taken_behind}
use Rattle.dump_io.proofs.inner.take.Goals as goal

pub loop-done-preserved : goal.loop-done-preserved
loop-done-preserved g c =
    let read = c.in_ok-n.ensures in
    let before = c.loop-done.invariant in
    (search rules, search rules, taken_behind _ _ _ c.loop-done.done c.in_ok-n.n _ c.loop-done.buf c.read.new.buf before.0 read.bound.0 before.2 read.bytes.0)
