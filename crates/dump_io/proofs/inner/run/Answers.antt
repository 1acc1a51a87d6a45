-- Nothing is written at the start, and then one step more.
use Rattle.std.proofs.Common.{ap, arith}
use Rattle.dumping.specs.declared.State.{State}
use Rattle.dump_io.proofs.Told.{stands_on, told_start, told_more}
use Rattle.dump_io.proofs.inner.run.Goals as goal

pub loop-next-init : goal.loop-next-init
loop-next-init g c =
    let frames = ap (λ (s : State). s.frames) c.start.ensures in
    (omega (arith, frames), told_start _ c.start.result _ c.args.input.now c.start.ensures)

pub loop-next-preserved : goal.loop-next-preserved
loop-next-preserved g c =
    let step = c.in_ok-next.ensures in
    let before = rw c.in-Some.is at c.loop-next.invariant.1 in
    (stands_on _ c.in_ok-next.next _ step.further, told_more _ _ _ (c.in-Some.offset, c.in-Some.state) _ _ c.args.input.now _ c.in_ok-next.next before step.written step.leads step.further)
