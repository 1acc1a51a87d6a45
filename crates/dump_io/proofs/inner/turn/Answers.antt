-- A step goes forward, within the input; its text is what was written.
use Rattle.std.proofs.Common.{length, rules}
use Rattle.dump_io.specs.Private.{Further}
use Rattle.dump_io.proofs.Told.{goes_on, text_written}
use Rattle.dump_io.proofs.inner.turn.Goals as goal

pub returns-in-At-clause-further : goal.returns-in-At-clause-further
returns-in-At-clause-further g c =
    let step = c.step-step.ensures in
    let on : Further (c.args.offset, c.args.state) (c.in-At.next, c.step-step.result.state) (length c.args.input.now) = goes_on (c.args.offset, c.args.state) _ c.args.input.now c.step-step.result.next c.step-step.result.state c.in-At.next c.requires step.next c.in-At.is step.state in
    search rules

pub returns-in-At-clause-written : goal.returns-in-At-clause-written
returns-in-At-clause-written g c = text_written _ _ c.args.text.now _ c.step-step.ensures.length c.step-step.ensures.lent c.in_ok-put.ensures.0 c.in_ok-put.ensures.1

pub returns-in-End-clause-written : goal.returns-in-End-clause-written
returns-in-End-clause-written g c = text_written _ _ c.args.text.now _ c.step-step.ensures.length c.step-step.ensures.lent c.in_ok-put.ensures.0 c.in_ok-put.ensures.1
