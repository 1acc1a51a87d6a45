-- Each step has its word, and behind it the numbers that it carries.
-- Assumes nothing.
use Rattle.common.specs.Reply.{side, start, order, coef, symbol, bit}
use Rattle.frame_text.specs.Text.{step_text}
use Rattle.frame_text.proofs.Replies.{laid-step}
use Rattle.frame_text.proofs.refusals.met.Goals as goal

pub returns-in-Side-clause-text : goal.returns-in-Side-clause-text
unfolding step_text
returns-in-Side-clause-text c =
    let arm = c.in-Side in
    rw arm.is (laid-step arm.e side c.in_step.ensures.text)

pub returns-in-Start-clause-text : goal.returns-in-Start-clause-text
unfolding step_text
returns-in-Start-clause-text c =
    let arm = c.in-Start in
    rw arm.is (laid-step arm.e start c.in_step-in-Start.ensures.text)

pub returns-in-Order-clause-text : goal.returns-in-Order-clause-text
unfolding step_text
returns-in-Order-clause-text c =
    let arm = c.in-Order in
    rw arm.is (laid-step arm.e (order arm.f) c.in_step_of.ensures.text)

pub returns-in-Coef-clause-text : goal.returns-in-Coef-clause-text
unfolding step_text
returns-in-Coef-clause-text c =
    let arm = c.in-Coef in
    rw arm.is (laid-step arm.e (coef arm.f arm.k) c.in_step_at.ensures.text)

pub returns-in-Symbol-clause-text : goal.returns-in-Symbol-clause-text
unfolding step_text
returns-in-Symbol-clause-text c =
    let arm = c.in-Symbol in
    rw arm.is (laid-step arm.e (symbol arm.pair arm.level) c.in_step_at-in-Symbol.ensures.text)

pub returns-in-Bit-clause-text : goal.returns-in-Bit-clause-text
unfolding step_text
returns-in-Bit-clause-text c =
    let arm = c.in-Bit in
    rw arm.is (laid-step arm.e (bit arm.pair arm.level) c.in_step_at-in-Bit.ensures.text)
