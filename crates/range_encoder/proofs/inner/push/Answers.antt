-- `inner::push` meets its contract: one shift, and a second for a ninth bit, whose bytes lie behind those of the first.
-- Assumes nothing.
use Rattle.range_encoder.proofs.Sends.{push-twice}
use Rattle.range_encoder.proofs.inner.push.Goals as goal

pub returns-clause-lent : goal.returns-clause-lent
returns-clause-lent c =
    let a = c.args in
    (push-twice a.st a.bits a.buf.now c.ac_shift-once.new.buf c.ac_shift.new.buf c.ac_shift-once.result c.if-bits-le8.false c.ac_shift-once.ensures.state c.ac_shift-once.ensures.lent c.ac_shift.ensures.lent).1
