-- `inner::put_before` meets its contract: at the end no bit has room, before it one has.
-- Assumes nothing.
use Rattle.std.proofs.Common.{arith}
use Rattle.sending.specs.Sending.{owned}
use Rattle.residual_data.proofs.Puts.{cut-full, cut-room}
use Rattle.residual_data.proofs.inner.put_before.Goals as goal

pub returns-then-at-end : goal.returns-then-at-end
returns-then-at-end c =
    let a = c.args in
    λ o. cut-full a.buf.now a.at a.end (owned o a.value) (omega (arith, c.if-at-end.true))

pub returns : goal.returns
returns c =
    let a = c.args in
    λ o. rw c.put_bit.ensures (cut-room a.buf.now a.at a.end (owned o a.value) (omega (arith, c.if-at-end.false)))
