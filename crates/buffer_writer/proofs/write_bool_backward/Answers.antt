-- `write_bool_backward` meets its contract: the checks are the definition's, and behind them the bit is put at the tail's place.
-- The check finds every return; the refusal for want of room is given here by the law that says it. Assumes nothing.
use mathlib.Core.Path.{sym, ◌∙◌}
use Rattle.buffer_writer.proofs.Answers.{bit-beyond}
use Rattle.buffer_writer.proofs.write_bool_backward.Goals as goal

pub returns-then-beyond : goal.returns-then-beyond
returns-then-beyond c =
    let a = c.args in
    rw c.no_tail_room.ensures (let p = bit-beyond a.buf.now a.at a.bit c.if-len-gt65535.false (sym c.beyond.ensures ∙ c.if-beyond.true) in record { answer = p.0; lent = p.1 })
