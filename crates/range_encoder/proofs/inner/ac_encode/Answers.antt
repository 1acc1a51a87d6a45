-- `inner::ac_encode` meets its contract: the symbol's part, and two turns, whose bytes lie one behind the other.
-- Assumes nothing.
use Rattle.range_encoder.proofs.Shifts.{turns-laid}
use Rattle.range_encoder.proofs.inner.ac_encode.Goals as goal

pub returns-clause-lent : goal.returns-clause-lent
returns-clause-lent c =
    let a = c.args in
    turns-laid a.buf.now c.turn-once.new.buf c.turn.new.buf a.st c.symbol_added-added.result c.turn-once.result a.cumulative a.frequency c.symbol_added-added.ensures c.turn-once.ensures.state c.turn-once.ensures.lent c.turn.ensures.lent
