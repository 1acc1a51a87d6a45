-- `row::last_left` meets its contract: before any product all of the row is left, and the turns leave one symbol of it.
-- Assumes nothing.
use Rattle.common.proofs.Halves.{among-all}
use Rattle.range_decoder.proofs.row.last_left.Goals as goal

pub of_any-requires : goal.of_any-requires
of_any-requires c =
    let a = c.args in
    let p = c.requires in
    (p.0, p.3, among-all a.row.now p.3 a.unit a.low a.limit p.1 p.2)
