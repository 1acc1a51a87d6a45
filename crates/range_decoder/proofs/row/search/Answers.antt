-- `row::search` meets its contract: the one symbol that is left is the owner, and its part is from its begin to its end.
-- Assumes nothing.
use Rattle.range_decoder.proofs.Searches.{last_found, last-counted}
use Rattle.range_decoder.proofs.row.search.Goals as goal

pub returns : goal.returns
returns c =
    let a = c.args in
    let p = c.requires in
    let r = c.last_left-rest.result in
    let found = last_found a.row.now p.3 a.unit a.low r.symbol r.left r.sum r.base r.end r.products c.last_left-rest.ensures.among c.last_left-rest.ensures.left in
    let counted = last-counted a.row.now p.3 a.unit a.low r.symbol r.left r.sum r.base r.end r.products c.last_left-rest.ensures.among c.last_left-rest.ensures.left in
    record { symbol = found.0; base = found.1; width = found.2; products = λ k holds. (c.last_left-rest.ensures.among.spent k holds).0; counted = counted }
