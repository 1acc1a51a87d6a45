-- `row::two` meets its contract: each frequency brings the cumulative to the next.
-- Assumes nothing.
use native.Mathlib.Omega.{arith}
use Prim.Native.Nat.{◌+◌}
use Rattle.range_decoder.proofs.Searches.{sum_one, sum-join}
use Rattle.range_decoder.proofs.row.two.Goals as goal

pub returns : goal.returns
returns c =
    let a = c.args in
    let first = sum_one a.row.now a.at c.from.result (omega arith) c.from.ensures in
    let second = sum_one a.row.now (a.at + 1) c.from-2.result (omega arith) c.from-2.ensures in
    sum-join a.row.now a.at 1 1 c.from.result c.from-2.result first second
