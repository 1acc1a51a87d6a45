-- `row::four` meets its contract: two and two.
-- Assumes nothing.
use native.Mathlib.Omega.{arith}
use Prim.Native.Nat.{◌+◌}
use Rattle.range_decoder.proofs.Searches.{sum-join, sum-most}
use Rattle.range_decoder.proofs.row.four.Goals as goal

pub overflow_add-result : goal.overflow_add-result
overflow_add-result c =
    let a = c.args in
    let p = c.requires in
    let added = sum-join a.row.now a.at 2 2 c.two.result c.two-2.result c.two.ensures c.two-2.ensures in
    omega (arith, sum-most a.row.now a.at 4 (c.two.result + c.two-2.result) p.0 p.1 added)
