-- `row::sum_of` meets its contract: by its number, one of the sums that have it, or two of them behind one another.
-- Assumes nothing.
use native.Mathlib.Omega.{arith}
use Prim.Native.Nat.{◌+◌}
use mathlib.Core.Path.{◌≡◌}
use Rattle.range_decoder.proofs.Searches.{sum_one, sum-join, sum-most}
use Rattle.range_decoder.proofs.row.sum_of.Goals as goal

pub overflow_add-result : goal.overflow_add-result
overflow_add-result c =
    let a = c.args in
    let eight = sum-join a.row.now a.at 4 4 c.four-in-8.result c.four-in-8-2.result c.four-in-8.ensures c.four-in-8-2.ensures in
    omega (arith, sum-most a.row.now a.at 8 (c.four-in-8.result + c.four-in-8-2.result) c.requires.0 (omega arith) eight)

pub returns-in-1 : goal.returns-in-1
returns-in-1 c =
    let a = c.args in
    let e : a.count ≡ 1 = omega arith in
    rw e (sum_one a.row.now a.at c.from.result (omega arith) c.from.ensures)
