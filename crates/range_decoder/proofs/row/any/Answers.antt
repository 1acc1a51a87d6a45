-- `row::any` meets its contract: so far as it has come, the sum brings the cumulative to the one there. Assumes nothing.
use native.Mathlib.Omega.{arith}
use Prim.Native.Nat.{◌+◌, ◌<◌}
use mathlib.Core.Path.{◌≡◌}
use Rattle.common.specs.Tables.{cumulative}
use Rattle.range_decoder.proofs.Searches.{sum_one, sum-join, sum-most, part_place, part_at}
use Rattle.range_decoder.proofs.row.any.Goals as goal
use Rattle.range_decoder.proofs.row.any.Goals.{After-from-sum}

below : (c : After-from-sum) → c.loop-frequency.frequency-index < c.args.count
below c = part_place c.args.row.now c.args.at c.args.count _ c.loop-frequency-test.true

added : (c : After-from-sum) → cumulative c.args.row.now c.args.at + (c.loop-frequency.sum + c.from-sum.result) ≡ cumulative c.args.row.now (c.args.at + (c.loop-frequency.frequency-index + 1))
added c =
    let a = c.args in
    let k = c.loop-frequency.frequency-index in
    let here = part_at a.row.now a.at a.count k c.from-sum.result (below c) c.from-sum.ensures in
    sum-join a.row.now a.at k 1 c.loop-frequency.sum c.from-sum.result c.loop-frequency.invariant (sum_one a.row.now (a.at + k) c.from-sum.result (omega (arith, below c)) here)

pub overflow_add-sum : goal.overflow_add-sum
overflow_add-sum c =
    let a = c.args in
    omega (arith, sum-most a.row.now a.at (c.loop-frequency.frequency-index + 1) (c.loop-frequency.sum + c.from-sum.result) c.requires.0 (omega (arith, below c)) (added c))

pub loop-frequency-preserved : goal.loop-frequency-preserved
loop-frequency-preserved c = added c
