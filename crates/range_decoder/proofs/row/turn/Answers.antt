-- `row::turn` meets its contract: the product at the middle tells the upper half from the lower.
-- Assumes nothing.
use Prim.Native.Nat.{◌+◌, ◌≤◌, ◌<◌}
use mathlib.Core.Path.{refl}
use native.Mathlib.Omega.{arith}
use lib.ListN.{length}
use Rattle.common.proofs.Cumulatives.{cumulative-bound, row-short}
use Rattle.common.proofs.Halves.{half-spent, turn-upper, turn-lower}
use Rattle.range_decoder.proofs.row.turn.Goals as goal
use Rattle.range_decoder.proofs.row.turn.Goals.{After-sum_of, Start}

-- half of what is left, of two symbols at least
more : (c : Start) → 1 < c.args.rest.left
more c = omega (arith, c.requires.2, c.requires.3)

-- the sum up to the middle is a cumulative, so at most 1,024
middle : (c : After-sum_of) → c.args.rest.sum + c.sum_of.result ≤ 1024
middle c =
    let a = c.args in
    let p = c.requires in
    omega (arith, c.sum_of.ensures, p.5.sum_is, cumulative-bound a.row.now p.1 (a.rest.symbol + a.half) (omega (arith, p.3, p.5.there)))

pub overflow_add-sum : goal.overflow_add-sum
overflow_add-sum c = omega (arith, middle (goal.at.overflow_add-sum c).After-sum_of)

pub times-product-requires : goal.times-product-requires
times-product-requires c =
    let a = c.args in
    let p = c.requires in
    let made = (half-spent (length a.row.now) a.rest.left a.rest.products (more (goal.at.times-product-requires c).Start) p.5.spent 10 (row-short a.row.now p.1)).0 in
    (p.0, middle (goal.at.times-product-requires c).After-sum_of, omega arith)

pub returns-then-product-low : goal.returns-then-product-low
returns-then-product-low c =
    let a = c.args in
    let p = c.requires in
    let r = a.rest in
    record { left = refl; among = turn-upper a.row.now p.1 a.unit a.low r.symbol r.left r.sum r.base r.end r.products a.half c.sum_of.result c.times-product.result.value c.times-product.result.made p.5 (more (goal.at.returns-then-product-low c).Start) (omega (arith, p.3, p.4)) c.sum_of.ensures c.times-product.ensures.0 c.times-product.ensures.1 (omega (arith, c.if-product-low.true)) }

pub returns : goal.returns
returns c =
    let a = c.args in
    let p = c.requires in
    let r = a.rest in
    record { left = refl; among = turn-lower a.row.now p.1 a.unit a.low r.symbol r.left r.sum r.base r.end r.products a.half c.sum_of.result c.times-product.result.value c.times-product.result.made p.5 (more (goal.at.returns c).Start) (omega (arith, p.3, p.4)) c.sum_of.ensures c.times-product.ensures.0 c.times-product.ensures.1 (omega (arith, c.if-product-low.false)) }
