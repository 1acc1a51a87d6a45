-- `row::of_seventeen` meets its contract: at or below low, the first product leaves the last symbol alone, and above it the sixteen before it.
-- Assumes nothing.
use mathlib.Core.Path.{refl}
use native.Mathlib.Omega.{arith}
use Rattle.common.proofs.Cumulatives.{row-shares}
use Rattle.common.proofs.Halves.{last-of-17, sixteen-of-17}
use Rattle.range_decoder.proofs.row.of_seventeen.Goals as goal

pub overflow_sub-sum : goal.overflow_sub-sum
overflow_sub-sum c = omega (arith, c.from-sum.ensures, (row-shares c.args.row.now c.requires.3 16 (omega arith)).most)

pub returns-then-first-low : goal.returns-then-first-low
returns-then-first-low c =
    let a = c.args in
    let p = c.requires in
    record { left = refl; among = last-of-17 a.row.now p.3 a.unit a.low a.limit c.from-sum.result c.times-first.result.value c.times-first.result.made p.1 p.2 p.4 c.from-sum.ensures c.times-first.ensures.0 c.times-first.ensures.1 (omega (arith, c.if-first-low.true)) }

pub of_sixteen-requires : goal.of_sixteen-requires
of_sixteen-requires c =
    let a = c.args in
    let p = c.requires in
    (p.0, p.3, refl, sixteen-of-17 a.row.now p.3 a.unit a.low a.limit c.from-sum.result c.times-first.result.value c.times-first.result.made p.1 p.2 p.4 c.from-sum.ensures c.times-first.ensures.0 c.times-first.ensures.1 (omega (arith, c.if-first-low.false)))
