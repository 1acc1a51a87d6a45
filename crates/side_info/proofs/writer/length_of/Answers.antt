-- `writer::length_of` meets its contract: the bits counted and those of the fields that are left are all.
-- Assumes nothing.
use Prim.Native.Nat.{◌+◌}
use mathlib.Core.Path.{◌≡◌}
use native.Mathlib.Omega.{arith}
use lib.ListN.{drop}
use Rattle.side_info.specs.Layout.{width, length_of}
use Rattle.side_info.proofs.Room.{field_at, length-turn, length-end}
use Rattle.side_info.proofs.writer.length_of.Goals as goal

pub overflow_add-bits : goal.overflow_add-bits
overflow_add-bits c =
    let l = c.loop-width in
    omega (arith, l.invariant, c.requires, length-turn 0 0 l.width-index c.args.fields.now c.loop-width-test.true)

pub loop-width-preserved : goal.loop-width-preserved
loop-width-preserved c =
    let l = c.loop-width in
    let fields = c.args.fields.now in
    let next : l.bits + width (field_at fields l.width-index) + length_of (drop (l.width-index + 1) fields) ≡ length_of fields =
    omega (arith, l.invariant, length-turn 0 0 l.width-index fields c.loop-width-test.true) in
    next

pub returns : goal.returns
returns c =
    let l = c.loop-width in
    omega (arith, l.invariant, length-end l.width-index c.args.fields.now c.loop-width-test.false)
