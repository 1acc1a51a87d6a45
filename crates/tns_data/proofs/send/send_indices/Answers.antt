-- `send::send_indices` meets its contract: the indices from place k on, from the state and the buffer as they are, make what all make.
-- Assumes nothing.
use native.Mathlib.Omega.{arith}
use Rattle.tns_data.proofs.Within.{part_length}
use Rattle.tns_data.proofs.Leaves.{indices-leave, indices-ready, indices-next, indices-done}
use Rattle.tns_data.proofs.send.send_indices.Goals as goal

pub loop-k-init : goal.loop-k-init
loop-k-init c =
    let a = c.args in
    indices-leave a.writing a.st a.buf.now a.tables.now.coefficients.now a.indices a.from a.order c.requires.3

pub symbol-s-requires : goal.symbol-s-requires
symbol-s-requires c =
    let a = c.args in
    let p = c.requires in
    (omega (arith, part_length 8 17 a.tables.now.coefficients.now c.args.tables.now.index_rows), indices-ready a.writing a.st a.buf.now a.tables.now.coefficients.now a.indices a.from a.order c.loop-k.s c.loop-k.buf c.loop-k.k c.loop-k.invariant c.loop-k-test.true (omega (arith, p.0, p.1, p.2)))

pub loop-k-preserved : goal.loop-k-preserved
loop-k-preserved c =
    let a = c.args in
    let p = c.requires in
    indices-next a.writing a.st a.buf.now a.tables.now.coefficients.now a.indices a.from a.order c.loop-k.s c.loop-k.buf c.loop-k.k c.loop-k.invariant c.loop-k-test.true (omega (arith, p.0, p.1, p.2)) c.symbol-s.ensures.state c.symbol-s.ensures.lent

pub shape_of-buf : goal.shape_of-buf
shape_of-buf c = c.loop-k.invariant.size

pub returns : goal.returns
returns c =
    let a = c.args in
    let p = indices-done a.writing a.st a.buf.now a.tables.now.coefficients.now a.indices a.from a.order c.loop-k.s c.loop-k.buf c.loop-k.k c.loop-k.invariant c.loop-k-test.false in record { state = p.0; lent = p.1 }
