-- `send::send_filter` meets its contract: of order 0 nothing is sent; otherwise the order, and behind it its indices are left.
-- Assumes nothing.
use native.Mathlib.Omega.{arith}
use Rattle.sending.proofs.Left.{left-all}
use Rattle.tns_data.specs.Sent.{sent_filter}
use Rattle.tns_data.specs.Private.{filter_at}
use Rattle.tns_data.proofs.Within.{part_length}
use Rattle.tns_data.proofs.Leaves.{all_indices, filter-empty, order-ready, order-next}
use Rattle.tns_data.proofs.send.send_filter.Goals as goal

pub returns-then-order-eq0 : goal.returns-then-order-eq0
returns-then-order-eq0 c =
    let a = c.args in
    let p = filter-empty a.tables.now.orders.now a.tables.now.coefficients.now a.weighting a.from a.order a.indices a.writing a.st a.buf.now c.if-order-eq0.true in record { state = p.0; lent = p.1 }

pub symbol-s-requires : goal.symbol-s-requires
symbol-s-requires c =
    let a = c.args in
    let p = c.requires in
    (omega (arith, p.0, part_length 2 8 a.tables.now.orders.now c.args.tables.now.order_rows), order-ready a.tables.now.orders.now a.tables.now.coefficients.now a.weighting a.from a.order a.indices a.writing a.st a.buf.now c.if-order-eq0.false p.4)

pub send_indices-requires : goal.send_indices-requires
send_indices-requires c =
    let a = c.args in
    let p = c.requires in
    (p.1, p.2, p.3, (order-next a.tables.now.orders.now a.tables.now.coefficients.now a.weighting a.from a.order a.indices a.writing a.st a.buf.now c.if-order-eq0.false p.4 c.symbol-s.ensures.state c.symbol-s.ensures.lent).ready)

pub returns : goal.returns
returns c =
    let a = c.args in
    let p = c.requires in
    let left = order-next a.tables.now.orders.now a.tables.now.coefficients.now a.weighting a.from a.order a.indices a.writing a.st a.buf.now c.if-order-eq0.false p.4 c.symbol-s.ensures.state c.symbol-s.ensures.lent in
    let p = left-all a.writing a.st a.buf.now (sent_filter a.tables.now.orders.now a.tables.now.coefficients.now a.weighting (filter_at a.from a.order a.indices))
    c.symbol-s.result c.symbol-s.new.buf (all_indices a.tables.now.coefficients.now a.indices a.from a.order) _ _ left c.send_indices.ensures.state c.send_indices.ensures.lent in record { state = p.0; lent = p.1 }
