-- `send::send_tns` meets its contract: two filters, the second from where the first left state and buffer, are sent as one list.
-- Assumes nothing.
use native.Mathlib.Omega.{arith}
use lib.ListN.{length}
use Rattle.sending.proofs.Left.{left-start, left-on, left-all}
use Rattle.sending.proofs.Sends.{ready-split}
use Rattle.tns_data.specs.Sent.{sent_filter, sent_tns, tns_of}
use Rattle.tns_data.specs.Private.{filter_at}
use Rattle.tns_data.proofs.send.send_tns.Goals as goal

pub send_filter-s-requires : goal.send_filter-s-requires
send_filter-s-requires c =
    let a = c.args in
    let p = c.requires in
    let one = sent_filter a.tables.now.orders.now a.tables.now.coefficients.now a.weighting (filter_at 0 a.first_order a.indices) in
    let two = sent_filter a.tables.now.orders.now a.tables.now.coefficients.now a.weighting (filter_at 8 a.second_order a.indices) in
    (p.0, p.3, omega arith, p.1, (ready-split a.writing a.st (length a.buf.now) one two p.4).0)

pub send_filter-requires : goal.send_filter-requires
send_filter-requires c =
    let a = c.args in
    let p = c.requires in
    let one = sent_filter a.tables.now.orders.now a.tables.now.coefficients.now a.weighting (filter_at 0 a.first_order a.indices) in
    let two = sent_filter a.tables.now.orders.now a.tables.now.coefficients.now a.weighting (filter_at 8 a.second_order a.indices) in
    let all = sent_tns a.tables.now.orders.now a.tables.now.coefficients.now a.weighting (tns_of a.first_order a.second_order a.indices) in
    (p.0, p.3, omega arith, p.2, (left-on a.writing a.st a.buf.now all a.st a.buf.now one two _ _ (left-start a.writing a.st a.buf.now all p.4) c.send_filter-s.ensures.state c.send_filter-s.ensures.lent).ready)

pub returns : goal.returns
returns c =
    let a = c.args in
    let p = c.requires in
    let one = sent_filter a.tables.now.orders.now a.tables.now.coefficients.now a.weighting (filter_at 0 a.first_order a.indices) in
    let two = sent_filter a.tables.now.orders.now a.tables.now.coefficients.now a.weighting (filter_at 8 a.second_order a.indices) in
    let all = sent_tns a.tables.now.orders.now a.tables.now.coefficients.now a.weighting (tns_of a.first_order a.second_order a.indices) in
    let left = left-on a.writing a.st a.buf.now all a.st a.buf.now one two c.send_filter-s.result c.send_filter-s.new.buf (left-start a.writing a.st a.buf.now all p.4) c.send_filter-s.ensures.state c.send_filter-s.ensures.lent in
    let p = left-all a.writing a.st a.buf.now all c.send_filter-s.result c.send_filter-s.new.buf two _ _ left c.send_filter.ensures.state c.send_filter.ensures.lent in record { state = p.0; lent = p.1 }
