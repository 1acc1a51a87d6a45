-- `inner::read_tns` meets its contract: behind the first filter the range passes, and two filters of at most eight indices each, laid
-- from places 0 and 8 on, are the definition's sixteen. Assumes nothing.
use mathlib.Core.Path.{sym, ap, ◌∙◌}
use native.Mathlib.Omega.{arith}
use Rattle.tns_data.proofs.Filters.{told-order, first_range, first-length, tns-both}
use lib.ListN.{length}
use Rattle.tns_data.proofs.inner.read_tns.Goals as goal

pub read_filter-requires-2 : goal.read_filter-requires-2
read_filter-requires-2 c =
    let a = c.args in
    let p = c.requires in
    let e = told-order c.read_filter.result c.read_filter.new.indices c.read_filter.ensures c.in_ok-first.was in
    (p.0, first_range a.tables.now.orders.now a.tables.now.coefficients.now a.weighting c.args.tables.now.order_rows c.args.tables.now.index_rows p.2 a.buf.now p.0 a.first_flag a.second_flag a.state a.at p.1 a.indices.now e, p.2, omega arith, first-length a.tables.now.orders.now a.tables.now.coefficients.now a.weighting c.args.tables.now.order_rows c.args.tables.now.index_rows p.2 a.buf.now p.0 a.first_flag a.second_flag a.state a.at p.1 a.indices.now e ∙ ap length p.3)

pub returns : goal.returns
returns c =
    let a = c.args in
    let p = c.requires in
    sym
    (tns-both a.tables.now.orders.now a.tables.now.coefficients.now a.weighting c.args.tables.now.order_rows c.args.tables.now.index_rows p.2 a.buf.now p.0 a.first_flag a.second_flag a.state a.at p.1 a.indices.now
    (told-order c.read_filter.result c.read_filter.new.indices c.read_filter.ensures c.in_ok-first.was)
    p.3
    (told-order c.read_filter-2.result c.read_filter-2.new.indices c.read_filter-2.ensures c.in_ok-second.was))
