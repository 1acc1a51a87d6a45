-- `inner::read_filter` meets its contract: without its flag nothing is read; with it the order's symbol is at most 7, so that at most
-- eight indices follow. Assumes nothing.
use mathlib.Core.Path.{◌≡◌, sym, ap, ◌∙◌}
use native.Mathlib.Omega.{arith}
use borrow.Author.Rules.{rules}
use Rattle.std.specs.Prelude.{Ok}
use Rattle.coding.specs.Private.{symbol_met_of}
use Rattle.tns_data.proofs.Within.{part-row, part_length, order-behind}
use Rattle.tns_data.proofs.inner.read_filter.Goals as goal

pub symbol-read-requires : goal.symbol-read-requires
symbol-read-requires c =
    let a = c.args in
    let p = c.requires in
    (p.0, p.1, omega (arith, part_length 2 8 a.tables.now.orders.now c.args.tables.now.order_rows), part-row 2 8 a.weighting a.tables.now.orders.now c.args.tables.now.order_rows (omega (arith, p.2)))

pub overflow_add-k : goal.overflow_add-k
overflow_add-k c =
    let a = c.args in
    let p = c.requires in
    let read : c.symbol-read.result ≡ Ok (c.in_ok-k.k, c.in_ok-k.next_state, c.in_ok-k.next) = search rules in
    let b = order-behind a.tables.now.orders.now a.weighting c.args.tables.now.order_rows p.2 a.state a.buf.now a.at p.0 p.1 (sym c.symbol-read.ensures ∙ ap symbol_met_of read) in
    omega (arith, b.0)

pub read_indices-requires : goal.read_indices-requires
read_indices-requires c =
    let a = c.args in
    let p = c.requires in
    let read : c.symbol-read.result ≡ Ok (c.in_ok-k.k, c.in_ok-k.next_state, c.in_ok-k.next) = search rules in
    let b = order-behind a.tables.now.orders.now a.weighting c.args.tables.now.order_rows p.2 a.state a.buf.now a.at p.0 p.1 (sym c.symbol-read.ensures ∙ ap symbol_met_of read) in
    (p.0, b.1, p.3, omega (arith, b.0), p.4)
