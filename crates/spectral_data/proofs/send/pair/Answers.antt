-- `send::pair` meets its contract: its escapes, and behind them the last symbol, by the row of as many levels.
-- Assumes nothing.
use Rattle.sending.proofs.Left.{Left, left-start, left-on, left-none}
use Rattle.spectral_data.proofs.Sends.{left-symbol, frequencies-length}
use Rattle.spectral_data.specs.Sent.{sent_escapes, sent_pair}
use Rattle.sending.proofs.Sends.{ready-before}
use Rattle.sending.specs.Sending.{sent}
use Rattle.sending.specs.Private.{sent_all, laid_all}
use Rattle.contexts.specs.Contexts.{row_of, escapes, pair_symbol}
use Rattle.contexts.proofs.Lookups.{row_low}
use Rattle.common.specs.Tables.{row_at}
use lib.ListN.{length}
use native.Mathlib.Omega.{arith}
use mathlib.Core.Path.{◌≡◌, ap, ◌∙◌}
use mathlib.Core.List.{[], ◌∷◌}
use Prim.Native.Nat.{ℕ}
use Rattle.spectral_data.proofs.send.pair.Goals as goal
use Rattle.spectral_data.proofs.send.pair.Goals.{After-escapes-here, After-row-row}

-- behind the escapes the last symbol is left
behind : (c : After-escapes-here) →
    let a = c.args in
    Left a.writing a.st a.buf.now (sent_pair a.tables.now.lookup.now a.tables.now.frequencies.now a.start a.a a.b) c.escapes-here.result c.escapes-here.new.buf
    (sent (row_at 17 (row_of a.tables.now.lookup.now a.start (escapes a.a a.b)) a.tables.now.frequencies.now) (pair_symbol a.a a.b) ∷ [])
behind c =
    let a = c.args in
    left-on a.writing a.st a.buf.now (sent_pair a.tables.now.lookup.now a.tables.now.frequencies.now a.start a.a a.b) a.st a.buf.now
    (sent_escapes a.tables.now.lookup.now a.tables.now.frequencies.now a.start 0 (escapes a.a a.b)) _ c.escapes-here.result c.escapes-here.new.buf
    (left-start a.writing a.st a.buf.now (sent_pair a.tables.now.lookup.now a.tables.now.frequencies.now a.start a.a a.b) c.requires.3)
    (c.escapes-here.ensures.state ∙ ap (λ (k : ℕ). sent_all a.writing a.st (sent_escapes a.tables.now.lookup.now a.tables.now.frequencies.now a.start 0 k)) c.escapes-n.ensures)
    (c.escapes-here.ensures.lent ∙ ap (λ (k : ℕ). laid_all a.writing a.st a.buf.now (sent_escapes a.tables.now.lookup.now a.tables.now.frequencies.now a.start 0 k)) c.escapes-n.ensures)

-- its row and its number are the definition's
row_is : (c : After-row-row) →
    let a = c.args in
    c.row-row.result ≡ row_of a.tables.now.lookup.now a.start (escapes a.a a.b)
row_is c =
    let a = c.args in
    c.row-row.ensures ∙ ap (row_of a.tables.now.lookup.now a.start) c.escapes-n.ensures

pub escapes-here-requires : goal.escapes-here-requires
escapes-here-requires c =
    let a = c.args in
    let pre = c.requires in (
      pre.0,
      rw c.escapes-n.ensures (ready-before a.writing a.st (length a.buf.now) (sent_escapes a.tables.now.lookup.now a.tables.now.frequencies.now a.start 0 (escapes a.a a.b)) _ pre.3),
    )

pub symbol-requires : goal.symbol-requires
symbol-requires c =
    let a = c.args in
    let looked = a.tables.now.looked in
    let row = row_is (goal.at.symbol-requires c).After-row-row in (
      omega (arith, row, row_low a.tables.now.lookup.now looked a.start (escapes a.a a.b), frequencies-length a.tables.now.lookup.now a.tables.now.frequencies.now looked a.tables.now.rows),
      rw (row, c.pair_symbol-symbol.ensures) (behind (goal.at.symbol-requires c).After-escapes-here).ready,
    )

pub returns : goal.returns
returns c =
    let a = c.args in
    let row = row_is (goal.at.returns c).After-row-row in
    let p = left-none a.writing a.st a.buf.now (sent_pair a.tables.now.lookup.now a.tables.now.frequencies.now a.start a.a a.b) c.symbol.result c.symbol.new.buf
    (left-symbol a.writing a.st a.buf.now (sent_pair a.tables.now.lookup.now a.tables.now.frequencies.now a.start a.a a.b) c.escapes-here.result c.escapes-here.new.buf a.tables.now.frequencies.now _ _ _ _ [] c.symbol.result c.symbol.new.buf row c.pair_symbol-symbol.ensures
    (behind (goal.at.returns c).After-escapes-here) c.symbol.ensures.state c.symbol.ensures.lent) in record { state = p.0; lent = p.1 }
