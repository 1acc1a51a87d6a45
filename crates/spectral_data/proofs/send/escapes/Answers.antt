-- `send::escapes` meets its contract: the escapes that are left, from the state and the buffer so far, make what all of them make.
-- Assumes nothing.
use Rattle.sending.proofs.Left.{Left, left-none}
use Rattle.spectral_data.proofs.Sends.{left-symbol, escapes-turn, escapes-end, frequencies-length}
use Rattle.spectral_data.specs.Sent.{sent_escapes}
use Rattle.sending.proofs.Sends.{ready-first}
use Rattle.sending.specs.Sending.{sent}
use Rattle.contexts.specs.Contexts.{row_of, escape_symbol}
use Rattle.contexts.proofs.Lookups.{row_low}
use Rattle.common.specs.Tables.{row_at}
use lib.ListN.{length}
use native.Mathlib.Omega.{arith}
use mathlib.Core.Path.{refl, subst}
use mathlib.Core.List.{◌∷◌}
use Prim.Native.Nat.{ℕ, ◌+◌, ◌-◌, ◌≤◌}
use Rattle.spectral_data.proofs.send.escapes.Goals as goal
use Rattle.spectral_data.proofs.send.escapes.Goals.{In-loop-level}

-- in the loop an escape is left to send, by the row of its level
turn : (c : In-loop-level) →
    let a = c.args in
    Left a.writing a.st a.buf.now (sent_escapes a.tables.now.lookup.now a.tables.now.frequencies.now a.start 0 a.n) c.loop-level.here c.loop-level.buf
    (sent (row_at 17 (row_of a.tables.now.lookup.now a.start c.loop-level.level) a.tables.now.frequencies.now) escape_symbol ∷ sent_escapes a.tables.now.lookup.now a.tables.now.frequencies.now a.start (c.loop-level.level + 1) (a.n - (c.loop-level.level + 1)))
turn c =
    let a = c.args in
    subst (Left a.writing a.st a.buf.now (sent_escapes a.tables.now.lookup.now a.tables.now.frequencies.now a.start 0 a.n) c.loop-level.here c.loop-level.buf)
    (escapes-turn a.tables.now.lookup.now a.tables.now.frequencies.now a.start c.loop-level.level a.n c.loop-level-test.true) c.loop-level.invariant

pub symbol-here-requires : goal.symbol-here-requires
symbol-here-requires c =
    let a = c.args in
    let looked = a.tables.now.looked in
    let low : (t level : ℕ) → row_of a.tables.now.lookup.now t level ≤ 63 = row_low a.tables.now.lookup.now looked in
    let there : c.row-row.result ≤ 63 = rw c.row-row.ensures (search low) in (
      omega (arith, there, frequencies-length a.tables.now.lookup.now a.tables.now.frequencies.now looked a.tables.now.rows),
      rw c.row-row.ensures (ready-first a.writing c.loop-level.here (length c.loop-level.buf) _ _ (turn (goal.at.symbol-here-requires c).In-loop-level).ready),
    )

pub loop-level-preserved : goal.loop-level-preserved
loop-level-preserved c =
    let a = c.args in
    left-symbol a.writing a.st a.buf.now (sent_escapes a.tables.now.lookup.now a.tables.now.frequencies.now a.start 0 a.n) c.loop-level.here c.loop-level.buf a.tables.now.frequencies.now _ _ _ _ _ c.symbol-here.result c.symbol-here.new.buf c.row-row.ensures refl
    (turn (goal.at.loop-level-preserved c).In-loop-level) c.symbol-here.ensures.state c.symbol-here.ensures.lent

pub returns : goal.returns
returns c =
    let a = c.args in
    let p = left-none a.writing a.st a.buf.now (sent_escapes a.tables.now.lookup.now a.tables.now.frequencies.now a.start 0 a.n) c.loop-level.here c.loop-level.buf
    (subst (Left a.writing a.st a.buf.now (sent_escapes a.tables.now.lookup.now a.tables.now.frequencies.now a.start 0 a.n) c.loop-level.here c.loop-level.buf)
    (escapes-end a.tables.now.lookup.now a.tables.now.frequencies.now a.start c.loop-level.level a.n c.loop-level-test.false) c.loop-level.invariant) in record { state = p.0; lent = p.1 }
