-- `inner::of_row` meets its contract: it counts the symbol, or sends it by its cumulative and its frequency. Assumes nothing.
use mathlib.Core.Bool.{not}
use native.Mathlib.Omega.{arith}
use borrow.Author.Tests.{not-false}
use Rattle.std.proofs.Common.{ap}
use Rattle.sending.specs.Sending.{sent}
use Rattle.sending.proofs.Sends.{ready-there, encode-ready}
use Rattle.sending.proofs.inner.of_row.Goals as goal

pub counted-requires : goal.counted-requires
counted-requires c =
    let a = c.args in
    let p = c.requires in
    let there = ready-there a.writing a.st _ (sent a.row.now a.symbol) _ p in
    (p.fits, omega (arith, there.0, c.from-frequency.ensures), there.1)

pub ac_encode-requires : goal.ac_encode-requires
ac_encode-requires c =
    let a = c.args in
    encode-ready a.writing a.st _ a.row.now a.symbol c.below-cumulative.result c.from-frequency.result (not-false a.writing (ap not c.if-not-writing.false)) c.below-cumulative.ensures c.from-frequency.ensures c.requires
