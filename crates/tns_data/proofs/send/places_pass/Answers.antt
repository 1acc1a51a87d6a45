-- `send::places_pass` meets its contract: what is left to judge from place k on is what the whole asks.
-- Assumes nothing.
use mathlib.Core.Path.{sym, ◌∙◌}
use borrow.Author.Tests.{not-true, not-false}
use Rattle.tns_data.proofs.Passes.{places-start, places-stop, places-next, places-end}
use Rattle.std.proofs.Common.{ap}
use mathlib.Core.Bool.{not}
use Rattle.tns_data.proofs.send.places_pass.Goals as goal

pub loop-k-init : goal.loop-k-init
loop-k-init c = let a = c.args in places-start a.indices a.from a.order

pub returns-then-not-place_passes : goal.returns-then-not-place_passes
returns-then-not-place_passes c =
    let a = c.args in
    let p = c.requires in
    sym (places-stop a.indices a.from a.order c.loop-k.k p.0 p.1 c.loop-k-test.true c.place_passes.result c.place_passes.ensures (not-true c.place_passes.result (ap not c.if-not-place_passes.true))) ∙ c.loop-k.invariant

pub loop-k-preserved : goal.loop-k-preserved
loop-k-preserved c =
    let a = c.args in
    let p = c.requires in
    sym (places-next a.indices a.from a.order c.loop-k.k p.0 p.1 c.loop-k-test.true c.place_passes.result c.place_passes.ensures (not-false c.place_passes.result (ap not c.if-not-place_passes.false))) ∙ c.loop-k.invariant

pub returns : goal.returns
returns c =
    let a = c.args in
    sym (places-end a.indices a.from a.order c.loop-k.k c.loop-k-test.false) ∙ c.loop-k.invariant
