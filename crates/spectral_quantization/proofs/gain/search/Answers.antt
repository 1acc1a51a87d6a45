-- `gain::search` meets its contract: the invariant says that the turns that are left, from the present step and index, find what
-- the whole search finds, and that the index has room for the step (`Turns.antt`). The measure is how many turns are left.
-- Assumes nothing.
use mathlib.Core.Path.{sym, ◌∙◌}
use Rattle.spectral_quantization.proofs.Turns.{turns_next, turns-end, room-kept}
use Rattle.spectral_quantization.proofs.gain.search.Goals as goal

pub loop-preserved : goal.loop-preserved
loop-preserved c =
    let a = c.args in (
      room-kept a.energies.now a.offset a.target c.loop.counter c.loop.fac c.loop.index c.turn-index.result c.turn-index.ensures c.loop.invariant.0,
      turns_next a.energies.now a.offset a.target c.loop.counter c.loop.fac c.loop.index c.turn-index.result c.turn-index.ensures c.loop-test.true
          ∙ c.loop.invariant.1,
    )

pub returns : goal.returns
returns c =
    let a = c.args in
    sym (turns-end a.energies.now a.offset a.target c.loop.counter c.loop.fac c.loop.index c.loop-test.false)
    ∙ c.loop.invariant.1
