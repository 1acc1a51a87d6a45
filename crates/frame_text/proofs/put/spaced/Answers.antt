-- What is left of the numbers, over the buffer as it is now, makes what the whole asks.
-- Assumes nothing.
use native.Mathlib.Omega.{arith}
use Rattle.frame_text.proofs.Laid.{laying-start, laying-turn, laying-end}
use Rattle.frame_text.proofs.Texts.{figures-turn, figures-end}
use Rattle.frame_text.proofs.put.spaced.Goals as goal

pub loop-n-init : goal.loop-n-init
loop-n-init g c = (omega arith, laying-start)

pub loop-n-preserved : goal.loop-n-preserved
loop-n-preserved g c =
    let numbers = c.args.numbers.now in
    (omega arith, laying-turn (omega arith) (figures-turn g.N.Figure.value numbers c.loop-n.n-index c.n-item.result (omega arith) c.n-item.is) c.named-next.ensures.text c.named-next.auto.out c.loop-n.invariant.1)

pub returns-clause-text : goal.returns-clause-text
returns-clause-text g c = laying-end (figures-end g.N.Figure.value c.args.numbers.now c.loop-n.n-index c.loop-n-test.false) c.loop-n.invariant.1
