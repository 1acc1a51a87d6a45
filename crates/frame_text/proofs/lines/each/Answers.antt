-- What is left of the lines, over the buffer as it is now, makes what the whole asks.
-- Assumes nothing.
use native.Mathlib.Omega.{arith}
use Rattle.residual_data.proofs.Lines.{same_line}
use Rattle.frame_text.proofs.Laid.{laying-start, laying-turn, laying-end}
use Rattle.frame_text.proofs.Texts.{each_turn, each-end}
use Rattle.frame_text.proofs.lines.each.Goals as goal

pub loop-k-init : goal.loop-k-init
loop-k-init c = (omega arith, laying-start)

pub loop-k-preserved : goal.loop-k-preserved
loop-k-preserved c =
    let same = same_line _ (c.requires.2 c.loop-k.k) in
    (omega arith, laying-turn (omega arith) (each_turn c.args.lines.now c.loop-k.k (omega arith) same) c.line-next.ensures.text c.line-next.auto.out c.loop-k.invariant.1)

pub returns-clause-text : goal.returns-clause-text
returns-clause-text c = laying-end (each-end c.args.lines.now c.loop-k.k c.loop-k-test.false) c.loop-k.invariant.1
