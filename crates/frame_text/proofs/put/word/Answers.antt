-- What is left of the word, over the buffer as it is now, makes what the whole asks.
-- Assumes nothing.
use native.Mathlib.Omega.{arith}
use lib.ListN.{drop_of_length-le}
use Rattle.frame_text.proofs.Laid.{laying-start, laying-turn, laying-end, next_one}
use Rattle.frame_text.proofs.put.word.Goals as goal

pub loop-letter-init : goal.loop-letter-init
loop-letter-init c = (omega arith, laying-start)

pub loop-letter-preserved : goal.loop-letter-preserved
loop-letter-preserved c =
    let letters = c.args.letters.now in
    (omega arith, laying-turn (omega arith) (next_one letters c.loop-letter.letter-index (omega arith)) c.byte-next.ensures.text c.byte-next.auto.out c.loop-letter.invariant.1)

pub returns-clause-text : goal.returns-clause-text
returns-clause-text c = laying-end (drop_of_length-le c.args.letters.now c.loop-letter-test.false) c.loop-letter.invariant.1
