-- What is left to lay, over the slice as it is now, makes what the whole asks; the loop ends where either list does.
-- Assumes nothing.
use mathlib.Core.Path.{sym, ◌∙◌}
use native.Mathlib.Omega.{arith}
use Rattle.recording.proofs.Words.{words-turn, words-end}
use Rattle.recording.proofs.contents.take_words.Goals as goal

pub loop-i-preserved : goal.loop-i-preserved
loop-i-preserved c =
    sym (words-turn c.loop-i.out c.args.content.now c.loop-i.i c.from_be_bytes.result (omega arith) c.from_be_bytes.ensures) ∙ c.loop-i.invariant

pub returns : goal.returns
returns c = sym (words-end c.loop-i.out c.args.content.now c.loop-i.i (omega arith)) ∙ c.loop-i.invariant
