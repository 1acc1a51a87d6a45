-- What is left to lay, over the slice as it is now, makes what the whole asks; the loop ends where either list does.
-- Assumes nothing.
use mathlib.Core.Path.{◌≡◌}
use lib.ListN.{drop}
use lib.Seq.{sets}
use Rattle.recording.specs.Contents.{words_of}
use Rattle.recording.proofs.contents.take_words.Given as goal

abbrev pub invariant-loop-i : goal.invariant-loop-i
invariant-loop-i l = sets l.out l.i (drop l.i (words_of l.content)) ≡ sets l.initial.out 0 (words_of l.content)
