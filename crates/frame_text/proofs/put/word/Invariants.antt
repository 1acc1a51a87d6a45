-- What is left of the word, over the buffer as it is now, makes what the whole asks.
-- Assumes nothing.
use Prim.Native.Nat.{◌+◌, ◌≤◌}
use lib.ListN.{length, drop}
use Rattle.frame_text.specs.Private.{Laying}
use Rattle.frame_text.proofs.put.word.Given as goal

abbrev pub invariant-loop-letter : goal.invariant-loop-letter
invariant-loop-letter l = (l.next ≤ l.at + l.letter-index) × Laying (λ j. drop j l.letters) (length l.letters) l.initial.out l.at l.out l.next l.letter-index
