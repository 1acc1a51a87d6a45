-- What is left of the numbers, over the buffer as it is now, makes what the whole asks.
-- Assumes nothing.
use Prim.Native.Nat.{◌+◌, ◌*◌, ◌≤◌}
use lib.ListN.{length, drop}
use Rattle.std.specs.Prelude.{map}
use Rattle.frame_text.specs.Text.{spaced}
use Rattle.frame_text.specs.Private.{Laying}
use Rattle.frame_text.proofs.put.spaced.Given as goal

abbrev pub invariant-loop-n : goal.invariant-loop-n
invariant-loop-n g l = (l.next ≤ l.at + 32 * l.n-index) × Laying (λ j. spaced (drop j (map g.N.Figure.value l.numbers))) (length l.numbers) l.initial.out l.at l.out l.next l.n-index
