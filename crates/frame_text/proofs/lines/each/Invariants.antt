-- What is left of the lines, over the buffer as it is now, makes what the whole asks.
-- Assumes nothing.
use Prim.Native.Nat.{◌+◌, ◌*◌, ◌≤◌}
use lib.ListN.{length, drop}
use Rattle.frame_text.specs.Text.{each_line}
use Rattle.frame_text.specs.Private.{Laying}
use Rattle.frame_text.proofs.lines.each.Given as goal

abbrev pub invariant-loop-k : goal.invariant-loop-k
invariant-loop-k l = (l.next ≤ l.at + 76 * l.k) × Laying (λ j. each_line j (drop j l.lines)) (length l.lines) l.initial.out l.at l.out l.next l.k
