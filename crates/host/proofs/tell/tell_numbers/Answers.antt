-- Each list is the array that holds it, laid over its slice.
-- Assumes nothing.
use lib.Seq.{sets}
use Prim.Native.Nat.{ℕ}
use mathlib.Core.List.{List}
use mathlib.Core.Path.{ap, ◌∙◌}
use Rattle.host.proofs.tell.tell_numbers.Goals as goal

pub returns-clause-sums : goal.returns-clause-sums
returns-clause-sums c = c.lay.ensures ∙ ap (λ (l : List ℕ). sets c.args.words.now 0 l) c.words.ensures
