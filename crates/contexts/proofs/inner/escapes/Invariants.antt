-- `inner::escapes` meets its contract: the loop stops at the first place where both fit, which is the definition's least.
-- The places before n do not fit, and place 14 does. Assumes nothing.
use Prim.Native.Nat.{ℕ, ◌<◌}
use mathlib.Core.Path.{◌≡◌}
use mathlib.Core.Bool.{false}
use Rattle.contexts.specs.Contexts.{fits_symbol}
use Rattle.contexts.proofs.inner.escapes.Given as goal

abbrev pub invariant-loop-n : goal.invariant-loop-n
invariant-loop-n l = (i : ℕ) → i < l.n → fits_symbol l.a l.b i ≡ false
