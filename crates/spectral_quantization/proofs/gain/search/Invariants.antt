-- `gain::search` meets its contract: the invariant says that the turns that are left, from the present step and index, find what
-- the whole search finds, and that the index has room for the step (`Turns.antt`). The measure is how many turns are left.
-- Assumes nothing.
use mathlib.Core.Path.{◌≡◌}
use Prim.Native.Nat.{◌-◌}
use Rattle.spectral_quantization.specs.Gain.{turns, searched}
use Rattle.spectral_quantization.proofs.Turns.{Room}
use Rattle.spectral_quantization.proofs.gain.search.Given as goal

abbrev pub invariant-loop : goal.invariant-loop
invariant-loop l = Room l.fac l.index × (turns l.energies l.offset l.target (8 - l.counter) l.fac l.index ≡ searched l.energies l.offset l.target)

abbrev pub decreases-loop : goal.decreases-loop
decreases-loop l = 8 - l.counter
