-- `estimate::coded_pairs` meets its contract: of the first `pairs` pairs the last that is not all zero is the last of all.
-- Assumes nothing.
use Prim.Native.Nat.{◌*◌, ◌/◌, ◌≤◌}
use mathlib.Core.Path.{◌≡◌}
use lib.ListN.{length}
use Rattle.contexts.specs.Contexts.{magnitudes}
use Rattle.spectral_quantization.proofs.LastPairs.{coded_of}
use Rattle.spectral_quantization.proofs.estimate.coded_pairs.Given as goal

abbrev pub invariant-loop-p : goal.invariant-loop-p
invariant-loop-p l = (1 ≤ l.p) × (2 * l.p ≤ length l.lines) × (coded_of (magnitudes l.lines) l.p ≡ coded_of (magnitudes l.lines) (length (magnitudes l.lines) / 2))
