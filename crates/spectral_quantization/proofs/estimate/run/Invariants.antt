-- `estimate::run` meets its contract: the running numbers are those behind the first `p` pairs, and as far as these bring them.
-- Assumes nothing.
use mathlib.Core.Path.{◌≡◌}
use Rattle.contexts.specs.Contexts.{magnitudes}
use Rattle.spectral_quantization.specs.Private.{running_at, Bounded}
use Rattle.spectral_quantization.proofs.estimate.run.Given as goal

abbrev pub invariant-loop-p : goal.invariant-loop-p
invariant-loop-p l = (l.s ≡ running_at l.tables.lookup.now l.tables.bits.now l.frame (magnitudes l.lines) l.p) × Bounded l.p l.s
