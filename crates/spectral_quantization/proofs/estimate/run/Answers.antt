-- `estimate::run` meets its contract: the running numbers are those behind the first `p` pairs, and as far as these bring them.
-- Assumes nothing.
use Rattle.contexts.specs.Contexts.{magnitudes}
use Rattle.spectral_quantization.proofs.Runs.{start-bounded, running_none, running_more}
use Rattle.spectral_quantization.proofs.estimate.run.Goals as goal

pub loop-p-init : goal.loop-p-init
loop-p-init c =
    let a = c.args in
    (running_none a.tables.now.lookup.now a.tables.now.bits.now a.frame (magnitudes a.lines.now), start-bounded)

pub loop-p-preserved : goal.loop-p-preserved
loop-p-preserved c =
    let a = c.args in (
      rw (running_more a.tables.now.lookup.now a.tables.now.bits.now a.frame (magnitudes a.lines.now) c.loop-p.p, ← c.loop-p.invariant.0, ← c.magnitude_at-a.ensures.value, ← c.magnitude_at-b.ensures.value) c.on_pair-s.ensures.value,
      c.on_pair-s.ensures.bounds,
    )
