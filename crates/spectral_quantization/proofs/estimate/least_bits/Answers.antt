-- `estimate::least_bits` meets its contract: only an escaped pair has least bits, and only where the mode flag is set.
-- Assumes nothing.
use mathlib.Core.Path.{refl, sym}
use Rattle.spectral_quantization.proofs.Costs.{one-counted, least-there, least-level, least-unset}
use Rattle.spectral_quantization.proofs.estimate.least_bits.Goals as goal
use Rattle.spectral_quantization.proofs.estimate.least_bits.Goals.{else-mode-via-then-mode+else-n-gt0, else-mode-via-else-mode}

pub returns-then-n-gt0-clause-value : goal.returns-then-n-gt0-clause-value
returns-then-n-gt0-clause-value c =
    let a = c.args in
    rw (least-there a.mode a.a a.b a.n c.requires c.if-mode.true c.if-n-gt0.true, c.from.ensures, c.from-then-n-gt0.ensures, one-counted a.a, one-counted a.b) refl

pub returns-else-mode-clause-value : goal.returns-else-mode-clause-value
returns-else-mode-clause-value c =
    let a = c.args in
    elim c.else-mode.branch [
      | else-mode-via-then-mode+else-n-gt0 w ↦ sym (least-level a.mode a.a a.b a.n c.requires w.if-n-gt0.false)
      | else-mode-via-else-mode w ↦ sym (least-unset a.mode a.a a.b a.n c.requires w.if-mode.false)
    ]
