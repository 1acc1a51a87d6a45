-- `inner::escapes_at` meets its contract: both magnitudes are those of the pair's lines, and below 65,536.
-- Assumes nothing.
use mathlib.Core.Path.{◌≡◌, refl, ◌∙◌}
use native.Mathlib.Omega.{arith}
use Rattle.contexts.specs.Contexts.{escapes}
use Rattle.contexts.specs.Lines.{escapes_at}
use Rattle.contexts.proofs.Escapes.{escapes-law}
use Rattle.contexts.proofs.Magnitudes.{magnitude-read}
use Rattle.contexts.proofs.inner.escapes_at.Goals as goal

pub returns : goal.returns
returns c =
    let a = c.args in
    let same : escapes c.magnitude_at.result c.magnitude_at-2.result ≡ escapes_at a.lines.now a.p = rw (c.magnitude_at.ensures.value, c.magnitude_at-2.ensures.value, magnitude-read, magnitude-read) refl in
    (c.escapes.ensures ∙ same, rw c.escapes.ensures (escapes-law c.magnitude_at.result c.magnitude_at-2.result (omega (arith, c.magnitude_at.ensures.most)) (omega (arith, c.magnitude_at-2.ensures.most))).most)
