-- `estimate::coded_pairs` meets its contract: of the first `pairs` pairs the last that is not all zero is the last of all.
-- Assumes nothing.
use Prim.Native.Nat.{◌+◌, ◌-◌}
use mathlib.Core.Path.{◌≡◌, refl, ap, ◌∙◌}
use mathlib.Core.Bool.{not}
use native.Mathlib.Omega.{arith}
use Rattle.common.proofs.Bools.{refuted, confirmed}
use Rattle.contexts.specs.Contexts.{magnitudes}
use Rattle.contexts.proofs.Magnitudes.{magnitudes-length}
use Rattle.spectral_quantization.proofs.LastPairs.{pair_found, pair-passed, pair-first}
use Rattle.spectral_quantization.proofs.estimate.coded_pairs.Goals as goal

pub loop-p-init : goal.loop-p-init
loop-p-init c = (omega arith, omega arith, rw (magnitudes-length c.args.lines.now) refl)

pub returns-then-not-pair_is_zero-clause-value : goal.returns-then-not-pair_is_zero-clause-value
returns-then-not-pair_is_zero-clause-value c =
    let same : c.loop-p.p - 1 + 1 ≡ c.loop-p.p = omega arith in
    rw same (pair_found (magnitudes c.args.lines.now) c.loop-p.p c.loop-p.invariant.0 (refuted c.pair_is_zero.ensures (ap not c.if-not-pair_is_zero.true)) ∙ c.loop-p.invariant.2)

pub loop-p-preserved : goal.loop-p-preserved
loop-p-preserved c = (
  omega arith,
  omega arith,
  pair-passed (magnitudes c.args.lines.now) c.loop-p.p c.loop-p.invariant.0 (confirmed c.pair_is_zero.ensures (ap not c.if-not-pair_is_zero.false)) ∙ c.loop-p.invariant.2,
)

pub returns-clause-value : goal.returns-clause-value
returns-clause-value c =
    let xs = magnitudes c.args.lines.now in
    let one : c.loop-p.p ≡ 1 = omega arith in
    rw (← c.loop-p.invariant.2, one, pair-first xs) refl
