-- `inner::nonzero` meets its contract: one line more counts what the definition says of it.
-- Assumes nothing.
use Rattle.std.proofs.Common.{◌≡◌, get_or, pos, refl, arith, to_z-of_z, w32, SFits}
use Rattle.residual_data.proofs.Residuals.{counts, tested-counts, nonzero-none, nonzero-turn, counts-most}
use Rattle.residual_data.proofs.inner.nonzero.Goals as goal
use Rattle.residual_data.proofs.inner.nonzero.Goals.{After-from-n}

-- what the line that is counted counts
told : (c : After-from-n) → c.from-n.result ≡ counts (get_or c.args.lines.now c.loop-k.k (pos 0))
told c =
    let x = get_or c.args.lines.now c.loop-k.k (pos 0) in
    let fits : SFits w32 x = record { sfits = omega arith } in
    rw (c.from-n.ensures, c.magnitude.ensures, to_z-of_z fits) (tested-counts x)

pub loop-k-init : goal.loop-k-init
loop-k-init c = (omega arith, nonzero-none c.args.lines.now)

pub loop-k-preserved : goal.loop-k-preserved
loop-k-preserved c =
    let x = get_or c.args.lines.now c.loop-k.k (pos 0) in
    let t = told (goal.at.loop-k-preserved c).After-from-n in
    (omega (arith, t, counts-most x, c.loop-k.invariant.0), rw (t, c.loop-k.invariant.1, nonzero-turn c.args.lines.now c.loop-k.k (omega arith)) refl)
