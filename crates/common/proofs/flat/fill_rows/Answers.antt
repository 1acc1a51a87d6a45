-- `flat::fill_rows` meets its contract: the entries before place i are those of the rows, and a turn adds the one at i.
-- Assumes nothing.
use mathlib.Core.Path.{◌≡◌, ◌∙◌, refl}
use native.Mathlib.Omega.{arith}
use borrow.Author.Tests.{eq-eqb, ne_eqb}
use Rattle.common.specs.Flat.{in_rows}
use Rattle.common.proofs.Fills.{fill_none, fill_one, fill-all}
use Rattle.common.proofs.flat.fill_rows.Goals as goal
use Rattle.common.proofs.flat.fill_rows.Goals.{then-i-width-eq0, else-i-width-eq0}

pub loop-i-init : goal.loop-i-init
loop-i-init c = fill_none (in_rows c.args.width c.args.first c.args.rest) c.args.part.now

pub loop-i-preserved : goal.loop-i-preserved
loop-i-preserved c =
    let a = c.args in
    let entry : c.if-i-width-eq0.entry ≡ in_rows a.width a.first a.rest c.loop-i.i = elim c.if-i-width-eq0.branch [
      | then-i-width-eq0 w ↦ w.entry-is ∙ rw (eq-eqb _ _ w.if-i-width-eq0.true) refl
      | else-i-width-eq0 w ↦ w.entry-is ∙ rw (ne_eqb _ _ w.if-i-width-eq0.false) refl
    ] in
    rw entry (fill_one (in_rows _ _ _) _ _ (omega arith) c.loop-i.invariant)

pub returns : goal.returns
returns c = fill-all (in_rows _ _ _) _ c.args.part.now c.loop-i.i (omega arith) (omega arith) c.loop-i.invariant
