-- `inner::first_failing` meets its contract: no line before the place fails, so the first from there on is the first of all.
-- Assumes nothing.
use mathlib.Core.Path.{◌≡◌, sym, ◌∙◌}
use native.Mathlib.Omega.{arith}
use lib.ListN.{length}
use borrow.Author.Rules.{rules}
use Rattle.contexts.specs.Lines.{magnitude_at}
use Rattle.frame_writer.specs.Private.{fails_at}
use Rattle.frame_writer.proofs.Lines.{first-here, first-later, first-end, fails-told}
use Rattle.frame_writer.proofs.inner.first_failing.Goals as goal
use Rattle.frame_writer.proofs.inner.first_failing.Goals.{After-line_fails}

-- what the line at the place is judged to be
judged : (c : After-line_fails) → fails_at c.args.lines.now c.args.lastnz c.loop-k.k ≡ c.line_fails.result
judged c =
    let a = c.args in
    let value : c.magnitude.result ≡ magnitude_at a.lines.now c.loop-k.k = search rules in
    fails-told a.lines.now a.lastnz c.loop-k.k c.magnitude.result c.line_fails.result value c.line_fails.ensures

pub returns-then-line_fails : goal.returns-then-line_fails
returns-then-line_fails c =
    let a = c.args in
    sym (first-here (fails_at a.lines.now a.lastnz) (length a.lines.now) c.loop-k.k (omega arith) (judged (goal.at.returns-then-line_fails c).After-line_fails ∙ c.if-line_fails.true)) ∙
    c.loop-k.invariant

pub loop-k-preserved : goal.loop-k-preserved
loop-k-preserved c =
    let a = c.args in
    sym (first-later (fails_at a.lines.now a.lastnz) (length a.lines.now) c.loop-k.k (omega arith) (judged (goal.at.loop-k-preserved c).After-line_fails ∙ c.if-line_fails.false)) ∙
    c.loop-k.invariant

pub returns : goal.returns
returns c =
    let a = c.args in
    let all : length a.lines.now ≡ c.loop-k.k = omega arith in
    all ∙ sym (first-end (fails_at a.lines.now a.lastnz) (length a.lines.now) c.loop-k.k (omega arith)) ∙ c.loop-k.invariant
