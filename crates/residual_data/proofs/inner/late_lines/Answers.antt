-- `inner::late_lines` meets its contract: what is left from a pair on, behind the lines that are passed, is what the whole asks.
-- Assumes nothing.
use Rattle.std.proofs.Common.{◌≡◌, ◌+◌, ◌*◌, ◌≤◌, get_or, take, ℤ, pos, nat_abs, sym, ap, ◌∙◌, arith, w32, to_z, of_z}
use Rattle.residual_data.specs.Residual.{Late, late_line, escaped_by}
use Rattle.residual_data.specs.Private.{late_of}
use Rattle.residual_data.proofs.Lines.{same_line}
use Rattle.residual_data.proofs.Lates.{line-spends, line-held}
use Rattle.residual_data.proofs.Turns.{passed_start, ahead-most, passed-kept, passed-late, passed-end}
use Rattle.residual_data.proofs.inner.late_lines.Goals as goal
use Rattle.residual_data.proofs.inner.late_lines.Goals.{In-loop-p, then-escaped, else-escaped}

-- the two lines of the pair, and their bounds
abbrev first : In-loop-p → ℤ
first c = get_or c.loop-p.lines (2 * c.loop-p.p) (pos 0)

abbrev second : In-loop-p → ℤ
second c = get_or c.loop-p.lines (2 * c.loop-p.p + 1) (pos 0)

ready : (c : In-loop-p) → (nat_abs (first c) ≤ 81919) × (nat_abs (second c) ≤ 81919)
ready c = ahead-most c.args.buf.now (escaped_by c.args.reading (take c.args.pairs c.args.levels.now)) c.args.lines.now c.args.pairs c.args.tail c.args.room (omega arith) c.loop-p.lines c.loop-p.at c.loop-p.left c.loop-p.p c.loop-p-test.true c.loop-p.invariant 81919 c.requires.5

pub loop-p-init : goal.loop-p-init
loop-p-init c = passed_start c.args.buf.now (escaped_by c.args.reading (take c.args.pairs c.args.levels.now)) c.args.lines.now c.args.pairs c.args.tail c.args.room

pub late_line-first-requires : goal.late_line-first-requires
late_line-first-requires c =
    let most = (ready (goal.at.late_line-first-requires c).In-loop-p).0 in
    (omega arith, omega (arith, c.loop-p.invariant.spent), rw (same_line (first (goal.at.late_line-first-requires c).In-loop-p) (omega arith)) most)

pub late_line-second-requires : goal.late_line-second-requires
late_line-second-requires c =
    let most = (ready (goal.at.late_line-second-requires c).In-loop-p).1 in
    let spends = ap (λ (l : Late). l.tail + l.room) c.late_line-first.ensures in (
      omega arith,
      omega (arith, c.loop-p.invariant.spent, spends, line-spends c.args.buf.now (to_z w32 (of_z w32 (first (goal.at.late_line-second-requires c).In-loop-p))) c.loop-p.at c.loop-p.left),
      rw (same_line (second (goal.at.late_line-second-requires c).In-loop-p) (omega arith)) most,
    )

pub loop-p-preserved : goal.loop-p-preserved
loop-p-preserved c =
    let a = c.args in
    let l = c.loop-p in
    let here = (goal.at.loop-p-preserved c).In-loop-p in
    elim c.if-escaped.branch [
      | then-escaped w ↦
          let u = w.late_line-first.result in
          let v = w.late_line-second.result in
          let most = ready here in
          let at_first : late_of u ≡ late_line a.buf.now (first here) l.at l.left = w.late_line-first.ensures ∙ ap (λ (z : ℤ). late_line a.buf.now z l.at l.left) (same_line (first here) (omega arith)) in
          let at_second : late_of v ≡ late_line a.buf.now (second here) u.tail u.room = w.late_line-second.ensures ∙ ap (λ (z : ℤ). late_line a.buf.now z u.tail u.room) (same_line (second here) (omega arith)) in
          let x-held = line-held a.buf.now (first here) l.at l.left u.line most.0 (ap (λ (z : Late). z.line) at_first) in
          let y-held = line-held a.buf.now (second here) u.tail u.room v.line most.1 (ap (λ (z : Late). z.line) at_second) in
          rw (w.lines-is, w.at-is, w.left-is, x-held, y-held)
          (passed-late a.buf.now (escaped_by a.reading (take a.pairs a.levels.now)) a.lines.now a.pairs a.tail a.room (omega arith) l.lines l.at l.left l.p (omega arith) l.invariant (sym c.escaped.ensures ∙ w.if-escaped.true) (late_of u) (late_of v) at_first at_second)
      | else-escaped w ↦
          rw (w.lines-is, w.at-is, w.left-is)
          (passed-kept a.buf.now (escaped_by a.reading (take a.pairs a.levels.now)) a.lines.now a.pairs a.tail a.room (omega arith) l.lines l.at l.left l.p (omega arith) l.invariant (sym c.escaped.ensures ∙ w.if-escaped.false))
    ]

pub returns : goal.returns
returns c = let p = passed-end c.args.buf.now (escaped_by c.args.reading (take c.args.pairs c.args.levels.now)) c.args.lines.now c.args.pairs c.args.tail c.args.room (omega arith) c.loop-p.lines c.loop-p.at c.loop-p.left c.loop-p.p (omega arith) c.loop-p.invariant in record { tail = p.0; lent = p.1 }
