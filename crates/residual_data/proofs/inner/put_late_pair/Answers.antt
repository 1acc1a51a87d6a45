-- `inner::put_late_pair` meets its contract: a pair with no escape has nothing late, any other both lines behind one another.
-- Assumes nothing.
use Rattle.std.proofs.Common.{◌+◌, ◌*◌, arith, le-ltb, lt-ltb}
use Rattle.contexts.specs.Lines.{escapes_at}
use Rattle.residual_data.specs.Sent.{late_at}
use Rattle.residual_data.proofs.Puts.{cut_most, cut-none, cut-behind}
use Rattle.residual_data.proofs.inner.put_late_pair.Goals as goal

pub returns-then-escapes_at-eq0 : goal.returns-then-escapes_at-eq0
returns-then-escapes_at-eq0 c =
    let a = c.args in
    rw (le-ltb 0 (escapes_at a.lines.now a.p) (omega (arith, c.escapes_at.ensures.0, c.if-escapes_at-eq0.true))) (cut-none a.buf.now a.at a.end)

pub put_late_line-requires : goal.put_late_line-requires
put_late_line-requires c = (cut_most _ (omega arith) c.put_late_line-next.ensures, omega arith, omega arith)

pub returns : goal.returns
returns c =
    let a = c.args in
    rw (lt-ltb 0 (escapes_at a.lines.now a.p) (omega (arith, c.escapes_at.ensures.0, c.if-escapes_at-eq0.false)))
    (cut-behind (late_at a.lines.now (2 * a.p)) (late_at a.lines.now (2 * a.p + 1)) (omega arith) c.put_late_line-next.ensures c.put_late_line.ensures)
