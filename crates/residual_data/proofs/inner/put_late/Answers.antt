-- `inner::put_late` meets its contract: behind p pairs what they have late is put before the end.
-- Assumes nothing.
use Rattle.std.proofs.Common.{◌+◌, zero-add, arith}
use Rattle.residual_data.specs.Sent.{late_pair, late_pairs}
use Rattle.residual_data.proofs.Puts.{cut_most, cut-none, cut-behind, late-none, late-more}
use Rattle.residual_data.proofs.inner.put_late.Goals as goal

pub loop-p-init : goal.loop-p-init
loop-p-init c =
    let a = c.args in
    (omega arith, rw (late-none a.lines.now 0) (cut-none a.buf.now a.place (a.place + a.room)))

pub loop-p-preserved : goal.loop-p-preserved
loop-p-preserved c =
    let a = c.args in
    let pair = c.put_late_pair-at.ensures in (
      cut_most _ (omega arith) pair,
      rw (late-more a.lines.now 0 c.loop-p.p, zero-add c.loop-p.p) (cut-behind (late_pairs a.lines.now 0 c.loop-p.p) (late_pair a.lines.now c.loop-p.p) (omega arith) c.loop-p.invariant.1 pair),
    )
