-- `inner::put_late` meets its contract: behind p pairs what they have late is put before the end.
-- Assumes nothing.
use Rattle.std.proofs.Common.{◌≤◌}
use Rattle.residual_data.specs.Sent.{late_pairs}
use Rattle.residual_data.specs.Private.{Cut}
use Rattle.residual_data.proofs.inner.put_late.Given as goal

abbrev pub invariant-loop-p : goal.invariant-loop-p
invariant-loop-p l = (l.at ≤ l.end) × Cut l.initial.buf l.place l.end (late_pairs l.lines 0 l.p) l.at l.buf
