-- `inner::write` meets its contract: 13, 14 and 15 in their order, then 16 and the frame.
-- Assumes nothing.
use mathlib.Core.Path.{◌≡◌}
use mathlib.Core.Bool.{true, not}
use native.Mathlib.Omega.{arith}
use lib.ListN.{length}
use Rattle.std.proofs.Common.{ap}
use Rattle.common.specs.TableSets.{coded_of}
use Rattle.common.proofs.Bools.{confirmed}
use Rattle.frame_writer.specs.Frame.{fields_pass}
use Rattle.frame_writer.specs.Returned.{content_of, written_of}
use Rattle.frame_writer.specs.Private.{write_on, write_fitting}
use Rattle.frame_writer.proofs.Answers.{answering, none-fails, write-on, all-passed}
use Rattle.frame_writer.proofs.inner.write.Goals as goal
use Rattle.frame_writer.proofs.inner.write.Goals.{Else-not-fields_pass}

-- behind 13
passed : (c : Else-not-fields_pass) → let a = c.args in fields_pass a.configuration.fs_ind a.ne (content_of a.content.now) ≡ true
passed c = confirmed c.fields_pass.ensures (ap not c.if-not-fields_pass.false)

pub write_fitting-requires : goal.write_fitting-requires
write_fitting-requires c =
    let a = c.args in
    let p = c.requires in
    (p.0, all-passed a.configuration (coded_of a.tables.now) a.ne (content_of a.content.now) (length a.frame.now) (passed (goal.at.write_fitting-requires c).Else-not-fields_pass) (none-fails (content_of a.content.now) c.first_failing-place.result c.first_failing-place.ensures c.if-place-content.false) p.1 p.2 (omega (arith, c.nonzero_written.ensures, c.if-nonzero_written-content.false)))

pub returns : goal.returns
returns c =
    let a = c.args in
    let p = answering (written_of c.write_fitting.result) c.write_fitting.new.frame a.frame.now (write_on a.configuration (coded_of a.tables.now) a.ne (content_of a.content.now) (length a.frame.now)) (write_fitting a.configuration (coded_of a.tables.now) a.ne (content_of a.content.now) (length a.frame.now)) (write-on a.configuration (coded_of a.tables.now) a.ne (content_of a.content.now) (length a.frame.now) (passed (goal.at.returns c).Else-not-fields_pass) (none-fails (content_of a.content.now) c.first_failing-place.result c.first_failing-place.ensures c.if-place-content.false) (omega (arith, c.nonzero_written.ensures, c.if-nonzero_written-content.false))) (c.write_fitting.ensures.answer, c.write_fitting.ensures.lent) in record { answer = p.0; lent = p.1 }
