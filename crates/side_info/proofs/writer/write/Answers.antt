-- `writer::write` meets its contract: `frame_lines` decides refusals 1 and 2, `side_passes` 13, and the fields are written as their list says.
-- Assumes nothing.
use mathlib.Core.Path.{sym, ◌∙◌}
use mathlib.Core.Bool.{not}
use native.Mathlib.Omega.{arith}
use lib.ListN.{length}
use Rattle.std.proofs.Common.{ap}
use Rattle.common.proofs.Bools.{refuted, confirmed}
use Rattle.common.proofs.Configurations.{frame-ranges}
use Rattle.side_info.proofs.Answers.{write-field, write-on}
use Rattle.side_info.proofs.Lengths.{length-range}
use Rattle.side_info.proofs.writer.write.Goals as goal

pub returns-then-not-side_passes-clause-lent : goal.returns-then-not-side_passes-clause-lent
returns-then-not-side_passes-clause-lent c =
    let a = c.args in
    (write-field a.configuration a.side a.buf.now a.at (sym c.in_ok-ne.ensures) (refuted c.side_passes.ensures (ap not c.if-not-side_passes.true))).1

pub fields_of-fields-requires : goal.fields_of-fields-requires
fields_of-fields-requires c =
    let (low, least, most, _, _) = frame-ranges c.args.configuration (length c.args.buf.now) (sym c.in_ok-ne.ensures) in
    (low, least, most, confirmed c.side_passes.ensures (ap not c.if-not-side_passes.false))

pub write_fields-requires : goal.write_fields-requires
write_fields-requires c =
    let a = c.args in
    let (low, least, most, _, short) = frame-ranges a.configuration (length a.buf.now) (sym c.in_ok-ne.ensures) in
    (short, rw c.fields_of-fields.ensures (omega (arith, length-range a.configuration.fs_ind c.in_ok-ne.ne a.side low least most)))

pub returns : goal.returns
returns c =
    let a = c.args in
    let on = write-on a.configuration a.side a.buf.now a.at (sym c.in_ok-ne.ensures) (confirmed c.side_passes.ensures (ap not c.if-not-side_passes.false)) in
    let done = rw c.fields_of-fields.ensures at c.write_fields.ensures in
    record { answer = done.answer ∙ on.0; lent = done.lent ∙ on.1 }
