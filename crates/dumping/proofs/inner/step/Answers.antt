-- `inner::step` meets its contract: a field that was found is printed and taken as the definition says; its text and its tables.
-- Assumes nothing.
use Rattle.std.proofs.Common.{sym, ap, ◌∙◌}
use Rattle.std.proofs.lemmas.List.Edits.{sets}
use Rattle.common.specs.Tables.{tables_of}
use Rattle.recording.specs.Tagged.{answer_of}
use Rattle.dumping.specs.Dump.{Held}
use Rattle.dumping.specs.Steps.{Step}
use Rattle.dumping.proofs.Parts.{step-found}
use Rattle.dumping.proofs.inner.step.Goals as goal

pub returns-in-Ok-Some-clause-tables : goal.returns-in-Ok-Some-clause-tables
returns-in-Ok-Some-clause-tables c =
    let a = c.args in
    let h : Held = record { state = a.state; tables = tables_of a.lookup.now a.frequencies.now a.bits.now a.orders.now a.coefficients.now } in
    c.on_field.ensures.tables ∙ ap (λ (s : Step). s.held.tables) (step-found h a.input.now a.offset c.in-Ok-Some.x (rw c.in-Ok-Some.field-0-is at (sym c.field_at.ensures ∙ ap answer_of c.in-Ok-Some.is)))

pub returns-in-Ok-Some-clause-lent : goal.returns-in-Ok-Some-clause-lent
returns-in-Ok-Some-clause-lent c =
    let a = c.args in
    let h : Held = record { state = a.state; tables = tables_of a.lookup.now a.frequencies.now a.bits.now a.orders.now a.coefficients.now } in
    c.on_field.ensures.lent ∙ ap (λ (s : Step). sets a.out.now 0 s.text) (step-found h a.input.now a.offset c.in-Ok-Some.x (rw c.in-Ok-Some.field-0-is at (sym c.field_at.ensures ∙ ap answer_of c.in-Ok-Some.is)))
