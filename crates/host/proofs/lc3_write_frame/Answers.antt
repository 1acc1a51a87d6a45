-- What is told is of the writer's answer, the answer is what the writer's contract says of a content, and the content is what the slices give.
-- Assumes nothing.
use mathlib.Core.Path.{ap, ◌∙◌}
use lib.ListN.{length}
use Rattle.common.specs.Reply.{Answer}
use Rattle.common.specs.Tables.{tables_of}
use Rattle.frame_writer.specs.Frame.{Content, write_frame}
use Rattle.frame_writer.specs.Returned.{content_of}
use Rattle.host.specs.Told.{number_of, place_behind}
use Rattle.host.proofs.Answers.{number-written, place-written}
use Rattle.host.proofs.lc3_write_frame.Goals as goal

pub returns-clause-number : goal.returns-clause-number
returns-clause-number c =
    let a = c.args in
    let asked = λ (w : Content). write_frame (record { fs_ind = a.fs_ind; duration = a.duration; reading = a.reading }) (tables_of a.lookup.now a.frequencies.now a.bits.now a.orders.now a.coefficients.now) w (length a.frame.now) in
    c.tell_written.ensures.number
    ∙ ap (λ (o : Answer (Unit {0})). number_of o) c.write-answer.ensures.answer
    ∙ number-written (asked (content_of c.content-content.result))
    ∙ ap (λ (w : Content). number_of (asked w)) c.content-content.ensures

pub returns-clause-place : goal.returns-clause-place
returns-clause-place c =
    let a = c.args in
    let asked = λ (w : Content). write_frame (record { fs_ind = a.fs_ind; duration = a.duration; reading = a.reading }) (tables_of a.lookup.now a.frequencies.now a.bits.now a.orders.now a.coefficients.now) w (length a.frame.now) in
    c.tell_written.ensures.place
    ∙ ap (λ (o : Answer (Unit {0})). place_behind o a.numbers.now) c.write-answer.ensures.answer
    ∙ place-written (asked (content_of c.content-content.result)) a.numbers.now
    ∙ ap (λ (w : Content). place_behind (asked w) a.numbers.now) c.content-content.ensures
