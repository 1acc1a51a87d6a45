-- What is told is of the field writer's answer, the answer is what its contract says of a content, and the content is what the slices give.
-- Assumes nothing.
use mathlib.Core.Path.{ap, ◌∙◌}
use Prim.Native.Nat.{ℕ}
use lib.ListN.{length}
use Rattle.common.specs.Reply.{Answer}
use Rattle.common.specs.Tables.{tables_of}
use Rattle.frame_writer.specs.Frame.{Content}
use Rattle.frame_writer.specs.Returned.{content_of}
use Rattle.recording.specs.Writer.{write_field}
use Rattle.host.specs.Told.{number_of}
use Rattle.host.proofs.Answers.{number-field}
use Rattle.host.proofs.lc3_write_field.Goals as goal

pub returns-clause-number : goal.returns-clause-number
returns-clause-number c =
    let a = c.args in
    let asked = λ (w : Content). write_field (record { fs_ind = a.fs_ind; duration = a.duration; reading = a.reading }) (tables_of a.lookup.now a.frequencies.now a.bits.now a.orders.now a.coefficients.now) w a.bytes (length a.buffer.now) a.offset in
    c.tell_field.ensures.number
    ∙ ap (λ (o : Answer ℕ). number_of o) c.write_frame-answer.ensures.answer
    ∙ number-field (asked (content_of c.content-content.result)) a.offset
    ∙ ap (λ (w : Content). number_of (asked w)) c.content-content.ensures
