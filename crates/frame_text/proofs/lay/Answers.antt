-- What the reader answered is laid by its case: the line of a refusal, or the nine lines of a frame.
-- Assumes nothing.
use mathlib.Core.Path.{◌≡◌, refl, sym, ap, ◌∙◌}
use lib.ListN.{length}
use Rattle.frame_reader.specs.Returned.{reply_of}
use Rattle.common.specs.Reply.{answer_by}
use Rattle.common.specs.TableSets.{set_of}
use Rattle.frame_text.proofs.Whole.{refused-shown, returned-printable, accepted-shown}
use borrow.Author.Rules.{rules}
use Rattle.frame_text.proofs.lay.Goals as goal

pub nine-requires : goal.nine-requires
nine-requires c =
    let a = c.args in
    let outcome = ap (answer_by reply_of) (sym c.in-Ok.is) ∙ c.read-answer.ensures.outcome in
    let full : length c.read-answer.result.residual ≡ 400 = search rules in
    let many : length c.read-answer.new.lines ≡ 400 = search rules in
    returned-printable a.number a.configuration (set_of a.tables.now) a.frame.now c.in-Ok.n c.read-answer.result.indices c.read-answer.result.residual c.read-answer.new.lines _ outcome c.read-answer.ensures.indices c.read-answer.ensures.residual c.read-answer.ensures.lent refl full many

pub returns-in-Err : goal.returns-in-Err
returns-in-Err c =
    let a = c.args in
    let p = refused-shown a.number a.configuration (set_of a.tables.now) a.frame.now (reply_of c.in-Err.e) (ap (answer_by reply_of) (sym c.in-Err.is) ∙ c.read-answer.ensures.outcome) c.line.ensures.text in record { size = p.0; lent = p.1 }

pub returns-in-Ok : goal.returns-in-Ok
returns-in-Ok c =
    let a = c.args in
    let outcome = ap (answer_by reply_of) (sym c.in-Ok.is) ∙ c.read-answer.ensures.outcome in
    let p = accepted-shown a.number a.configuration (set_of a.tables.now) a.frame.now c.in-Ok.n c.read-answer.result.indices c.read-answer.result.residual c.read-answer.new.lines _ outcome c.read-answer.ensures.indices c.read-answer.ensures.residual c.read-answer.ensures.lent refl c.nine.ensures in record { size = p.0; lent = p.1 }
