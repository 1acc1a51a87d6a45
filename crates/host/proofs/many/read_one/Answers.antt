-- Behind the checks the whole frame's definition is the reading that the call behind them answers.
-- Assumes nothing.
use mathlib.Core.Path.{◌≡◌, ap, ◌∙◌}
use borrow.Author.Tests.{le-ltb}
use lib.ListN.{length}
use Rattle.common.specs.Reply.{answer_by}
use Rattle.common.specs.TableSets.{passed_of}
use Rattle.frame_reader.specs.Frame.{read_frame}
use Rattle.frame_reader.specs.Private.{shown}
use Rattle.frame_reader.specs.Returned.{reply_of, told, indices_of, residual_of, lines_behind}
use Rattle.frame_reader.proofs.Whole.{read-coded, shown-parts}
use Rattle.host.specs.Many.{one_if_read}
use Rattle.host.proofs.Frames.{ok-read, read_told}
use Rattle.host.proofs.many.read_one.Goals as goal
use Rattle.host.proofs.many.read_one.Goals.{After-read-answer}

-- the parts of what is handed back
parts : (c : After-read-answer) →
    let a = c.args in
    let whole = read_frame a.configuration (passed_of a.tables.now) (length a.lines.now) a.frame.now in
    (answer_by reply_of c.read-answer.result.outcome ≡ told a.configuration.reading whole) × (c.read-answer.result.indices ≡ indices_of whole) × (c.read-answer.result.residual ≡ residual_of whole) × (c.read-answer.new.lines ≡ lines_behind whole a.lines.now)
parts c =
    let a = c.args in
    let t = passed_of a.tables.now in
    shown-parts a.configuration.reading c.read-answer.result c.read-answer.new.lines a.lines.now (read_frame a.configuration t (length a.lines.now) a.frame.now)
    (c.read-answer.ensures ∙ ap (λ r. shown a.configuration.reading r a.lines.now) (read-coded a.configuration t (length a.lines.now) a.frame.now a.ne c.requires.0 a.tables.now.passed c.coded.result c.coded.ensures (le-ltb (length a.lines.now) a.ne c.requires.1)))

pub returns-clause-number : goal.returns-clause-number
returns-clause-number c =
    let a = c.args in
    let whole = read_frame a.configuration (passed_of a.tables.now) (length a.lines.now) a.frame.now in
    rw (c.from.ensures, c.is_ok.ensures.value) (ok-read reply_of c.read-answer.result.outcome ∙ ap one_if_read (parts (goal.at.returns-clause-number c).After-read-answer).0 ∙ read_told a.configuration.reading whole)

pub returns-clause-lent : goal.returns-clause-lent
returns-clause-lent c = (parts (goal.at.returns-clause-lent c).After-read-answer).3
