-- `read` meets its contract: the checks 1 to 4 in their order, then the reading behind them. Assumes nothing.
use mathlib.Core.Path.{◌≡◌, sym, ap, ◌∙◌}
use native.Mathlib.Omega.{arith}
use borrow.Author.Tests.{lt-ltb, le-ltb}
use lib.ListN.{length}
use Rattle.common.specs.Reply.{accepted, answer_by}
use Rattle.common.specs.Configuration.{frame_lines, reply_of}
use Rattle.common.specs.TableSets.{set_of}
use Rattle.common.specs.Tables.{tables_pass, coded_in}
use Rattle.frame_reader.specs.Frame.{read_frame}
use Rattle.frame_reader.specs.Returned.{reply_of as frame_reply, told, indices_of, residual_of, lines_behind}
use Rattle.frame_reader.specs.Private.{shown}
use Rattle.frame_reader.proofs.Whole.{tables-refused, count-refused, read-coded, shown-parts}
use Rattle.frame_reader.proofs.read.Goals as goal
use Rattle.frame_reader.proofs.read.Goals.{In-Ok, After-read}

ne-at : (c : In-Ok) → frame_lines c.args.configuration (length c.args.frame.now) ≡ accepted c.in-Ok.ne
ne-at c = sym c.frame_lines.ensures ∙ ap (answer_by reply_of) c.in-Ok.is

pub returns-in_default-clause-residual : goal.returns-in_default-clause-residual
returns-in_default-clause-residual c =
    let a = c.args in
    c.refused-in_default.ensures.residual
    ∙ ap residual_of (sym (tables-refused a.configuration (set_of a.tables.now) (length a.lines.now) a.frame.now c.in-Ok.ne (ne-at (goal.at.returns-in_default-clause-residual c).In-Ok) c.in_default.ensures))

pub returns-then-lines-ne-clause-residual : goal.returns-then-lines-ne-clause-residual
returns-then-lines-ne-clause-residual c =
    let a = c.args in
    let passes = ap tables_pass (sym c.in-Some.ensures) ∙ c.in-Some.passed.passed in
    c.refused-then-lines-ne.ensures.residual
    ∙ ap residual_of (sym (count-refused a.configuration (set_of a.tables.now) (length a.lines.now) a.frame.now c.in-Ok.ne (ne-at (goal.at.returns-then-lines-ne-clause-residual c).In-Ok) passes (lt-ltb (length a.lines.now) c.in-Ok.ne (omega (arith, c.if-lines-ne.true)))))

-- a set that passes is read by its coded parts
parts : (c : After-read) →
    let a = c.args in
    let r = read_frame a.configuration (set_of a.tables.now) (length a.lines.now) a.frame.now in
    (answer_by frame_reply c.read.result.outcome ≡ told a.configuration.reading r) × (c.read.result.indices ≡ indices_of r) × (c.read.result.residual ≡ residual_of r) × (c.read.new.lines ≡ lines_behind r a.lines.now)
parts c =
    let a = c.args in
    let t = set_of a.tables.now in
    let passes = ap tables_pass (sym c.in-Some.ensures) ∙ c.in-Some.passed.passed in
    let same = c.coded.ensures ∙ ap coded_in c.in-Some.ensures in
    let on = read-coded a.configuration t (length a.lines.now) a.frame.now c.in-Ok.ne (ne-at (goal.at.After-read c).In-Ok) passes c.coded.result same (le-ltb (length a.lines.now) c.in-Ok.ne (omega (arith, c.if-lines-ne.false))) in
    shown-parts a.configuration.reading c.read.result c.read.new.lines a.lines.now (read_frame a.configuration t (length a.lines.now) a.frame.now)
    (c.read.ensures ∙ ap (λ r. shown a.configuration.reading r a.lines.now) on)

pub returns-clause-outcome : goal.returns-clause-outcome
returns-clause-outcome c = (parts (goal.at.returns-clause-outcome c).After-read).0

pub returns-clause-indices : goal.returns-clause-indices
returns-clause-indices c = (parts (goal.at.returns-clause-indices c).After-read).1

pub returns-clause-residual : goal.returns-clause-residual
returns-clause-residual c = (parts (goal.at.returns-clause-residual c).After-read).2

pub returns-clause-lent : goal.returns-clause-lent
returns-clause-lent c = (parts (goal.at.returns-clause-lent c).After-read).3
