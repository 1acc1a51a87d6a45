-- `write` meets its contract: behind 1 to 3 the set that is handed on is the one that was lent, and 4 and the writing behind it follow.
-- Assumes nothing.
use mathlib.Core.Path.{◌≡◌, refl, sym, ap, subst, ◌∙◌}
use mathlib.Core.Bool.{true}
use lib.ListN.{length}
use Rattle.common.specs.Reply.{wrong_count}
use Rattle.common.specs.TableSets.{set_of, passed_of, coded_of}
use Rattle.common.specs.Tables.{Tables, tables_pass, coded_in}
use Rattle.frame_writer.specs.Frame.{write_frame}
use Rattle.frame_writer.specs.Returned.{content_of, written_of}
use Rattle.frame_writer.specs.Private.{write_on}
use Rattle.frame_writer.proofs.Answers.{refusing, answering, count-refused, frame_on}
use Rattle.frame_writer.proofs.write.Goals as goal
use Rattle.frame_writer.proofs.write.Goals.{In_ok-passed}

-- the set that passes is the one that was lent
same : (c : In_ok-passed) → passed_of c.in_ok-passed.passed ≡ set_of c.args.tables.now
same c = rw c.in_ok-passed.ensures.ok_part at c.passed.ensures

passes : (c : In_ok-passed) → tables_pass (set_of c.args.tables.now) ≡ true
passes c = subst (λ (t : Tables). tables_pass t ≡ true) (same c) c.in_ok-passed.passed.passed

pub returns-then-content-ne : goal.returns-then-content-ne
returns-then-content-ne c =
    let a = c.args in
    let w = content_of a.content.now in
    let n = length a.frame.now in
    let p = refusing (wrong_count (length w.lines)) a.frame.now a.frame.now (write_frame a.configuration (set_of a.tables.now) w n) (count-refused a.configuration (set_of a.tables.now) w n c.in_ok-ne.ne (sym c.in_ok-ne.ensures) (passes (goal.at.returns-then-content-ne c).In_ok-passed) c.if-content-ne.true) refl in record { answer = p.0; lent = p.1 }

pub returns : goal.returns
returns c =
    let a = c.args in
    let w = content_of a.content.now in
    let n = length a.frame.now in
    let on = frame_on a.configuration (set_of a.tables.now) w n c.in_ok-ne.ne (sym c.in_ok-ne.ensures) (passes (goal.at.returns c).In_ok-passed) c.if-content-ne.false ∙ ap (λ (t : Tables). write_on a.configuration t c.in_ok-ne.ne w n) (sym (c.coded.ensures ∙ ap coded_in (same (goal.at.returns c).In_ok-passed))) in
    let p = answering (written_of c.write.result) c.write.new.frame a.frame.now (write_frame a.configuration (set_of a.tables.now) w n) (write_on a.configuration (coded_of c.coded.result) c.in_ok-ne.ne w n) on (c.write.ensures.answer, c.write.ensures.lent) in record { answer = p.0; lent = p.1 }
