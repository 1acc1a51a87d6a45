-- A check that refuses does so for each frame; behind the checks all that fit are read.
-- Assumes nothing.
use mathlib.Core.Path.{◌≡◌, sym, ap, ◌∙◌}
use borrow.Author.Tests.{lt-ltb}
use lib.ListN.{length}
use Rattle.common.specs.Reply.{accepted, answer_by}
use Rattle.common.specs.Configuration.{frame_lines, reply_of}
use Rattle.common.specs.Tables.{tables_of, tables_pass}
use Rattle.common.specs.declared.configuration.Configuration.{Configuration}
use Rattle.host.proofs.Frames.{unencoded-nothing, tables-nothing, count-nothing}
use Rattle.host.proofs.lc3_read_frames.Goals as goal
use Rattle.host.proofs.lc3_read_frames.Goals.{In-Ok}

-- behind the checks 1 and 2
ne-at : (c : In-Ok) →
    let a = c.args in
    frame_lines (record { fs_ind = a.fs_ind; duration = a.duration; reading = a.reading }) a.bytes ≡ accepted c.in-Ok.ne
ne-at c = sym c.frame_lines.ensures ∙ ap (answer_by reply_of) c.in-Ok.is

pub returns-in_default : goal.returns-in_default
returns-in_default c =
    let a = c.args in
    let k : Configuration = (record { fs_ind = a.fs_ind; duration = a.duration; reading = a.reading }) in
    let t = tables_of a.lookup.now a.frequencies.now a.bits.now a.orders.now a.coefficients.now in
    let p = unencoded-nothing k t (length a.lines.now) a.bytes a.frames.now a.lines.now c.frame_lines.result c.frame_lines.ensures c.in_default.not-Ok in record { number = p.0; lent = p.1 }

pub returns-in_default-passed : goal.returns-in_default-passed
returns-in_default-passed c =
    let a = c.args in
    let k : Configuration = (record { fs_ind = a.fs_ind; duration = a.duration; reading = a.reading }) in
    let t = tables_of a.lookup.now a.frequencies.now a.bits.now a.orders.now a.coefficients.now in
    let p = tables-nothing k t (length a.lines.now) a.bytes a.frames.now a.lines.now c.in-Ok.ne (ne-at (goal.at.returns-in_default-passed c).In-Ok) c.in_default-passed.ensures in record { number = p.0; lent = p.1 }

pub returns-then-lines-ne : goal.returns-then-lines-ne
returns-then-lines-ne c =
    let a = c.args in
    let k : Configuration = (record { fs_ind = a.fs_ind; duration = a.duration; reading = a.reading }) in
    let t = tables_of a.lookup.now a.frequencies.now a.bits.now a.orders.now a.coefficients.now in
    let passes = ap tables_pass (sym c.in-Some.ensures) ∙ c.in-Some.passed.passed in
    let p = count-nothing k t (length a.lines.now) a.bytes a.frames.now a.lines.now c.in-Ok.ne (ne-at (goal.at.returns-then-lines-ne c).In-Ok) passes (lt-ltb (length a.lines.now) c.in-Ok.ne c.if-lines-ne.true) in record { number = p.0; lent = p.1 }
