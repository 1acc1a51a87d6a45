-- `inner::read_levels` meets its contract: the levels that are left, with the low bits so far, are the levels of the whole pair.
-- Assumes nothing.
use Rattle.spectral_data.proofs.Turns.{levels-last, levels-escape, levels-refused, levels-end}
use Rattle.spectral_data.proofs.Sizes.{low-more}
use Rattle.spectral_data.proofs.Bounds.{Turnwise, turn-going}
use Rattle.coding.proofs.Keeps.{BothMoved, both-here, Behind, keeps-at}
use Rattle.spectral_data.specs.declared.inner.Turn.{Turn}
use Rattle.spectral_data.specs.Private.{Turned, escape, turn_by, turned_of}
use Rattle.common.specs.Reply.{accepted}
use Rattle.std.proofs.lemmas.Result.{err_from_is_err_and}
use Rattle.buffer_reader.specs.declared.Cursor.{Cursor}
use Rattle.coding.specs.Coding.{Coded}
use native.Mathlib.Omega.{arith}
use mathlib.Core.Path.{◌≡◌, sym, ap, ◌∙◌}
use Rattle.spectral_data.proofs.inner.read_levels.Goals as goal
use Rattle.spectral_data.proofs.inner.read_levels.Goals.{In-Escape}

-- a turn's answer, where it is an escape
abbrev escape_at : (c : In-Escape) → Coded Turned × Cursor
escape_at c = (record { value = escape c.in-Escape.a c.in-Escape.b; state = c.in-Escape.after }, c.in-Escape.next)

escaped : (c : In-Escape) →
    let a = c.args in
    turn_by a.tables.now.lookup.now a.tables.now.frequencies.now a.standard a.lsb a.p a.start c.loop-level.level c.loop-level.here a.buf.now c.loop-level.place ≡ accepted (escape_at c)
escaped c = sym c.in_ok-last.ensures ∙ ap (λ (t : Turn). accepted (turned_of t)) c.in-Escape.is

-- its bits are 0 or 1, and the range behind it passes
turned : (c : In-Escape) → Behind BothMoved Turnwise c.args.buf.now c.loop-level.place (escape_at c)
turned c =
    let a = c.args in
    let t = a.tables.now in
    keeps-at (turn-going t.lookup.now t.frequencies.now t.looked t.rows a.standard a.lsb a.p a.start c.loop-level.level (omega (arith, c.loop-level-test.true))) c.loop-level.here a.buf.now c.loop-level.place c.requires.0.short c.loop-level.invariant.2 (both-here a.buf.now c.loop-level.place) (escaped c)

pub returns-in_err-last : goal.returns-in_err-last
returns-in_err-last c =
    let a = c.args in
    let l = c.loop-level in
    let (e, is, same) = err_from_is_err_and c.from_residual.result c.from_residual.ensures.1 in
    rw (is, same) (sym (levels-refused a.tables.now.lookup.now a.tables.now.frequencies.now a.standard a.lsb a.p a.start l.level l.low_first l.low_second l.here a.buf.now l.place c.loop-level-test.true _ (sym c.in_err-last.ensures)) ∙ l.invariant.3)

pub returns-in-Last : goal.returns-in-Last
returns-in-Last c =
    let a = c.args in
    let l = c.loop-level in
    sym (levels-last a.tables.now.lookup.now a.tables.now.frequencies.now a.standard a.lsb a.p a.start l.level l.low_first l.low_second l.here a.buf.now l.place c.loop-level-test.true _ _ _ (sym c.in_ok-last.ensures ∙ ap (λ (t : Turn). accepted (turned_of t)) c.in-Last.is)) ∙ l.invariant.3

pub raised-low_first-requires : goal.raised-low_first-requires
raised-low_first-requires c = (omega (arith, (turned c).known.0), omega arith)

pub raised-low_second-requires : goal.raised-low_second-requires
raised-low_second-requires c = (omega (arith, (turned (goal.at.raised-low_second-requires c).In-Escape).known.1), omega arith)

pub loop-level-preserved : goal.loop-level-preserved
loop-level-preserved c =
    let a = c.args in
    let l = c.loop-level in
    let bits = turned (goal.at.loop-level-preserved c).In-Escape in (
      rw c.raised-low_first.ensures.value (low-more l.level l.low_first _ l.invariant.0 bits.known.0),
      rw c.raised-low_second.ensures.value (low-more l.level l.low_second _ l.invariant.1 bits.known.1),
      bits.range,
      rw (c.raised-low_first.ensures.value, c.raised-low_second.ensures.value) (sym (levels-escape a.tables.now.lookup.now a.tables.now.frequencies.now a.standard a.lsb a.p a.start l.level l.low_first l.low_second l.here a.buf.now l.place c.loop-level-test.true _ _ _ _ (escaped (goal.at.loop-level-preserved c).In-Escape)) ∙ l.invariant.3),
    )

pub returns : goal.returns
returns c =
    let a = c.args in
    let l = c.loop-level in
    sym (levels-end a.tables.now.lookup.now a.tables.now.frequencies.now a.standard a.lsb a.p a.start l.level l.low_first l.low_second l.here a.buf.now l.place (omega (arith, l.auto.level-end, c.loop-level-test.false))) ∙ l.invariant.3
