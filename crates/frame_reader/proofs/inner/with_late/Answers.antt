-- `inner::with_late` meets its contract: the array behind what comes late is the definition's, of as many lines, and no magnitude
-- has grown by more than one. Assumes nothing.
use Prim.Native.Nat.{◌*◌, ◌/◌}
use mathlib.Core.Path.{◌∙◌}
use native.Mathlib.Omega.{arith}
use lib.ListN.{take}
use Rattle.residual_data.specs.Residual.{escaped_by}
use Rattle.frame_reader.specs.Private.{Held}
use Rattle.frame_reader.proofs.Shown.{late-so, late-array-most, late-array-length}
use Rattle.frame_reader.proofs.inner.with_late.Goals as goal

pub accept-requires : goal.accept-requires
accept-requires c =
    let a = c.args in
    let p = c.requires in
    let late = c.late_lines-tail in
    let n = 2 * (a.known.side.lastnz / 2) in (
      p.0.two,
      p.0.few,
      p.2,
      late-array-length a.buf.now (escaped_by a.reading (take (a.known.side.lastnz / 2) a.stored.now.levels)) n a.at.tail a.room a.stored.now.lines late.new.lines late.ensures.lent (omega (arith, p.0.last, p.0.few, p.3)) ∙ p.3,
      late-array-most a.buf.now (escaped_by a.reading (take (a.known.side.lastnz / 2) a.stored.now.levels)) n a.at.tail a.room a.stored.now.lines late.new.lines late.ensures.lent p.5,
    )

pub returns : goal.returns
returns c =
    let a = c.args in
    let late = c.late_lines-tail in
    let h : Held = (record { known = a.known; indices = a.stored.now.indices; lines = a.stored.now.lines; levels = a.stored.now.levels }) in
    c.accept.ensures ∙ late-so a.reading a.ne a.buf.now h a.at a.room a.lines.now late.result late.new.lines late.ensures.tail late.ensures.lent
