-- `inner::with_residual` meets its contract: as many bits as the smaller of room and nonzero lines, and zeros behind them.
-- Assumes nothing.
use mathlib.Core.Path.{◌∙◌}
use mathlib.Core.List.{[]}
use Rattle.frame_reader.specs.Private.{Held}
use Rattle.frame_reader.proofs.Shown.{residual-so}
use Rattle.frame_reader.proofs.inner.with_residual.Goals as goal

pub returns : goal.returns
returns c =
    let a = c.args in
    let h : Held = (record { known = a.known; indices = a.stored.now.indices; lines = a.stored.now.lines; levels = [] }) in
    c.accept.ensures ∙ residual-so a.reading a.ne a.buf.now h a.at a.room a.lines.now c.residual_bits-count.result c.residual_bits-count.new.bits c.residual_bits-count.ensures.count c.residual_bits-count.ensures.lent
