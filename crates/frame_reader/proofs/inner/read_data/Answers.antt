-- `inner::read_data` meets its contract: side information, start and what the coder reads follow one another. Assumes nothing.
use mathlib.Core.Path.{sym, ap, ◌∙◌}
use native.Mathlib.Omega.{arith}
use lib.ListN.{length}
use Rattle.common.specs.Reply.{answer_by}
use Rattle.common.proofs.Configurations.{frame-ranges}
use Rattle.frame_reader.specs.Returned.{reply_of}
use Rattle.frame_reader.proofs.Data.{side-known}
use Rattle.frame_reader.proofs.Coded.{start-range}
use Rattle.frame_reader.proofs.inner.read_data.Goals as goal

pub read_coded-requires : goal.read_coded-requires
read_coded-requires c =
    let a = c.args in
    let p = c.requires in
    let x = c.in_ok-side in
    let limits = side-known a.configuration a.ne a.buf.now p.0 (x.side, x.at) (sym c.read_side.ensures ∙ ap (answer_by reply_of) x.was) in
    (p.0, start-range a.buf.now x.at (sym c.start.ensures ∙ ap (answer_by reply_of) c.in_ok-state.was), omega (arith, limits.last, (frame-ranges a.configuration (length a.buf.now) p.0).2), p.1, p.2, p.3)
