-- `inner::read_side` meets its contract: what the side information refuses from a frame's start is its own. Assumes nothing.
use mathlib.Core.Path.{sym, ap, ◌∙◌}
use Rattle.common.specs.Reply.{answer_by}
use Rattle.side_info.specs.Reader.{reply_of}
use Rattle.frame_reader.proofs.Data.{side-low}
use Rattle.frame_reader.proofs.inner.read_side.Goals as goal

pub map_err-requires : goal.map_err-requires
map_err-requires c =
    let a = c.args in
    λ e is. side-low a.configuration a.ne a.buf.now c.requires (sym c.read.ensures ∙ ap (answer_by reply_of) is)
