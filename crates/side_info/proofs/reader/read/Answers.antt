-- `reader::read` meets its contract: past refusals 1 and 2 the parts that are read make the definition's chain.
-- Assumes nothing.
use mathlib.Core.Path.{sym, ◌∙◌}
use Rattle.side_info.proofs.Answers.{chain-made, read-on}
use Rattle.side_info.proofs.reader.read.Goals as goal

pub returns : goal.returns
returns c =
    let a = c.args in
    c.read_all.ensures ∙
    chain-made a.configuration.fs_ind c.in_ok-ne.ne a.buf.now a.at ∙
    sym (read-on a.configuration a.buf.now a.at (sym c.in_ok-ne.ensures))
