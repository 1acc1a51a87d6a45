-- `inner::read` meets its contract: the parts that are read make the definition's chain. Assumes nothing.
use mathlib.Core.Path.{◌∙◌}
use Rattle.side_info.proofs.Answers.{chain-made}
use Rattle.side_info.proofs.inner.read.Goals as goal

pub returns : goal.returns
returns c = let a = c.args in c.read_all.ensures ∙ chain-made a.fs_ind a.ne a.buf.now a.at
