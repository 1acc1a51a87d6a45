-- The steps' texts one behind the other are the dump's.
use Rattle.std.proofs.Common.{subst, List, ℕ, OnOk}
use Rattle.std.specs.Io.KnownBytes.{Appends}
use Rattle.dumping.proofs.Theorems.{steps-dump}
use Rattle.dump_io.proofs.inner.dump.Goals as goal

pub returns : goal.returns
returns g c =
    subst (λ (whole : List ℕ). OnOk c.run.result (Appends (g.W.Write.contents c.args.to.now) (g.W.Write.contents c.run.new.to) whole)) (steps-dump c.args.input.now) (rw c.blank.ensures at c.run.ensures)
