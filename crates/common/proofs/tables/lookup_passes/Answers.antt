-- `tables::lookup_passes` meets its contract: past the size, the entries decide.
-- Assumes nothing.
use mathlib.Core.Path.{sym, ◌∙◌}
use Rattle.common.proofs.Rows.{lookup-sized, most-judged}
use Rattle.common.proofs.tables.lookup_passes.Goals as goal

pub returns-then-lookup-eq4096 : goal.returns-then-lookup-eq4096
returns-then-lookup-eq4096 c =
    most-judged 63 _ c.entries_pass.result c.entries_pass.ensures.0 c.entries_pass.ensures.1 ∙
    sym (lookup-sized c.args.lookup.now c.if-lookup-eq4096.true)
