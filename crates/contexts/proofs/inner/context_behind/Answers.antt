-- `inner::context_behind` meets its contract: the parts of the pair's symbol are what its escapes leave.
-- Assumes nothing.
use native.Mathlib.Omega.{arith}
use Rattle.contexts.proofs.Escapes.{Escaped, escaped-at}
use Rattle.contexts.proofs.inner.context_behind.Goals as goal
use Rattle.contexts.proofs.inner.context_behind.Goals.{Start}

law : (c : Start) → Escaped c.args.a c.args.b c.args.n
law c = escaped-at c.args.a c.args.b c.args.n c.requires.0 c.requires.1 c.requires.2

pub overflow_shr-a : goal.overflow_shr-a
overflow_shr-a c = omega (arith, (law c).most)

pub overflow_shr-b : goal.overflow_shr-b
overflow_shr-b c = omega (arith, (law c).most)

pub next_context-requires : goal.next_context-requires
next_context-requires c = omega (arith, (law c).first, (law c).second)
