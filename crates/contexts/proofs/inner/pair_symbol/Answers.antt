-- `inner::pair_symbol` meets its contract: behind its escapes what is left of both magnitudes is below 4.
-- Assumes nothing.
use native.Mathlib.Omega.{arith}
use Rattle.contexts.proofs.Escapes.{Escaped, escaped-at}
use Rattle.contexts.proofs.inner.pair_symbol.Goals as goal
use Rattle.contexts.proofs.inner.pair_symbol.Goals.{Start}

law : (c : Start) → Escaped c.args.a c.args.b c.args.n
law c = escaped-at c.args.a c.args.b c.args.n c.requires.0 c.requires.1 c.requires.2

pub overflow_shr-a : goal.overflow_shr-a
overflow_shr-a c = omega (arith, (law c).most)

pub overflow_shr-b : goal.overflow_shr-b
overflow_shr-b c = omega (arith, (law c).most)

pub symbol-requires : goal.symbol-requires
symbol-requires c = ((law c).first, (law c).second)
