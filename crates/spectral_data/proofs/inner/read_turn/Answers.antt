-- `inner::read_turn` meets its contract: behind an escape come its tail bits, or what refuses them.
-- Assumes nothing.
use Rattle.std.proofs.lemmas.Result.{err_from_is_err_and}
use borrow.Author.Tests.{le-ltb}
use native.Mathlib.Omega.{arith}
use mathlib.Core.Path.{refl}
use Rattle.spectral_data.proofs.inner.read_turn.Goals as goal

pub returns-in_err-a : goal.returns-in_err-a
returns-in_err-a c =
    let (e, is, same) = err_from_is_err_and c.from_residual-in_err-a.result c.from_residual-in_err-a.ensures.1 in
    rw (is, same, ← c.in_ok-k.ensures, le-ltb c.in_ok-k.k 16 (omega (arith, c.if-k-lt16.false)), ← (c.in_err-a.ensures c.in_ok-k.after)) refl

pub returns : goal.returns
returns c =
    rw (← c.in_ok-k.ensures, le-ltb c.in_ok-k.k 16 (omega (arith, c.if-k-lt16.false)), ← (c.in_ok-a.ensures c.in_ok-k.after)) refl
