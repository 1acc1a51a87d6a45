-- `inner::escapes` meets its contract: the loop stops at the first place where both fit, which is the definition's least.
-- The places before n do not fit, and place 14 does. Assumes nothing.
use mathlib.Core.Path.{sym, ◌∙◌}
use native.Mathlib.Omega.{arith}
use Rattle.contexts.proofs.Escapes.{escapes-are, fits-parts, fits-14}
use Rattle.contexts.proofs.inner.escapes.Goals as goal

pub returns-then-fits_symbol : goal.returns-then-fits_symbol
returns-then-fits_symbol c =
    let a = c.args in
    let n = c.loop-n.n in
    let both = fits-parts a.a a.b n (sym c.fits_symbol.ensures ∙ c.if-fits_symbol.true) in
    sym (escapes-are a.a a.b n (record { most = omega arith; first = both.0; second = both.1; before = c.loop-n.invariant }))

pub returns : goal.returns
returns c =
    let a = c.args in
    let both = fits-parts a.a a.b 14 (fits-14 a.a a.b c.requires.0 c.requires.1) in
    sym (escapes-are a.a a.b 14 (record { most = omega arith; first = both.0; second = both.1; before = λ i h. c.loop-n.invariant i (omega arith) }))
