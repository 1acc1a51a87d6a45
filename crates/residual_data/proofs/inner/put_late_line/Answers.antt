-- `inner::put_late_line` meets its contract: a magnitude other than 1 has its lowest bit alone, 1 has its sign behind it.
-- Assumes nothing.
use Rattle.std.proofs.Common.{◌≡◌, ◌%◌, [], ◌∷◌, ◌∙◌, arith}
use Rattle.contexts.specs.Lines.{line_at, magnitude_at, minus}
use Rattle.contexts.proofs.Magnitudes.{magnitude-read}
use Rattle.sending.specs.Sending.{lowest, late_sign, owned}
use Rattle.residual_data.specs.Private.{Cut}
use Rattle.residual_data.proofs.Puts.{cut_most, cut-behind, late-alone, late-signed}
use Rattle.residual_data.proofs.inner.put_late_line.Goals as goal
use Rattle.residual_data.proofs.inner.put_late_line.Goals.{After-magnitude_at-magnitude, After-put_before-next}

-- the line's magnitude, and its lowest bit
told : (c : After-magnitude_at-magnitude) → c.magnitude_at-magnitude.result ≡ magnitude_at c.args.lines.now c.args.k
told c = c.magnitude_at-magnitude.ensures.value ∙ magnitude-read c.args.lines.now c.args.k

first : (c : After-put_before-next) → Cut c.args.buf.now c.args.at c.args.end (owned (lowest c.args.k) (c.magnitude_at-magnitude.result % 2) ∷ []) c.put_before-next.result c.put_before-next.new.buf
first c = c.put_before-next.ensures (lowest c.args.k)

pub returns-then-magnitude-ne1 : goal.returns-then-magnitude-ne1
returns-then-magnitude-ne1 c =
    let a = c.args in
    rw (late-alone a.lines.now a.k c.magnitude_at-magnitude.result (told (goal.at.returns-then-magnitude-ne1 c).After-magnitude_at-magnitude) (omega (arith, c.if-magnitude-ne1.true))) (first (goal.at.returns-then-magnitude-ne1 c).After-put_before-next)

pub put_before-requires : goal.put_before-requires
put_before-requires c =
    let at = first (goal.at.put_before-requires c).After-put_before-next in
    (cut_most _ (omega arith) at, omega arith, c.minus_at.ensures.1)

pub returns : goal.returns
returns c =
    let a = c.args in
    let second : Cut c.put_before-next.new.buf c.put_before-next.result a.end (owned (late_sign a.k) (minus (line_at a.lines.now a.k)) ∷ []) c.put_before.result c.put_before.new.buf =
    rw (← c.minus_at.ensures.0) (c.put_before.ensures (late_sign a.k)) in
    rw (late-signed a.lines.now a.k c.magnitude_at-magnitude.result (told (goal.at.returns c).After-magnitude_at-magnitude) (omega (arith, c.if-magnitude-ne1.false)))
    (cut-behind (owned (lowest a.k) (c.magnitude_at-magnitude.result % 2) ∷ []) (owned (late_sign a.k) (minus (line_at a.lines.now a.k)) ∷ []) (omega arith) (first (goal.at.returns c).After-put_before-next) second)
