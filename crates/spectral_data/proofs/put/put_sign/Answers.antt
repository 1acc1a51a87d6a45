-- `put::put_sign` meets its contract: what is left of the magnitude has a sign exactly if it is above 0.
-- Assumes nothing.
use mathlib.Core.Path.{◌≡◌, ap, ◌∙◌}
use Rattle.contexts.specs.Lines.{line_at, magnitude_at, minus}
use Rattle.contexts.proofs.Magnitudes.{magnitude-read}
use Rattle.sending.specs.Sending.{sign}
use Rattle.spectral_data.specs.Sent.{early}
use Rattle.spectral_data.proofs.Puts.{put-none, put_one, sign-none, sign-one}
use Rattle.spectral_data.proofs.put.put_sign.Goals as goal
use Rattle.spectral_data.proofs.put.put_sign.Goals.{After-early}

-- what is left of the line's magnitude
told : (c : After-early) → c.early.result ≡ early c.args.lsb c.args.n (magnitude_at c.args.lines.now c.args.k)
told c =
    let a = c.args in
    c.early.ensures ∙ ap (early a.lsb a.n) (c.magnitude_at.ensures.value ∙ magnitude-read a.lines.now a.k)

pub returns-then-early-eq0 : goal.returns-then-early-eq0
returns-then-early-eq0 c =
    let a = c.args in
    rw (sign-none a.lsb a.n a.lines.now a.k c.early.result (told (goal.at.returns-then-early-eq0 c).After-early) c.if-early-eq0.true) (put-none a.writing a.buf.now a.place)

pub returns : goal.returns
returns c =
    let a = c.args in
    rw (sign-one a.lsb a.n a.lines.now a.k c.early.result (told (goal.at.returns c).After-early) c.if-early-eq0.false)
    (put_one (sign a.k) c.minus_at.result (minus (line_at a.lines.now a.k)) c.minus_at.ensures.0 c.bit.ensures.next c.bit.ensures.lent)
