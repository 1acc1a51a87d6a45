-- One digit is laid at once, and the last of more behind those of a tenth, which is less.
-- Assumes nothing.
use native.Mathlib.Omega.{arith}
use Rattle.frame_text.proofs.Decimals.{laid-digit, laid-digits, laid-most}
use Rattle.frame_text.proofs.put.+number.Goals as goal

pub returns-then-n-lt10 : goal.returns-then-n-lt10
returns-then-n-lt10 t c = record { text = laid-digit c.args.n c.if-n-lt10.true c.last_digit.ensures.text; most = omega arith }

pub returns : goal.returns
returns t c =
    let all = laid-digits c.args.n c.if-n-lt10.false c.number-next.ensures.text c.last_digit-2.ensures.text in
    record { text = all; most = laid-most c.ranges.n.fits all }
