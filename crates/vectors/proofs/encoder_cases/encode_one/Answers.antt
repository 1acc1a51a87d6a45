-- `vectors::encoder_cases::encode_one` meets its contract: a symbol's share keeps the state sound, and two bytes of room are
-- enough for it. Assumes nothing.
use native.Mathlib.Omega.{arith}
use Rattle.vectors.proofs.Coded.{encoded-adds, encoded-sound}
use Rattle.vectors.proofs.encoder_cases.encode_one.Goals as goal

pub returns : goal.returns
returns c =
    let a = c.args in
    let p = c.requires in
    rw c.ac_encode.ensures.state
    (encoded-sound a.st a.cumulative a.frequency p.0 p.1 p.2, omega (arith, p.3, encoded-adds a.st a.cumulative a.frequency))
