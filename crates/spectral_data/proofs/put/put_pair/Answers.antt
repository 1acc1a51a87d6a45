-- `put::put_pair` meets its contract: low bits and both signs behind one another, and room for all is room for each.
-- Assumes nothing.
use Prim.Native.Nat.{◌+◌, ◌*◌}
use mathlib.Core.Path.{◌≡◌, refl, ◌∙◌}
use mathlib.Core.List.{◌++◌}
use native.Mathlib.Omega.{arith}
use lib.ListN.{length}
use Rattle.contexts.specs.Lines.{magnitude_at, escapes_at}
use Rattle.contexts.proofs.Magnitudes.{magnitude-read}
use Rattle.spectral_data.specs.Sent.{lows_from, sign_at, pair_bits}
use Rattle.spectral_data.specs.Private.{Put}
use Rattle.spectral_data.proofs.Puts.{put-behind, puts-part, lows-size, pair_size}
use Rattle.spectral_data.proofs.put.put_pair.Goals as goal
use Rattle.spectral_data.proofs.put.put_pair.Goals.{After-magnitude_at-b}

-- the pair's escapes and magnitudes, and the number of its bits by them
told-escapes : (c : After-magnitude_at-b) → c.escapes_at-n.result ≡ escapes_at c.args.lines.now c.args.p
told-escapes c = c.escapes_at-n.ensures.0

told-first : (c : After-magnitude_at-b) → c.magnitude_at-a.result ≡ magnitude_at c.args.lines.now (2 * c.args.p)
told-first c = c.magnitude_at-a.ensures.value ∙ magnitude-read c.args.lines.now (2 * c.args.p)

told-second : (c : After-magnitude_at-b) → c.magnitude_at-b.result ≡ magnitude_at c.args.lines.now (2 * c.args.p + 1)
told-second c = c.magnitude_at-b.ensures.value ∙ magnitude-read c.args.lines.now (2 * c.args.p + 1)

size : (c : After-magnitude_at-b) → length (pair_bits c.args.lsb c.args.lines.now c.args.p) ≡ length (lows_from c.args.lsb 0 c.magnitude_at-a.result c.magnitude_at-b.result 0 c.escapes_at-n.result) + length (sign_at c.args.lsb c.escapes_at-n.result c.args.lines.now (2 * c.args.p)) + length (sign_at c.args.lsb c.escapes_at-n.result c.args.lines.now (2 * c.args.p + 1))
size c =
    let a = c.args in
    let x = magnitude_at a.lines.now (2 * a.p) in
    let y = magnitude_at a.lines.now (2 * a.p + 1) in
    rw (told-escapes c, told-first c, told-second c) (omega (arith, pair_size a.lsb a.lines.now a.p, lows-size a.lsb (2 * a.p) x y 0 (escapes_at a.lines.now a.p)))

pub put_lows-signs-requires : goal.put_lows-signs-requires
put_lows-signs-requires c = (omega (arith, c.escapes_at-n.ensures.1), puts-part _ _ _ c.requires.1 (omega (arith, size (goal.at.put_lows-signs-requires c).After-magnitude_at-b)) refl)

pub returns : goal.returns
returns c =
    let a = c.args in
    let n = escapes_at a.lines.now a.p in
    let lows = lows_from a.lsb (2 * a.p) (magnitude_at a.lines.now (2 * a.p)) (magnitude_at a.lines.now (2 * a.p + 1)) 0 n in
    let first = sign_at a.lsb n a.lines.now (2 * a.p) in
    let second = sign_at a.lsb n a.lines.now (2 * a.p + 1) in
    let x : Put a.writing a.buf.now a.place lows c.put_lows-signs.result c.put_lows-signs.new.buf = rw (← told-escapes (goal.at.returns c).After-magnitude_at-b, ← told-first (goal.at.returns c).After-magnitude_at-b, ← told-second (goal.at.returns c).After-magnitude_at-b) (c.put_lows-signs.ensures (2 * a.p)) in
    let y : Put a.writing c.put_lows-signs.new.buf c.put_lows-signs.result first c.put_sign-second.result c.put_sign-second.new.buf = rw (← told-escapes (goal.at.returns c).After-magnitude_at-b) c.put_sign-second.ensures in
    let z : Put a.writing c.put_sign-second.new.buf c.put_sign-second.result second c.put_sign.result c.put_sign.new.buf = rw (← told-escapes (goal.at.returns c).After-magnitude_at-b) c.put_sign.ensures in
    put-behind (lows ++ first) second (put-behind lows first x y) z
