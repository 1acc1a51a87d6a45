-- `put::put_pairs` meets its contract: behind p pairs their bits are put, and room for all is room for the next.
-- Assumes nothing.
use native.Mathlib.Omega.{arith}
use native.Mathlib.Nat.{zero-add}
use Rattle.spectral_data.specs.Sent.{pair_bits, pairs_bits}
use Rattle.spectral_data.proofs.Puts.{put-none, put-behind, put-length, puts-part, pairs-none, pairs-more, pairs-grow}
use Rattle.spectral_data.proofs.put.put_pairs.Goals as goal

pub loop-p-init : goal.loop-p-init
loop-p-init c =
    let a = c.args in
    rw (pairs-none a.lsb a.lines.now 0) (put-none a.writing a.buf.now a.place)

pub put_pair-at-requires : goal.put_pair-at-requires
put_pair-at-requires c =
    let a = c.args in
    (omega arith, puts-part _ _ _ c.requires.1 (omega (arith, c.loop-p.invariant.behind, pairs-grow a.lsb a.lines.now c.loop-p.p a.pairs (omega arith))) (put-length _ c.loop-p.invariant))

pub loop-p-preserved : goal.loop-p-preserved
loop-p-preserved c =
    let a = c.args in
    rw (pairs-more a.lsb a.lines.now 0 c.loop-p.p, zero-add c.loop-p.p) (put-behind (pairs_bits a.lsb a.lines.now 0 c.loop-p.p) (pair_bits a.lsb a.lines.now c.loop-p.p) c.loop-p.invariant c.put_pair-at.ensures)
