-- `put::put_lows` meets its contract: behind so many levels their bits are put, and room for all is room for the next.
-- Assumes nothing.
use native.Mathlib.Omega.{arith}
use native.Mathlib.Nat.{zero-add}
use Rattle.spectral_data.specs.Sent.{low_at, lows_from}
use Rattle.spectral_data.proofs.Puts.{put-none, put-behind, put-length, puts-part, lows-none, lows-more, lows-grow}
use Rattle.spectral_data.proofs.put.put_lows.Goals as goal

pub loop-level-init : goal.loop-level-init
loop-level-init c =
    let a = c.args in
    λ k. rw (lows-none a.lsb k a.a a.b 0) (put-none a.writing a.buf.now a.place)

pub put_low-at-requires : goal.put_low-at-requires
put_low-at-requires c =
    let a = c.args in
    (omega arith, puts-part _ _ _ c.requires.1 (omega (arith, (c.loop-level.invariant 0).behind, lows-grow a.lsb 0 a.a a.b c.loop-level.level a.n (omega arith))) (put-length _ (c.loop-level.invariant 0)))

pub loop-level-preserved : goal.loop-level-preserved
loop-level-preserved c =
    let a = c.args in
    λ k. rw (lows-more a.lsb k a.a a.b 0 c.loop-level.level, zero-add c.loop-level.level) (put-behind (lows_from a.lsb k a.a a.b 0 c.loop-level.level) (low_at a.lsb k a.a a.b c.loop-level.level) (c.loop-level.invariant k) (c.put_low-at.ensures k))
