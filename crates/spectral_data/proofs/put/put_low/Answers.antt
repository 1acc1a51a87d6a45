-- `put::put_low` meets its contract: where level 0 comes late there is no bit, else there are both.
-- Assumes nothing.
use Prim.Native.Nat.{◌+◌, ◌/◌, ◌%◌, ◌^◌}
use mathlib.Core.Path.{◌≡◌, sym, ap, ◌∙◌}
use mathlib.Core.Bool.{false, ◌&&◌}
use mathlib.Core.List.{[], ◌∷◌}
use lib.Dec.{eqb}
use lib.ListN.{length}
use Rattle.sending.specs.Sending.{low, owned}
use Rattle.spectral_data.specs.Sent.{low_at}
use Rattle.spectral_data.proofs.Puts.{put-none, put_one, put-behind, low-none, low-both}
use Rattle.spectral_data.proofs.put.put_low.Goals as goal
use Rattle.spectral_data.proofs.put.put_low.Goals.{Else-without_bits}

-- behind the test there are two bits
shows : (c : Else-without_bits) → (c.args.lsb && eqb c.args.level 0) ≡ false
shows c = sym c.without_bits.ensures ∙ c.if-without_bits.false

two : (c : Else-without_bits) → length (low_at c.args.lsb 0 c.args.a c.args.b c.args.level) ≡ 2
two c = let a = c.args in ap length (low-both a.lsb 0 a.a a.b a.level (shows c))

pub returns-then-without_bits : goal.returns-then-without_bits
returns-then-without_bits c =
    let a = c.args in
    λ k. rw (low-none a.lsb k a.a a.b a.level (sym c.without_bits.ensures ∙ c.if-without_bits.true)) (put-none a.writing a.buf.now a.place)

pub returns : goal.returns
returns c =
    let a = c.args in
    λ k.
    let x = owned (low k a.level) (a.a / 2 ^ a.level % 2) in
    let y = owned (low (k + 1) a.level) (a.b / 2 ^ a.level % 2) in
    rw (low-both a.lsb k a.a a.b a.level (shows (goal.at.returns c).Else-without_bits))
    (put-behind (x ∷ []) (y ∷ []) (put_one (low k a.level) c.bit_of.result (a.a / 2 ^ a.level % 2) c.bit_of.ensures c.bit-next.ensures.next c.bit-next.ensures.lent) (put_one (low (k + 1) a.level) c.bit_of-2.result (a.b / 2 ^ a.level % 2) c.bit_of-2.ensures c.bit.ensures.next c.bit.ensures.lent))
