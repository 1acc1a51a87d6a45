-- The encoder's state: each of its numbers fits its place behind a shift, a symbol and a turn; S grows by one with each shift; and
-- the bytes out are counted as they are sent. Assumes nothing.
use Prim.Native.Nat.{ℕ, ◌+◌, ◌*◌, ◌≤◌, ◌<◌}
use mathlib.Core.Path.{◌≡◌}
use native.Mathlib.Omega.{arith}
use borrow.Author.Tests.{ltb-true, lt-ltb}
use lib.Dec.{ltb}
use lib.ListN.{length, length-append, length-replicate}
use Rattle.common.proofs.Bools.{by-test}
use Rattle.common.proofs.Cumulatives.{share-within}
use Rattle.range_decoder.specs.Decoder.{unit_of}
use Rattle.range_encoder.specs.Encoder.{shifts_of, settles, shifted, shift_bytes, symbol_added, with_range, turn, turn_bytes, encoded, encoded_bytes}
use Rattle.range_encoder.specs.Private.{Fits}
use Rattle.range_encoder.specs.declared.EncoderState.{EncoderState}

-- a shift keeps 24 bits of low, and its top byte is the new cache
pub fits-shifted : (s : EncoderState) → Fits s → Fits (shifted s)
fits-shifted s h = by-test (settles s) (λ e. rw e (omega arith)) (λ e. rw e (omega arith))

-- S counts the shifts
pub shifts-shifted : (s : EncoderState) → shifts_of (shifted s) ≡ shifts_of s + 1
shifts-shifted s = by-test (settles s) (λ e. rw e (omega arith)) (λ e. rw e (omega arith))

-- a shift adds to the bytes out those that it sends
pub out-shifted : (s : EncoderState) → (shifted s).out ≡ s.out + length (shift_bytes s)
out-shifted s =
    by-test (settles s)
    (λ e. rw e (simp (length-append, length-replicate) (omega arith)))
    (λ e. rw e (omega arith))

-- what a symbol is given is at most the range, so it fits where the range did
pub fits-added : (s : EncoderState) (cum freq : ℕ) → Fits s → cum + freq ≤ 1024 → Fits (symbol_added s cum freq)
fits-added s cum freq h most =
    let own = share-within (unit_of s.range) cum freq most in
    by-test (ltb (s.low + unit_of s.range * cum) 0x1000000) (λ e. rw e (omega arith)) (λ e. rw e (omega arith))

fits-ranged : (s : EncoderState) (range : ℕ) → Fits s → range < 0x1000000 → Fits (with_range s range)
fits-ranged s range h small = omega arith

-- a range below 0x10000 has room for a byte more
pub fits-turn : (s : EncoderState) → Fits s → Fits (turn s)
fits-turn s h =
    by-test (ltb s.range 0x10000)
    (λ e. rw e (fits-ranged (shifted s) (s.range * 256) (fits-shifted s h) (omega (arith, ltb-true))))
    (λ e. rw e h)

-- a turn on a range below 0x10000 is a shift, and any other is nothing
pub shifts-turn : (s : EncoderState) → s.range < 0x10000 → shifts_of (turn s) ≡ shifts_of s + 1
shifts-turn s short = rw (lt-ltb s.range 0x10000 short) (shifts-shifted s)

-- so no turn lowers S
pub shifts-turn-most : (s : EncoderState) → shifts_of s ≤ shifts_of (turn s)
shifts-turn-most s =
    by-test (ltb s.range 0x10000)
    (λ e. omega (arith, shifts-turn s (ltb-true s.range 0x10000 e)))
    (λ e. rw e (omega arith))

-- a turn adds to the bytes out those that it sends
pub out-turn : (s : EncoderState) → (turn s).out ≡ s.out + length (turn_bytes s)
out-turn s = by-test (ltb s.range 0x10000) (λ e. rw e (out-shifted s)) (λ e. rw e (omega arith))

-- a symbol and its two turns
pub fits-encoded : (s : EncoderState) (cum freq : ℕ) → Fits s → cum + freq ≤ 1024 → Fits (encoded s cum freq)
fits-encoded s cum freq h most =
    fits-turn (turn (symbol_added s cum freq)) (fits-turn (symbol_added s cum freq) (fits-added s cum freq h most))

pub out-encoded : (s : EncoderState) (cum freq : ℕ) → (encoded s cum freq).out ≡ s.out + length (encoded_bytes s cum freq)
out-encoded s cum freq =
    rw (length-append (turn_bytes (symbol_added s cum freq)) (turn_bytes (turn (symbol_added s cum freq))))
    (omega (arith, out-turn (symbol_added s cum freq), out-turn (turn (symbol_added s cum freq))))
