-- One symbol more: the encoder's state stays sound, and grows by at most two bytes. Assumes nothing.
use Prim.Native.Nat.{ℕ, ◌+◌, ◌≤◌}
use native.Mathlib.Omega.{arith}
use borrow.Author.Tests.{ltb-true}
use lib.Dec.{ltb}
use Rattle.common.proofs.Bools.{by-test}
use Rattle.range_encoder.specs.Encoder.{shifts_of, symbol_added, turn, encoded}
use Rattle.range_encoder.specs.Private.{Sound}
use Rattle.range_encoder.specs.declared.EncoderState.{EncoderState}
use Rattle.range_encoder.proofs.States.{shifts-turn}
use Rattle.range_encoder.proofs.Carry.{sound-encoded}

turn-adds : (s : EncoderState) → shifts_of (turn s) ≤ shifts_of s + 1
turn-adds s =
    by-test (ltb s.range 0x10000)
    (λ e. omega (arith, shifts-turn s (ltb-true s.range 0x10000 e)))
    (λ e. rw e (omega arith))

pub encoded-adds : (s : EncoderState) (cum freq : ℕ) → shifts_of (encoded s cum freq) ≤ shifts_of s + 2
encoded-adds s cum freq =
    omega (arith, turn-adds (symbol_added s cum freq), turn-adds (turn (symbol_added s cum freq)))

pub encoded-sound : (s : EncoderState) (cum freq : ℕ) → Sound s → 1 ≤ freq → cum + freq ≤ 1024 → Sound (encoded s cum freq)
encoded-sound s cum freq sound some most = sound-encoded s cum freq sound (record { some = some; most = most })
