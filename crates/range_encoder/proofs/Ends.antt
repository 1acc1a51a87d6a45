-- What the ending is, case by case of its two tests, by the logarithm and the value that the code has. Assumes nothing.
use Prim.Native.Nat.{ℕ, ◌+◌, ◌-◌, ◌/◌}
use mathlib.Core.Path.{◌≡◌, refl}
use mathlib.Core.Bool.{cond}
use borrow.Author.Tests.{eq-eqb, ne_eqb}
use lib.Dec.{leb}
use Rattle.common.specs.Last.{floor_log2}
use Rattle.range_encoder.specs.Finish.{val_of, high_in, ending_at, ending}
use Rattle.range_encoder.specs.Private.{mask_of}
use Rattle.range_encoder.specs.declared.EncoderState.{EncoderState}

module _ (reading : ℕ) (s : EncoderState) (log value : ℕ) (floor : log ≡ floor_log2 s.range) (rounded : value ≡ val_of s.low (mask_of (24 - log))) where
  -- the interval's end passes 2^24 and the rounding does not: it stands as it is
  pub ends-apart : ((s.low + mask_of (24 - log)) / 0x1000000 ≡ (s.low + s.range) / 0x1000000 → ⊥) → ending reading s ≡ record { bits = 24 - log; value = value; carry = s.carry }
  ends-apart apart =
      rw (← floor, ne_eqb ((s.low + mask_of (24 - log)) / 0x1000000) ((s.low + s.range) / 0x1000000) apart, rounded) refl

  -- otherwise the comparison with high decides: where the last continuation of the bits stays below it they suffice, and else one more
  pub ends_same : (high : ℕ) → (s.low + mask_of (24 - log)) / 0x1000000 ≡ (s.low + s.range) / 0x1000000 → high ≡ high_in reading (s.low + s.range) → ending reading s ≡ cond (leb high (value + mask_of (24 - log))) (ending_at s (24 - log + 1) (val_of s.low (mask_of (24 - log) / 2))) (ending_at s (24 - log) value)
  ends_same high same masked =
      rw (← floor, eq-eqb ((s.low + mask_of (24 - log)) / 0x1000000) ((s.low + s.range) / 0x1000000) same, ← rounded, ← masked) refl
