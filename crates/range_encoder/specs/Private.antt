-- Not needed to believe anything: what private contracts and proofs here speak by. No public contract cites it.
use Rattle.std.specs.Prelude.{ℕ, ◌+◌, ◌-◌, ◌*◌, ◌/◌, ◌^◌, ◌≤◌, ◌<◌, ◌≡◌}
use Rattle.range_encoder.specs.Encoder.{with_range}
use Rattle.range_encoder.specs.Finish.{Ending, ended}
use Rattle.range_encoder.specs.declared.EncoderState.{EncoderState}
use Rattle.range_encoder.specs.declared.ending.Closing.{Closing}

-- each number of a state fits its place
pub record Fits (s : EncoderState) : Type 0 where
  pub low_fits : s.low < 0x1000000
  pub range-fits : s.range < 0x1000000
  pub held-most : s.held ≤ 1
  pub cache-fits : s.cache < 256
  pub carry-most : s.carry ≤ 1

-- what holds of every state on the way: the end of its interval bounds what may still be carried
pub record Carries (s : EncoderState) : Type 0 where
  -- a carry that is known is followed by no second
  pub once : s.carry * 0x1000000 + s.low + s.range ≤ 0x2000000
  -- the byte in the cache has room for it
  pub kept : (s.cache + s.carry) * 0x1000000 + s.low + s.range ≤ 0x100000000
  -- with no byte in the cache, nothing is ever carried
  pub first : s.held ≡ 0 → s.carry * 0x1000000 + s.low + s.range < 0x1000000

-- the invariant of a state between two symbols
pub record Sound (s : EncoderState) : Type 0 where
  pub fits : Fits s
  pub range-least : 0x10000 ≤ s.range
  pub carries : Carries s

-- the finish's mask for so many bits
abbrev pub mask_of : ℕ → ℕ
mask_of bits = 0xFFFFFF / 2 ^ bits

-- the state that the finish sends, with what its own bits leave open as its range
abbrev pub closing : EncoderState → Ending → EncoderState
closing s e = with_range (ended s e) (2 ^ (24 - e.bits))

abbrev pub ending_of : Closing → Ending
ending_of c = record { bits = c.bits; value = c.value; carry = c.carry }
