-- Not needed to believe anything: what private contracts and proofs here speak by. No public contract cites it.
use Rattle.std.specs.Prelude.{◌≤◌, ◌<◌}
use Rattle.range_decoder.specs.declared.DecoderState.{DecoderState}

-- what holds inside a step: low is below the range, and the range below 2^24
pub record Below (s : DecoderState) : Type 0 where
  pub most : s.range ≤ 0xFFFFFF
  pub below : s.low < s.range
