-- The source's forecast against E: they part by one byte, exactly while no byte is in the cache. Assumes nothing.
use Prim.Native.Nat.{◌+◌, ◌≤◌, ◌<◌}
use mathlib.Core.Path.{◌≡◌}
use native.Mathlib.Omega.{arith}
use Rattle.common.proofs.Lasts.{log-range}
use Rattle.range_encoder.specs.Encoder.{reserved_of, forecast_of}
use Rattle.range_encoder.specs.declared.EncoderState.{EncoderState}

-- with a byte in the cache the forecast is E
pub forecast-held : (s : EncoderState) → s.held ≡ 1 → forecast_of s ≡ reserved_of s
forecast-held s e = omega arith

-- with none it is a byte more, since the source tests the carry where the standard tests the cache
pub forecast-empty : (s : EncoderState) → 0x10000 ≤ s.range → s.range < 0x1000000 → s.held ≡ 0 → forecast_of s ≡ reserved_of s + 8
forecast-empty s least most e = omega (arith, (log-range s.range least most).1)
