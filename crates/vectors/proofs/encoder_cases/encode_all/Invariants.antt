-- `vectors::encoder_cases::encode_all` meets its contract: each symbol has a share and two bytes of room, so the state stays
-- sound and within the buffer. Assumes nothing.
use Prim.Native.Nat.{◌≤◌}
use mathlib.Core.Path.{◌≡◌}
use lib.ListN.{length}
use Rattle.range_encoder.specs.Encoder.{shifts_of}
use Rattle.range_encoder.specs.Private.{Sound}
use Rattle.vectors.proofs.encoder_cases.encode_all.Given as goal

abbrev pub invariant-loop-symbol : goal.invariant-loop-symbol
invariant-loop-symbol l = (l.symbol-iterator.size ≡ 4) × (length l.buf ≡ length l.initial.buf) × (Sound l.st) × (shifts_of l.st ≤ length l.buf)
