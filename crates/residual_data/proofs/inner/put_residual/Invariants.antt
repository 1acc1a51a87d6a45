-- `inner::put_residual` meets its contract: behind i turns the first i bits of the list are put, and their values are the list's low bits.
-- Assumes nothing.
use Rattle.std.proofs.Common.{◌≡◌, take}
use Rattle.sending.specs.Sending.{put_bits}
use Rattle.residual_data.specs.Sent.{residual_bits}
use Rattle.residual_data.proofs.inner.put_residual.Given as goal

abbrev pub invariant-loop-i : goal.invariant-loop-i
invariant-loop-i l = l.buf ≡ put_bits l.initial.buf l.place (take l.i (residual_bits 0 l.lines l.residual))
