-- `inner::put_field` meets its contract: what is left to write, of the value's bits that are left, makes the same buffer.
-- Assumes nothing.
use Prim.Native.Nat.{◌+◌, ◌-◌}
use mathlib.Core.Path.{◌≡◌}
use lib.ListN.{length}
use Rattle.buffer_writer.specs.Writes.{put_field}
use Rattle.buffer_writer.proofs.inner.put_field.Given as goal

abbrev pub invariant-loop-at : goal.invariant-loop-at
invariant-loop-at l = (length l.buf ≡ length l.initial.buf) × (put_field l.buf l.at l.rest (l.place + l.num_bits - l.at) ≡ put_field l.initial.buf l.place l.val l.num_bits)
