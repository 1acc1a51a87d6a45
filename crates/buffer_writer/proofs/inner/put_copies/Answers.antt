-- `inner::put_copies` meets its contract: the part that is filled is so many copies.
-- Assumes nothing.
use Prim.Native.Nat.{◌+◌, ◌-◌}
use native.Mathlib.Omega.{arith}
use Rattle.buffer_writer.proofs.Copies.{copies-laid}
use Rattle.buffer_writer.proofs.inner.put_copies.Goals as goal

pub returns : goal.returns
returns c =
    let a = c.args in
    copies-laid a.buf.now c.fill.new.self a.place a.byte a.count (a.place + a.count - a.place) (omega arith) c.requires (c.fill.ensures.after (λ y e. e))
