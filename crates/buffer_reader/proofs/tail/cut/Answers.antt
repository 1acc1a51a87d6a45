-- `tail::cut` meets its contract: shifted up to the word's end and down again, the bits above and below the field are gone.
-- Assumes nothing.
use Prim.Native.Nat.{◌-◌}
use native.Mathlib.Omega.{arith}
use Rattle.buffer_reader.proofs.Fields.{shifted-out}
use Rattle.buffer_reader.proofs.tail.cut.Goals as goal

pub returns : goal.returns
returns c =
    let a = c.args in
    shifted-out a.value (32 - a.num_bits - a.bit_index) a.bit_index a.num_bits (omega arith)
