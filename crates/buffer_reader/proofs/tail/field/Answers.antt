-- `tail::field` meets its contract: the bytes gathered hold the field, for every width by one law, and the cut takes it out.
-- Assumes nothing.
use Prim.Native.Nat.{ℕ, ◌/◌, ◌%◌, ◌^◌}
use mathlib.Core.Path.{ap, ◌∙◌}
use Rattle.buffer_reader.proofs.Fields.{number-field}
use Rattle.buffer_reader.proofs.tail.field.Goals as goal

pub returns : goal.returns
returns c =
    let a = c.args in
    let gathered = c.number.ensures in
    c.cut.ensures ∙
    ap (λ (x : ℕ). x / 2 ^ a.bit_index % 2 ^ a.num_bits) gathered ∙
    number-field a.buf.now (λ i. (c.type_inv.buf i).fits) a.byte_index a.num_bytes a.bit_index a.num_bits c.requires.2
