-- `reader::read_sns` meets its contract: the gain's part and J are below their limits.
-- Assumes nothing.
use Rattle.side_info.specs.Reader.{part_bits}
use Rattle.side_info.proofs.Values.{field-low, joint-low, part_low}
use Rattle.side_info.proofs.reader.read_sns.Goals as goal

pub sns_of-requires : goal.sns_of-requires
sns_of-requires c =
    let f = c.args.buf.now in
    let msb = c.in_ok-msb.msb in (
      part_low c.in_ok-part.part msb (field-low f c.in_ok-msb.at (part_bits msb) (rw c.by_msb.ensures at c.in_ok-part.ensures)),
      joint-low f c.in_ok-ls_inda.at msb c.in_ok-joint.ensures,
    )
