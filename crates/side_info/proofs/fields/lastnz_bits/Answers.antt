-- `fields::lastnz_bits` meets its contract: the powers of two between which half of the lines lies.
-- Assumes nothing.
use mathlib.Core.Path.{sym}
use native.Mathlib.Omega.{arith}
use Rattle.side_info.proofs.Widths.{lastnz-five, lastnz-six, lastnz-seven, lastnz-eight}
use Rattle.side_info.proofs.fields.lastnz_bits.Goals as goal

pub returns-in-0-to-32 : goal.returns-in-0-to-32
returns-in-0-to-32 c = sym (lastnz-five c.args.ne c.requires.0 (omega arith))

pub returns-in-33-to-64 : goal.returns-in-33-to-64
returns-in-33-to-64 c = sym (lastnz-six c.args.ne c.requires.0 (omega arith) (omega arith))

pub returns-in-65-to-128 : goal.returns-in-65-to-128
returns-in-65-to-128 c = sym (lastnz-seven c.args.ne c.requires.0 (omega arith) (omega arith))

pub returns-in_default : goal.returns-in_default
returns-in_default c = sym (lastnz-eight c.args.ne c.requires.0 (omega arith) (omega arith))
