-- `writer::fields_of` meets its contract: the second stage of a record that passes is within its limits.
-- Assumes nothing.
use Rattle.side_info.proofs.SideLimits.{side-limits}
use Rattle.side_info.proofs.writer.fields_of.Goals as goal

pub joint_of-joint-requires : goal.joint_of-joint-requires
joint_of-joint-requires c = let a = c.args in (side-limits a.fs_ind a.ne a.s c.requires.3).stages
