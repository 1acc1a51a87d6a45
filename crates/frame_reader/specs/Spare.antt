-- Document 01, "The coder": "Used is final tail + 8(head-3) + 25 - floor(log2 range); spare is N less it", of a frame that was read.
use Rattle.std.specs.Prelude.{ℕ, ◌-◌}
use Rattle.residual_data.specs.Residual.{used_bits}
use Rattle.frame_reader.specs.Frame.{Frame}

abbrev pub used : Frame → ℕ
used fr = used_bits fr.cursor fr.range

abbrev pub spare : ℕ → Frame → ℕ
spare bits fr = bits - used fr
