-- What the call returns of a frame: numbers, lists, and the lines in the lent buffer.
use Rattle.std.specs.Prelude.{ℕ, ◌-◌, List, ◌++◌, length, get_or, replicate, ℤ, pos}
use Rattle.common.specs.Reply.{Reply, Answer, accepted, refused, and_then, outside_limits, wrong_length, tables_fail, wrong_count, bandwidth_too_large, lastnz_too_large, joint_too_large25, joint_too_large24, residual_negative, fourteen_escapes}
use Rattle.coding.specs.Coding.{met_of}
use Rattle.tns_data.specs.Tns.{sixteen_of}
use Rattle.residual_data.specs.Sums.{seed, zero_flag}
use Rattle.frame_reader.specs.Frame.{Frame, filled_to}
use Rattle.frame_reader.specs.declared.Numbers.{Numbers}
use Rattle.frame_reader.specs.declared.FrameError.{FrameError}
use Rattle.frame_reader.specs.declared.FrameError.TheVariants.{OutsideLimits, WrongLength, TablesFail, WrongCount, BandwidthIdxOutOfRange, LastNonZeroTupleGreaterThanYLen, PlcTriggerSns1OutOfRange, PlcTriggerSns2OutOfRange, Step, FourteenEscapes, NegativeResidualNumBits}

-- the numbers of an accepted frame; "Noise seed" and "Zero flag" are of the lines as returned
abbrev pub numbers_of : ℕ → Frame → Numbers
numbers_of reading fr =
    record {
      side = fr.side;
      first_order = fr.tns.first.order;
      second_order = fr.tns.second.order;
      residual_count = length fr.residual;
      seed = seed fr.lines;
      zero = zero_flag reading fr.side.lastnz fr.side.gain fr.side.noise (get_or fr.lines 0 (pos 0)) (get_or fr.lines 1 (pos 0));
      cursor = fr.cursor;
      range = fr.range;
    }

-- document 01's number and values of each refusal, and the step of 9 to 11
abbrev pub reply_of : FrameError → Reply
reply_of OutsideLimits = outside_limits
reply_of (WrongLength len) = wrong_length len
reply_of TablesFail = tables_fail
reply_of (WrongCount count) = wrong_count count
reply_of (BandwidthIdxOutOfRange bandwidth) = bandwidth_too_large bandwidth
reply_of (LastNonZeroTupleGreaterThanYLen lastnz ne) = lastnz_too_large lastnz ne
reply_of (PlcTriggerSns1OutOfRange j) = joint_too_large25 j
reply_of (PlcTriggerSns2OutOfRange j) = joint_too_large24 j
reply_of (Step m) = met_of m
reply_of (FourteenEscapes pair) = fourteen_escapes pair
reply_of NegativeResidualNumBits = residual_negative

abbrev pub told : ℕ → Answer Frame → Answer Numbers
told reading a = and_then a (λ fr. accepted (numbers_of reading fr))

-- two orders' sixteen indices; the residual bits in 400 places; zeros where the frame is refused
abbrev pub indices_of : Answer Frame → List ℕ
indices_of (accepted fr) = sixteen_of fr.tns
indices_of (refused r) = replicate 16 0

abbrev pub residual_of : Answer Frame → List ℕ
residual_of (accepted fr) = fr.residual ++ replicate (400 - length fr.residual) 0
residual_of (refused r) = replicate 400 0

-- "An accepted read fills lines past lastnz with 0 to the buffer's end"; refused, the buffer is as it was
abbrev pub lines_behind : Answer Frame → List ℤ → List ℤ
lines_behind (accepted fr) before = filled_to (length before) fr.lines
lines_behind (refused r) before = before
