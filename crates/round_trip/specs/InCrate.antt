-- Theorem 5, what is not so in the crate reading: two frames of 20 bytes, by the flat set at 10 ms and `fs_ind` 0. The first is written and
-- comes back with another line; of the second a damage behind the head's own bits alters a symbol. proofs/InCrate.antt proves both.
use Rattle.std.specs.Prelude.{ℕ, ◌≡◌, List, [], ◌∷◌, ◌++◌, ℤ, pos, replicate}
use Rattle.common.specs.Flat.{flat_set}
use Rattle.common.specs.Reply.{accepted}
use Rattle.common.specs.declared.configuration.Configuration.{Configuration}
use Rattle.side_info.specs.Joint.{sns_of}
use Rattle.side_info.specs.declared.SideInfo.{SideInfo}
use Rattle.contexts.specs.Lines.{line_at}
use Rattle.range_encoder.specs.Runs.{own_bytes, own_last, own_bits}
use Rattle.tns_data.specs.Tns.{no_filter}
use Rattle.frame_reader.specs.Depends.{symbols_of as symbols_read}
use Rattle.frame_reader.specs.Frame.{Frame, filled_to, read_frame}
use Rattle.frame_writer.specs.Frame.{Content, symbols_of}
use Rattle.round_trip.specs.RoundTrip.{returned, Written, Altered, head_and_side}

abbrev pub in_crate : Configuration
in_crate = record { fs_ind = 0; duration = 0; reading = 0 }

-- side information all of whose bits are 0 but those of lastnz and lsb: no TNS, no pitch, J is 0
abbrev pub plain_side : ℕ → ℕ → SideInfo
plain_side lastnz lsb =
    record {
      bandwidth = 0;
      lastnz = lastnz;
      lsb = lsb;
      gain = 0;
      tns_first = 0;
      tns_second = 0;
      pitch = 0;
      sns = sns_of 0 0 0 0 0 0;
      active = 0;
      index = 0;
      noise = 0;
    }

-- lines to write, with 0 from there on, and no residual list
abbrev pub plain : ℕ → ℕ → List ℤ → Content
plain lastnz lsb lines =
    record { side = plain_side lastnz lsb; first = 0; second = 0; indices = replicate 16 0; lines = filled_to 80 lines; residual = [] }

-- ---- "The Rust stores an escape level by pair number and looks it up by line number"

-- lines 0 0 5 0 in least-bit mode
abbrev pub five : Content
five = plain 4 1 (pos 0 ∷ pos 0 ∷ pos 5 ∷ pos 0 ∷ [])

-- the tail's 0x41 is lastnz and lsb, its 0x08 the lowest bit of the 5
abbrev pub five_frame : List ℕ
five_frame = 0x0F ∷ 0x2C ∷ replicate 10 0 ++ 0x08 ∷ replicate 6 0 ++ 0x41 ∷ []

-- what is read: pair 1 is escaped, and its level is looked up as that of pair 2, so the lowest bit is left where it is
abbrev pub five_read : Frame
five_read =
    record {
      side = plain_side 4 1;
      tns = record { first = no_filter; second = no_filter };
      pairs =
          record { escapes = 0; last = 0; first = pos 0; second = pos 0 } ∷ record { escapes = 1; last = 2; first = pos 4; second = pos 0 } ∷ [];
      lines = filled_to 80 (pos 0 ∷ pos 0 ∷ pos 4 ∷ pos 0 ∷ []);
      residual = [];
      cursor = record { head = 4; tail = 59 };
      range = 0x0E0C7C;
    }

pub record FiveReadAsFour : Type 0 where
  pub written : Written 0 in_crate flat_set five 20 80 five_frame
  pub read : read_frame in_crate flat_set 80 five_frame ≡ accepted five_read
  -- what `returned` says of line 2, and what came back
  pub due : line_at (returned in_crate flat_set five 20).lines 2 ≡ pos 5
  pub came : line_at five_read.lines 2 ≡ pos 4

-- ---- "`ac_enc_finish` compares with an unmasked `high`"

-- lines 0 6: an escape, and symbol 12 behind it
abbrev pub six : Content
six = plain 2 0 (pos 0 ∷ pos 6 ∷ [])

abbrev pub six_frame : List ℕ
six_frame = 0xFC ∷ replicate 19 0

-- seven bits behind the head's own nine, which are nobody's
abbrev pub six_altered : List ℕ
six_altered = 0xFC ∷ 0x7F ∷ replicate 18 0

-- what is read of it: symbol 13, so another line 0, and a sign and residual bits with it
abbrev pub six_read : Frame
six_read =
    record {
      side = plain_side 2 0;
      tns = record { first = no_filter; second = no_filter };
      pairs = record { escapes = 1; last = 13; first = pos 2; second = pos 6 } ∷ [];
      lines = filled_to 80 (pos 2 ∷ pos 6 ∷ []);
      residual = 0 ∷ 0 ∷ [];
      cursor = record { head = 4; tail = 64 };
      range = 0xE0C400;
    }

-- the head's own bits of the frame: a whole byte, and the top bit of one more
pub record NineOwn : Type 0 where
  pub whole-bytes : own_bytes 0 (symbols_of in_crate flat_set 160 80 six) ≡ 0xFC ∷ []
  pub last_byte : own_last 0 (symbols_of in_crate flat_set 160 80 six) ≡ 0
  pub last-bits : own_bits 0 (symbols_of in_crate flat_set 160 80 six) ≡ 1

pub record TwelveReadAsThirteen : Type 0 where
  pub written : Written 0 in_crate flat_set six 20 80 six_frame
  pub nine-own : NineOwn
  pub altered : Altered head_and_side in_crate flat_set six six_frame six_altered
  pub read : read_frame in_crate flat_set 80 six_altered ≡ accepted six_read
  -- escapes and last symbol of pair 0, as written, and as they came
  pub due : symbols_read (returned in_crate flat_set six 20).pairs ≡ (1, 12) ∷ []
  pub came : symbols_read six_read.pairs ≡ (1, 13) ∷ []
