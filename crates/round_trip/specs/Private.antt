-- Not needed to believe anything: what the proofs here speak by.
use Rattle.std.specs.Prelude.{ℕ, ◌+◌, ◌*◌, ◌≤◌, ◌≡◌, true, List, ◌++◌, length}
use Rattle.common.specs.Configuration.{frame_lines}
use Rattle.common.specs.Reply.{accepted}
use Rattle.common.specs.Tables.{Tables, tables_pass}
use Rattle.common.specs.declared.configuration.Configuration.{Configuration}
use Rattle.buffer_reader.specs.Tail.{Bytes}
use Rattle.buffer_reader.specs.declared.Cursor.{Cursor}
use Rattle.side_info.specs.Layout.{side_fields}
use Rattle.contexts.specs.Contexts.{rate_flag}
use Rattle.range_encoder.specs.Interval.{Sent, whole, behind}
use Rattle.range_encoder.specs.Theory.{Inside}
use Rattle.sending.specs.Sending.{Stands}
use Rattle.tns_data.specs.Tns.{weighting_row}
use Rattle.tns_data.specs.Sent.{sent_tns, tns_of}
use Rattle.spectral_data.specs.Sent.{sent_pairs, pairs_bits, pairs_of}
use Rattle.frame_reader.specs.Frame.{Data}
use Rattle.frame_writer.specs.Frame.{Content, fields_bits, least_bit, early_bits, fields_pass, first_failing}
use Rattle.round_trip.specs.RoundTrip.{lines_in, coder_behind, early_length}

-- content that passes the checks but 15 and 16, in the standard reading
pub record Fit (k : Configuration) (t : Tables) (w : Content) (bytes : ℕ) : Type 0 where
  pub standard : k.reading ≡ 1
  pub sixteen : length w.indices ≡ 16
  pub frame : frame_lines k bytes ≡ accepted (lines_in k)
  pub tables : tables_pass t ≡ true
  pub count : length w.lines ≡ lines_in k
  pub fields : fields_pass k.fs_ind (lines_in k) w ≡ true
  pub lines : length w.lines ≤ first_failing w

-- a frame that holds the content's symbols at its head, and what comes before the late bits at its tail, room or not
pub record Bears (k : Configuration) (t : Tables) (w : Content) (g : List ℕ) : Type 0 where
  pub bytes : Bytes g
  pub inside : Inside g 0 (coder_behind k t w (length g))
  pub head : 3 + (coder_behind k t w (length g)).shifts ≤ length g
  pub stands : Stands g 0 (early_bits k.fs_ind (lines_in k) w)

-- the tail's bits before the late ones have room
abbrev pub EarlyRoom : Configuration → Tables → Content → List ℕ → Type 0
EarlyRoom k t w g = 8 * (coder_behind k t w (length g)).shifts + early_length k w + 2 ≤ 8 * length g

-- the symbols, the data and the cursor behind the first m pairs
abbrev pub symbols_up_to : Configuration → Tables → Content → ℕ → ℕ → List Sent
symbols_up_to k t w bytes m =
    sent_tns t.orders t.coefficients (weighting_row k.duration (8 * bytes)) (tns_of w.first w.second w.indices) ++
    sent_pairs t.lookup t.frequencies (rate_flag (8 * bytes) k.fs_ind) (lines_in k) w.lines 0 m 0

abbrev pub data_up_to : Configuration → Tables → Content → ℕ → ℕ → Data
data_up_to k t w bytes m =
    record {
      side = w.side;
      tns = tns_of w.first w.second w.indices;
      pairs = pairs_of (least_bit w) w.lines 0 m;
      range = (behind whole (symbols_up_to k t w bytes m)).range;
    }

abbrev pub cursor_up_to : Configuration → Tables → Content → ℕ → ℕ → Cursor
cursor_up_to k t w bytes m =
    record {
      head = 3 + (behind whole (symbols_up_to k t w bytes m)).shifts;
      tail = length (fields_bits (side_fields k.fs_ind (lines_in k) w.side)) + length (pairs_bits (least_bit w) w.lines 0 m);
    }
