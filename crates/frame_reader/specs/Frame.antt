-- The whole frame, read. Document 01, "Numbered replies": "Reading checks 1, 2, 3, 4, then frame order."
use Rattle.std.specs.Prelude.{ℕ, ◌+◌, ◌-◌, ◌*◌, ◌/◌, cond, not, List, [], ◌++◌, ltb, eqb, length, replicate, ℤ, pos}
use Rattle.common.specs.Reply.{start, Answer, accepted, given, and_then, within, tables_fail, wrong_count}
use Rattle.common.specs.Configuration.{frame_lines}
use Rattle.common.specs.Tables.{Tables, tables_pass}
use Rattle.common.specs.declared.configuration.Configuration.{Configuration}
use Rattle.buffer_reader.specs.Steps.{Reading, found, next as ◌>>=◌}
use Rattle.buffer_reader.specs.declared.Cursor.{Cursor}
use Rattle.side_info.specs.Reader.{read_all}
use Rattle.side_info.specs.declared.SideInfo.{SideInfo}
use Rattle.range_decoder.specs.Decoder.{start_decoder}
use Rattle.range_decoder.specs.declared.DecoderState.{DecoderState}
use Rattle.contexts.specs.Contexts.{rate_flag}
use Rattle.tns_data.specs.Tns.{Tns, read_tns, weighting_row}
use Rattle.spectral_data.specs.Spectral.{Pair, read_pairs, lines_of, levels_of}
use Rattle.residual_data.specs.Residual.{available, residual_list, escaped_by, late_from}

-- what stands before the residual bits: side information, TNS data, pairs of lines, and the coder's range behind them
pub record Data : Type 0 where
  pub side : SideInfo
  pub tns : Tns
  pub pairs : List Pair
  pub range : ℕ

abbrev pub start_in : Reading DecoderState
start_in f c = within start (start_decoder f c)

-- a frame of N bits and `ne` lines, in its order
abbrev pub read_data : Configuration → Tables → ℕ → ℕ → Reading Data
read_data k t bits ne = do
  side ← read_all k.fs_ind ne
  state ← start_in
  tns ← read_tns t.orders t.coefficients (weighting_row k.duration bits) side.tns_first side.tns_second state
  pairs ← read_pairs t.lookup t.frequencies (eqb k.reading 1) (eqb side.lsb 1) (rate_flag bits k.fs_ind) ne 0 (side.lastnz / 2) 0 tns.state
  found (record { side = side; tns = tns.value; pairs = pairs.value; range = pairs.state.range })

-- a frame that was read: the pairs as their symbols and tail bits say, the `ne` lines as they are returned, the residual list, and
-- the last cursors and range
pub record Frame : Type 0 where
  pub side : SideInfo
  pub tns : Tns
  pub pairs : List Pair
  pub lines : List ℤ
  pub residual : List ℕ
  pub cursor : Cursor
  pub range : ℕ

-- lines, with 0 from there on up to so many
abbrev pub filled_to : ℕ → List ℤ → List ℤ
filled_to n lines = lines ++ replicate (n - length lines) (pos 0)

-- outside least-bit mode: a bit for each nonzero line, while there is room
abbrev pub with_residual : ℕ → List ℕ → Data → Cursor → ℕ → Frame
with_residual ne f d c room =
    let lines = filled_to ne (lines_of d.pairs) in
    let bits = residual_list f c.tail room lines in
    record {
      side = d.side;
      tns = d.tns;
      pairs = d.pairs;
      lines = lines;
      residual = bits;
      cursor = record { head = c.head; tail = c.tail + length bits };
      range = d.range;
    }

-- in least-bit mode: the bits that alter lines, while there is room, and no list
abbrev pub with_late : ℕ → ℕ → List ℕ → Data → Cursor → ℕ → Frame
with_late reading ne f d c room =
    let late = late_from f (escaped_by reading (levels_of d.pairs)) 0 (lines_of d.pairs) c.tail room in
    record {
      side = d.side;
      tns = d.tns;
      pairs = d.pairs;
      lines = filled_to ne late.lines;
      residual = [];
      cursor = record { head = c.head; tail = late.tail };
      range = d.range;
    }

-- the residual bits behind the data, or 12
abbrev pub finished : ℕ → ℕ → List ℕ → Data → Cursor → Answer Frame
finished reading ne f d c =
    and_then (available (8 * length f) c d.range)
    (λ room. accepted (cond (eqb d.side.lsb 1) (with_late reading ne f d c room) (with_residual ne f d c room)))

-- a frame, by the configuration, the table set and the length of the line buffer
abbrev pub read_frame : Configuration → Tables → ℕ → List ℕ → Answer Frame
read_frame k t count f =
    and_then (frame_lines k (length f))
    (λ ne. given (not (tables_pass t)) tables_fail
    (given (ltb count ne) (wrong_count count)
    (and_then (read_data k t (8 * length f) ne f (record { head = 0; tail = 0 })) (λ r. finished k.reading ne f r.0 r.1))))
