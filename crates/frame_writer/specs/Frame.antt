-- The whole frame, written. Document 01, "Numbered replies": "Writing checks 1, 2, 3, 4, 13, 14, 15, 16".
use Rattle.std.specs.Prelude.{ℕ, zero, suc, ◌+◌, ◌-◌, ◌*◌, ◌/◌, ◌%◌, Bool, cond, not, ◌&&◌, ◌||◌, List, [], ◌∷◌, ◌++◌, ltb, leb, eqb, length, take, ℤ}
use Rattle.common.specs.Reply.{Answer, accepted, given, and_then, tables_fail, wrong_count, field_outside, line_outside, residual_too_long, no_room}
use Rattle.common.specs.Configuration.{frame_lines}
use Rattle.common.specs.Tables.{Tables, tables_pass}
use Rattle.common.specs.declared.configuration.Configuration.{Configuration}
use Rattle.contexts.specs.Contexts.{rate_flag}
use Rattle.contexts.specs.First.{first_from}
use Rattle.contexts.specs.Lines.{magnitude_at}
use Rattle.side_info.specs.Record.{side_passes}
use Rattle.side_info.specs.Layout.{width, value, side_fields}
use Rattle.side_info.specs.declared.SideInfo.{SideInfo}
use Rattle.side_info.specs.declared.writer.Field.{Field}
use Rattle.range_encoder.specs.Interval.{Sent}
use Rattle.range_encoder.specs.Encoder.{start_encoder, reserved_of, forecast_of}
use Rattle.range_encoder.specs.Runs.{state_behind}
use Rattle.sending.specs.Sending.{Bit, side, owned, laid}
use Rattle.tns_data.specs.Tns.{weighting_row}
use Rattle.tns_data.specs.Sent.{sent_tns, tns_of, tns_passes}
use Rattle.spectral_data.specs.Sent.{sent_pairs, pairs_bits}
use Rattle.residual_data.specs.Residual.{nonzero}
use Rattle.residual_data.specs.Sent.{residual_bits, late_pairs}

-- what is written: the side record, both TNS orders and their sixteen places, the lines, the residual list
pub record Content : Type 0 where
  pub side : SideInfo
  pub first : ℕ
  pub second : ℕ
  pub indices : List ℕ
  pub lines : List ℤ
  pub residual : List ℕ

-- the symbols for the head: TNS, then the pairs
abbrev pub symbols_of : Configuration → Tables → ℕ → ℕ → Content → List Sent
symbols_of k t bits ne w =
    sent_tns t.orders t.coefficients (weighting_row k.duration bits) (tns_of w.first w.second w.indices) ++
    sent_pairs t.lookup t.frequencies (rate_flag bits k.fs_ind) ne w.lines 0 (w.side.lastnz / 2) 0

-- the bits of a field, its lowest first, and of fields behind one another
unfoldable pub field_bits : ℕ → ℕ → List Bit
field_bits v zero = []
field_bits v (suc n) = owned side (v % 2) ∷ field_bits (v / 2) n

unfoldable pub fields_bits : List Field → List Bit
fields_bits [] = []
fields_bits (field ∷ fields) = field_bits (value field) (width field) ++ fields_bits fields

-- "least-bit mode"
abbrev pub least_bit : Content → Bool
least_bit w = eqb w.side.lsb 1

-- the bits for the tail before what comes late: the side information, then the pairs
abbrev pub early_bits : ℕ → ℕ → Content → List Bit
early_bits fs ne w = fields_bits (side_fields fs ne w.side) ++ pairs_bits (least_bit w) w.lines 0 (w.side.lastnz / 2)

-- what comes late: the residual list, or in least-bit mode lowest bits and signs; "the writer judges one by 15 alone and sends none of it"
abbrev pub late_bits : Content → List Bit
late_bits w =
    cond (least_bit w) (late_pairs w.lines 0 (w.side.lastnz / 2)) (residual_bits 0 w.lines w.residual)

-- E, and what the late bits are cut by: E, or in the crate reading the source's own forecast
abbrev pub reserved : List Sent → ℕ
reserved symbols = reserved_of (state_behind start_encoder symbols)

abbrev pub held_back : ℕ → List Sent → ℕ
held_back reading symbols = cond (eqb reading 0) (forecast_of (state_behind start_encoder symbols)) (reserved symbols)

-- all bits for the tail of a frame of N bits: what comes late is "dropped for room"
abbrev pub tail_bits : Configuration → Tables → ℕ → ℕ → Content → List Bit
tail_bits k t bits ne w =
    let early = early_bits k.fs_ind ne w in
    early ++ take (bits - length early - held_back k.reading (symbols_of k t bits ne w)) (late_bits w)

-- 13: side and TNS fields
abbrev pub fields_pass : ℕ → ℕ → Content → Bool
fields_pass fs ne w =
    side_passes fs ne w.side && tns_passes w.side.tns_first w.side.tns_second w.first w.second w.indices

-- 14: "line -32768, or nonzero from lastnz on", and the first such place, or the place behind all
abbrev pub line_fails : Content → ℕ → Bool
line_fails w k = ltb 32767 (magnitude_at w.lines k) || leb w.side.lastnz k && ltb 0 (magnitude_at w.lines k)

abbrev pub first_failing : Content → ℕ
first_failing w = first_from (line_fails w) 0 (length w.lines)

-- a frame of so many bytes
abbrev pub write_frame : Configuration → Tables → Content → ℕ → Answer (List ℕ)
write_frame k t w bytes =
    and_then (frame_lines k bytes)
    (λ ne. given (not (tables_pass t)) tables_fail
    (given (not (eqb (length w.lines) ne)) (wrong_count (length w.lines))
    (given (not (fields_pass k.fs_ind ne w)) field_outside
    (given (ltb (first_failing w) (length w.lines)) (line_outside (first_failing w))
    (given (ltb (nonzero w.lines) (length w.residual)) residual_too_long
    (given (ltb (8 * bytes) (length (early_bits k.fs_ind ne w) + reserved (symbols_of k t (8 * bytes) ne w))) no_room
    (accepted (laid k.reading bytes (symbols_of k t (8 * bytes) ne w) (tail_bits k t (8 * bytes) ne w)))))))))
