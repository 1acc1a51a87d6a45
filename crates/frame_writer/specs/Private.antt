-- Not needed to believe anything: what private contracts and proofs here speak by. No public contract cites it.
use Rattle.std.specs.Prelude.{ℕ, ◌+◌, ◌*◌, ◌≤◌, ◌≡◌, Bool, true, not, cond, ◌&&◌, ◌||◌, List, ltb, leb, eqb, ℤ, length}
use Rattle.common.specs.Reply.{Answer, accepted, given, field_outside, line_outside, residual_too_long, no_room}
use Rattle.common.specs.Tables.{Tables}
use Rattle.common.specs.declared.configuration.Configuration.{Configuration}
use Rattle.contexts.specs.Lines.{magnitude_at}
use Rattle.side_info.specs.Record.{side_passes}
use Rattle.range_encoder.specs.Encoder.{reserved_of, forecast_of}
use Rattle.range_encoder.specs.declared.EncoderState.{EncoderState}
use Rattle.sending.specs.Sending.{laid}
use Rattle.tns_data.specs.Sent.{tns_passes}
use Rattle.residual_data.specs.Residual.{nonzero}
use Rattle.frame_writer.specs.Frame.{Content, symbols_of, early_bits, tail_bits, reserved, fields_pass, first_failing}

-- what has been judged before a frame is written: configuration and length
pub record Judged (k : Configuration) (ne n : ℕ) : Type 0 where
  pub fs-low : k.fs_ind ≤ 4
  pub least : 60 ≤ ne
  pub most : ne ≤ 400
  pub short : n ≤ 400

-- and of what is written: 4, 13, 14 and 15
pub record Passed (fs ne : ℕ) (w : Content) : Type 0 where
  pub count : length w.lines ≡ ne
  pub sixteen : length w.indices ≡ 16
  pub sides : side_passes fs ne w.side ≡ true
  pub filters : tns_passes w.side.tns_first w.side.tns_second w.first w.second w.indices ≡ true
  pub modest : (k : ℕ) → magnitude_at w.lines k ≤ 32767
  pub few : length w.residual ≤ nonzero w.lines

-- what the late bits are cut by, by the state that the code has
abbrev pub held_by : ℕ → EncoderState → ℕ
held_by reading s = cond (eqb reading 0) (forecast_of s) (reserved_of s)

abbrev pub fails_at : List ℤ → ℕ → ℕ → Bool
fails_at lines lastnz k = ltb 32767 (magnitude_at lines k) || leb lastnz k && ltb 0 (magnitude_at lines k)

-- a frame behind the checks 1 to 4, and behind 13 to 15
abbrev pub write_fitting : Configuration → Tables → ℕ → Content → ℕ → Answer (List ℕ)
write_fitting k t ne w bytes =
    given (ltb (8 * bytes) (length (early_bits k.fs_ind ne w) + reserved (symbols_of k t (8 * bytes) ne w))) no_room
    (accepted (laid k.reading bytes (symbols_of k t (8 * bytes) ne w) (tail_bits k t (8 * bytes) ne w)))

abbrev pub write_on : Configuration → Tables → ℕ → Content → ℕ → Answer (List ℕ)
write_on k t ne w bytes =
    given (not (fields_pass k.fs_ind ne w)) field_outside
    (given (ltb (first_failing w) (length w.lines)) (line_outside (first_failing w))
    (given (ltb (nonzero w.lines) (length w.residual)) residual_too_long (write_fitting k t ne w bytes)))
