-- Document 01, "The coder", first paragraph: the decoder's start, and the symbol step on a row of any length that passes.
-- Nothing here says how the symbol is found.
use Rattle.std.specs.Prelude.{ℕ, ◌+◌, ◌-◌, ◌*◌, ◌/◌, Bool, cond, not, ◌&&◌, List, leb, ltb, length, get_or, Result, Ok, Err}
use Rattle.common.specs.Reply.{Reply, Answer, accepted, refused, given, outside_limits, tables_fail, low_beyond_limit}
use Rattle.common.specs.Tables.{row_passes, cumulative}
use Rattle.common.specs.Last.{last_below}
use Rattle.buffer_reader.specs.Reads.{take_byte, take_three, too_long}
use Rattle.buffer_reader.specs.Reads.{reply_of as buffer_reply}
use Rattle.buffer_reader.specs.Steps.{Reading, found, next, refusing}
use Rattle.buffer_reader.specs.declared.Cursor.{Cursor}
use Rattle.range_decoder.specs.declared.DecoderState.{DecoderState}
use Rattle.range_decoder.specs.declared.CodecError.{CodecError}
use Rattle.range_decoder.specs.declared.CodecError.TheVariants.{OutsideLimits, RowFails, LowBeyondLimit, Buffer}

-- "Decoder start: low is three head bytes, range 0xFFFFFF"
abbrev pub start_decoder : Reading DecoderState
start_decoder = next take_three (λ low. found (record { low = low; range = 0xFFFFFF }))

-- "r = range >> 10": what one unit of frequency is worth
abbrev pub unit_of : ℕ → ℕ
unit_of range = range / 1024

-- "the symbol is the last whose r*cumulative <= low"
unfoldable pub owner : ℕ → ℕ → List ℕ → ℕ
owner r low row = last_below (λ k. leb (r * cumulative row k) low) (length row)

-- "subtract; range = r*frequency", for symbol k
abbrev pub narrowed : ℕ → ℕ → List ℕ → ℕ → DecoderState
narrowed r low row k = record { low = low - r * cumulative row k; range = r * get_or row k 0 }

-- "while range < 0x10000 append a byte": one turn of it
abbrev pub append_byte : DecoderState → Reading DecoderState
append_byte s =
    cond (ltb s.range 0x10000)
    (next take_byte (λ byte. found (record { low = s.low * 256 + byte; range = s.range * 256 })))
    (found s)

-- two turns: behind them no range of a row that passes is below 0x10000, so there is no third
abbrev pub renormalised : DecoderState → Reading DecoderState
renormalised s = next (append_byte s) append_byte

-- a symbol, and the state behind it
pub record Decoded : Type 0 where
  pub symbol : ℕ
  pub state : DecoderState

-- "r = range >> 10; refused (11) exactly if low >= 1024r", and otherwise the owner, with its own part of the range
abbrev pub symbol_step : DecoderState → List ℕ → Reading Decoded
symbol_step s row =
    let r : ℕ = unit_of s.range in
    let k : ℕ = owner r s.low row in
    refusing (leb (1024 * r) s.low) (low_beyond_limit s.low (1024 * r))
    (next (renormalised (narrowed r s.low row k)) (λ t. found (record { symbol = k; state = t })))

-- 1, "range of a lent decoder state (0x10000..0xFFFFFF)"
abbrev pub range_passes : ℕ → Bool
range_passes range = leb 0x10000 range && leb range 0xFFFFFF

-- "leaves 1, 2, 3, 17, then 9, 10 or 11": the step on a state and a row that are lent
abbrev pub decode_symbol : DecoderState → List ℕ → Reading Decoded
decode_symbol s row f c =
    given (not (range_passes s.range)) outside_limits
    (too_long f (given (not (row_passes row)) tables_fail (symbol_step s row f c)))

-- document 01's number and values of each refusal
abbrev pub reply_of : CodecError → Reply
reply_of OutsideLimits = outside_limits
reply_of RowFails = tables_fail
reply_of (LowBeyondLimit low limit) = low_beyond_limit low limit
reply_of (Buffer e) = buffer_reply e

-- what the result of a step says
abbrev pub symbol_of : Result (ℕ × DecoderState × Cursor) CodecError → Answer (Decoded × Cursor)
symbol_of (Ok (k, s, c)) = accepted (record { symbol = k; state = s }, c)
symbol_of (Err e) = refused (reply_of e)
