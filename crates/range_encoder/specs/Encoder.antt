-- The encoder as in the source: `ac_enc_init`, `ac_shift` and `ac_encode`. Each is the state behind it, and the bytes that it
-- sends, which follow those that are out. This is the Rust's from every state that symbols of rows that pass lead to
-- (`sound-behind`): there no sum passes 32 bits, and two turns are the source's whole loop.
use Rattle.std.specs.Prelude.{ℕ, ◌+◌, ◌-◌, ◌*◌, ◌/◌, ◌%◌, Bool, cond, ◌||◌, List, [], ◌++◌, ltb, eqb, replicate}
use Rattle.common.specs.Last.{floor_log2}
use Rattle.range_decoder.specs.Decoder.{unit_of}
use Rattle.range_encoder.specs.declared.EncoderState.{EncoderState}

abbrev pub start_encoder : EncoderState
start_encoder = record { low = 0; range = 0xFFFFFF; held = 0; cache = 0; carry = 0; pending = 0; out = 0 }

-- S: the bytes out, the one in the cache, and the 0xFFs that wait behind it
abbrev pub shifts_of : EncoderState → ℕ
shifts_of s = s.out + s.held + s.pending

-- what is held is settled: no carry can reach it any more, or the carry is there
abbrev pub settles : EncoderState → Bool
settles s = ltb s.low 0xFF0000 || eqb s.carry 1

-- `ac_shift`: the bytes that it sends
abbrev pub shift_bytes : EncoderState → List ℕ
shift_bytes s =
    cond (settles s)
    (replicate s.held ((s.cache + s.carry) % 256) ++ replicate s.pending ((s.carry + 255) % 256))
    []

-- `ac_shift`: the state behind it
abbrev pub shifted : EncoderState → EncoderState
shifted s =
    record {
      low = s.low * 256 % 0x1000000;
      range = s.range;
      held = cond (settles s) 1 s.held;
      cache = cond (settles s) (s.low / 0x10000) s.cache;
      carry = cond (settles s) 0 s.carry;
      pending = cond (settles s) 0 (s.pending + 1);
      out = cond (settles s) (shifts_of s) s.out;
    }

-- a state with another low, range and carry
abbrev pub changed : EncoderState → ℕ → ℕ → ℕ → EncoderState
changed s low range carry =
    record {
      low = low;
      range = range;
      held = s.held;
      cache = s.cache;
      carry = carry;
      pending = s.pending;
      out = s.out;
    }

-- `ac_encode` up to its loop, by a symbol's cumulative and frequency
abbrev pub symbol_added : EncoderState → ℕ → ℕ → EncoderState
symbol_added s cumulative frequency =
    let r = unit_of s.range in
    let low = s.low + r * cumulative in
    changed s (low % 0x1000000) (r * frequency) (cond (ltb low 0x1000000) s.carry 1)

abbrev pub with_range : EncoderState → ℕ → EncoderState
with_range s range = changed s s.low range s.carry

-- "while range < 0x10000": one turn of it
abbrev pub turn : EncoderState → EncoderState
turn s = cond (ltb s.range 0x10000) (with_range (shifted s) (s.range * 256)) s

abbrev pub turn_bytes : EncoderState → List ℕ
turn_bytes s = cond (ltb s.range 0x10000) (shift_bytes s) []

-- two turns: behind them no range of a row that passes is below 0x10000
abbrev pub encoded : EncoderState → ℕ → ℕ → EncoderState
encoded s cumulative frequency = turn (turn (symbol_added s cumulative frequency))

abbrev pub encoded_bytes : EncoderState → ℕ → ℕ → List ℕ
encoded_bytes s cumulative frequency =
    let added = symbol_added s cumulative frequency in
    turn_bytes added ++ turn_bytes (turn added)

-- "Reserved bits E = 8S + 25 - floor(log2 range)"
abbrev pub reserved_bits : ℕ → ℕ → ℕ
reserved_bits shifts range = 8 * shifts + 25 - floor_log2 range

abbrev pub reserved_of : EncoderState → ℕ
reserved_of s = reserved_bits (shifts_of s) s.range

-- the source's own forecast, `nbits_side_forcast`: it counts a byte in the cache also while there is none
abbrev pub forecast_of : EncoderState → ℕ
forecast_of s = reserved_bits (s.out + 1 + s.pending) s.range
