-- A list of symbols through the encoder, its finish, and the decoder.
use Rattle.std.specs.Prelude.{ℕ, ◌+◌, ◌*◌, ◌<◌, List, [], ◌∷◌, ◌++◌, length, ◌≡◌, true}
use Rattle.common.specs.Tables.{row_passes}
use Rattle.buffer_reader.specs.Steps.{Reading, found, next}
use Rattle.range_decoder.specs.Decoder.{Decoded, symbol_step}
use Rattle.range_decoder.specs.declared.DecoderState.{DecoderState}
use Rattle.range_encoder.specs.Interval.{Sent, cumulative_of, frequency_of}
use Rattle.range_encoder.specs.Encoder.{start_encoder, encoded, encoded_bytes}
use Rattle.range_encoder.specs.Finish.{finish_bytes, finish_last, finish_bits}
use Rattle.range_encoder.specs.declared.EncoderState.{EncoderState}

-- each symbol is one of a row that passes
pub record Passes (x : Sent) : Type 0 where
  pub row-passes : row_passes x.row ≡ true
  pub symbol-there : x.symbol < length x.row

pub data AllPass : List Sent → Type 0 where
  none : AllPass []
  more : {x : Sent} {xs : List Sent} → Passes x → AllPass xs → AllPass (x ∷ xs)

-- the encoder's state behind a list of symbols, and the bytes that it has sent
unfoldable pub state_behind : EncoderState → List Sent → EncoderState
state_behind s [] = s
state_behind s (x ∷ xs) = state_behind (encoded s (cumulative_of x) (frequency_of x)) xs

unfoldable pub bytes_behind : EncoderState → List Sent → List ℕ
bytes_behind s [] = []
bytes_behind s (x ∷ xs) =
    encoded_bytes s (cumulative_of x) (frequency_of x) ++ bytes_behind (encoded s (cumulative_of x) (frequency_of x)) xs

-- "The S bytes and these bits together are the head's own bits": whole bytes, and the top bits of one more
abbrev pub own_bytes : ℕ → List Sent → List ℕ
own_bytes reading xs = bytes_behind start_encoder xs ++ finish_bytes reading (state_behind start_encoder xs)

abbrev pub own_last : ℕ → List Sent → ℕ
own_last reading xs = finish_last reading (state_behind start_encoder xs)

abbrev pub own_bits : ℕ → List Sent → ℕ
own_bits reading xs = finish_bits reading (state_behind start_encoder xs)

-- how many they are
abbrev pub own_length : ℕ → List Sent → ℕ
own_length reading xs = 8 * length (own_bytes reading xs) + own_bits reading xs

-- the decoder on as many symbols, by their rows alone: each symbol with the state behind it
unfoldable pub decode_all : DecoderState → List Sent → Reading (List Decoded)
decode_all s [] = found []
decode_all s (x ∷ xs) =
    next (symbol_step s x.row) (λ d. next (decode_all d.state xs) (λ ds. found (d ∷ ds)))
