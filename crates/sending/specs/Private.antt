-- Not needed to believe anything: what private contracts and proofs here speak by. No public contract cites it.
use Rattle.std.specs.Prelude.{ℕ, ◌+◌, ◌*◌, ◌≤◌, ◌<◌, ◌≡◌, Bool, true, cond, List, [], ◌∷◌, ltb, length}
use Rattle.std.proofs.lemmas.List.Edits.{sets}
use Rattle.range_decoder.specs.Decoder.{unit_of}
use Rattle.range_encoder.specs.Encoder.{encoded, encoded_bytes, shifts_of}
use Rattle.range_encoder.specs.Interval.{Sent, cumulative_of, frequency_of, Interval, narrowed_by}
use Rattle.range_encoder.specs.Runs.{AllPass, state_behind}
use Rattle.range_encoder.specs.Private.{Fits}
use Rattle.range_encoder.specs.declared.EncoderState.{EncoderState}
use Rattle.sending.specs.Sending.{Bit, put_bits}

-- the interval of a count: S and range, which go their way without low
abbrev pub count_of : EncoderState → Interval
count_of s = record { base = 0; range = s.range; shifts = s.out }

-- a symbol counted: range and S go on, S in the place of the bytes out, and nothing is sent
abbrev pub counted : EncoderState → Sent → EncoderState
counted s x =
    record {
      low = s.low;
      range = (narrowed_by (count_of s) x).range;
      held = s.held;
      cache = s.cache;
      carry = s.carry;
      pending = s.pending;
      out = (narrowed_by (count_of s) x).shifts;
    }

-- the same as the code goes: the symbol's part, and two turns
abbrev pub recounted : EncoderState → ℕ → ℕ → EncoderState
recounted s range out =
    record {
      low = s.low;
      range = range;
      held = s.held;
      cache = s.cache;
      carry = s.carry;
      pending = s.pending;
      out = out;
    }

abbrev pub wider_count : EncoderState → EncoderState
wider_count s = cond (ltb s.range 0x10000) (recounted s (s.range * 256) (s.out + 1)) s

abbrev pub counted_by : EncoderState → ℕ → EncoderState
counted_by s frequency = wider_count (wider_count (recounted s (unit_of s.range * frequency) s.out))

-- symbols written, or counted alone: the state behind them, and the buffer
abbrev pub sent_one : Bool → EncoderState → Sent → EncoderState
sent_one writing s x = cond writing (encoded s (cumulative_of x) (frequency_of x)) (counted s x)

abbrev pub laid_one : Bool → EncoderState → List ℕ → Sent → List ℕ
laid_one writing s f x = cond writing (sets f s.out (encoded_bytes s (cumulative_of x) (frequency_of x))) f

unfoldable pub sent_all : Bool → EncoderState → List Sent → EncoderState
sent_all writing s [] = s
sent_all writing s (x ∷ xs) = sent_all writing (sent_one writing s x) xs

unfoldable pub laid_all : Bool → EncoderState → List ℕ → List Sent → List ℕ
laid_all writing s f [] = f
laid_all writing s f (x ∷ xs) = laid_all writing (sent_one writing s x) (laid_one writing s f x) xs

-- what sending asks for, of a buffer of n bytes: room is asked for where it writes
pub record Ready (writing : Bool) (s : EncoderState) (n : ℕ) (xs : List Sent) : Type 0 where
  pub all : AllPass xs
  pub fits : Fits s
  pub few : shifts_of s + 2 * length xs ≤ 65535
  pub short : n ≤ 65535
  pub room : writing ≡ true → shifts_of (state_behind s xs) ≤ n

-- tail bits written, or counted alone: the buffer behind them
abbrev pub put_all : Bool → List ℕ → ℕ → List Bit → List ℕ
put_all writing f i bits = cond writing (put_bits f i bits) f

-- what putting asks for: bits, room where it writes, and places that fit
pub record Puts (writing : Bool) (f : List ℕ) (i n : ℕ) : Type 0 where
  pub few : i + n ≤ 65535
  pub short : length f ≤ 65535
  pub room : writing ≡ true → i + n ≤ 8 * length f

-- what theorems ask of bits: each is 0 or 1
pub data AllBits : List Bit → Type 0 where
  no_bits : AllBits []
  more-bits : {b : Bit} {bs : List Bit} → b.value < 2 → AllBits bs → AllBits (b ∷ bs)
