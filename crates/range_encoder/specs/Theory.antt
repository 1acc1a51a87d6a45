-- What the coder's theorems say, in their order; `proofs/` proves each, for every list of symbols of rows that pass.
use Rattle.std.specs.Prelude.{ℕ, ◌+◌, ◌-◌, ◌*◌, ◌/◌, ◌%◌, ◌^◌, ◌≤◌, ◌<◌, ◌≡◌, List, [], ◌∷◌, ◌++◌, length, replicate, get_or}
use Rattle.std.proofs.lemmas.List.Edits.{sets}
use Rattle.common.specs.Last.{floor_log2}
use Rattle.common.specs.Reply.{accepted}
use Rattle.buffer_reader.specs.Tail.{tail_bit, Bytes}
use Rattle.buffer_reader.specs.Steps.{next}
use Rattle.buffer_reader.specs.declared.Cursor.{Cursor}
use Rattle.range_decoder.specs.Decoder.{Decoded, start_decoder}
use Rattle.range_decoder.specs.declared.DecoderState.{DecoderState}
use Rattle.range_encoder.specs.Encoder.{start_encoder, shifts_of, reserved_bits, encoded, encoded_bytes}
use Rattle.range_encoder.specs.Finish.{finish_bytes, finish_last, finish_bits, with_own}
use Rattle.range_encoder.specs.Interval.{Sent, cumulative_of, frequency_of, Interval, whole, narrowed_by, behind}
use Rattle.range_encoder.specs.Runs.{Passes, state_behind, bytes_behind, own_bytes, own_last, own_bits, own_length, decode_all}
use Rattle.range_encoder.specs.Digits.{number, head_number}
use Rattle.range_encoder.specs.declared.EncoderState.{EncoderState}

-- 1, `interval-bounded`: an interval between two symbols ends within its string, whose numbers are those below 2^(24 + 8S)
pub record Within (i : Interval) : Type 0 where
  pub range-least : 0x10000 ≤ i.range
  pub range-most : i.range ≤ 0xFFFFFF
  pub inside : i.base + i.range ≤ 2 ^ (24 + 8 * i.shifts)

-- 2, `carry-exact`: the digits that are held are the cache and the 0xFFs behind it
abbrev pub held_digits : EncoderState → List ℕ
held_digits s = replicate s.held s.cache ++ replicate s.pending 255

-- with the carry they follow the bytes w that are out, and all are the digits of the interval's base, of which low is the rest
pub record Holds (w : List ℕ) (s : EncoderState) (i : Interval) : Type 0 where
  pub range : s.range ≡ i.range
  pub shifts : shifts_of s ≡ i.shifts
  pub sent : length w ≡ s.out
  pub digits : (number (w ++ held_digits s) + s.carry) * 0x1000000 + s.low ≡ i.base
  -- no byte in the cache: none is out either, and at most 0xFFs wait
  pub unsent : s.held ≡ 0 → w ≡ []

-- so it is behind any symbols, and a carry that is known has a byte in the cache that takes it
pub record Carried (xs : List Sent) : Type 0 where
  pub holds : Holds (bytes_behind start_encoder xs) (state_behind start_encoder xs) (behind whole xs)
  pub kept : let s = state_behind start_encoder xs in s.carry ≡ 1 → (s.held ≡ 1) × (s.cache < 255)

-- 3, `finish-sends`: a number of so many bits is S bytes and 24 - floor(log2 range) bits, or one more, at most E, and whatever
-- continues it to 24 + 8S bits lies in the interval
pub record Fixes (i : Interval) (bits n : ℕ) : Type 0 where
  pub least : 8 * i.shifts + 24 ≤ bits + floor_log2 i.range
  pub most : bits + floor_log2 i.range ≤ 8 * i.shifts + 25
  pub reserved : bits ≤ reserved_bits i.shifts i.range
  pub inside : (x : ℕ) → x / 2 ^ (24 + 8 * i.shifts - bits) ≡ n → (i.base ≤ x) × (x < i.base + i.range)

-- the number that whole bytes and the top bits of one more make
abbrev pub own_number : List ℕ → ℕ → ℕ → ℕ
own_number bytes last bits = number bytes * 2 ^ bits + last / 2 ^ (8 - bits)

-- such is the number of the head's own bits, in the standard reading
abbrev pub Finishing : List Sent → Type 0
Finishing xs = Fixes (behind whole xs) (own_length 1 xs) (own_number (own_bytes 1 xs) (own_last 1 xs) (own_bits 1 xs))

-- 4, `decodes`, `decode-one` and `inside-behind`: the number of the frame's 3 + S bytes from place h on lies in the interval
pub record Inside (f : List ℕ) (h : ℕ) (i : Interval) : Type 0 where
  pub low : i.base ≤ head_number f h (3 + i.shifts)
  pub high : head_number f h (3 + i.shifts) < i.base + i.range

-- the decoder's state and cursor that belong to an interval: low is the continuation less base, and S bytes more than three are read
abbrev pub state_at : List ℕ → ℕ → Interval → DecoderState
state_at f h i = record { low = head_number f h (3 + i.shifts) - i.base; range = i.range }

abbrev pub cursor_at : Cursor → Interval → Cursor
cursor_at c i = record { head = c.head + 3 + i.shifts; tail = c.tail }

-- what is decoded: the symbols that were sent, each with the state behind it
unfoldable pub decoded_as : List ℕ → ℕ → Interval → List Sent → List Decoded
decoded_as f h i [] = []
decoded_as f h i (x ∷ xs) =
    record { symbol = x.symbol; state = state_at f h (narrowed_by i x) } ∷ decoded_as f h (narrowed_by i x) xs

-- 2, 3 and 4 together, `own-bits-decode`: from place h on the frame has whole bytes, and then the top bits of one more
pub record Continues (f : List ℕ) (h : ℕ) (bytes : List ℕ) (last bits : ℕ) : Type 0 where
  pub same : (j : ℕ) → j < length bytes → get_or f (h + j) 0 ≡ get_or bytes j 0
  pub top : get_or f (h + length bytes) 0 / 2 ^ (8 - bits) ≡ last / 2 ^ (8 - bits)

-- a frame that begins with the own bits of a list of symbols, in the standard reading
abbrev pub Begins : List ℕ → ℕ → List Sent → Type 0
Begins f h xs = Continues f h (own_bytes 1 xs) (own_last 1 xs) (own_bits 1 xs)

-- and `written-own`, `laid-begins`, `written-decodes`, `laid-keeps`: what the calls of `ac_encode` leave in a buffer, one for each
-- symbol, each on the state and the buffer that the one before left
unfoldable pub laid_behind : EncoderState → List ℕ → List Sent → List ℕ
laid_behind s f [] = f
laid_behind s f (x ∷ xs) =
    laid_behind (encoded s (cumulative_of x) (frequency_of x)) (sets f s.out (encoded_bytes s (cumulative_of x) (frequency_of x))) xs

-- what `ac_enc_finish` leaves, behind the calls for all symbols from the start on
abbrev pub written : ℕ → List ℕ → List Sent → List ℕ
written reading f xs =
    with_own (laid_behind start_encoder f xs) (state_behind start_encoder xs).out (finish_bytes reading (state_behind start_encoder xs)) (finish_last reading (state_behind start_encoder xs)) (finish_bits reading (state_behind start_encoder xs))

-- a frame that has the own bits' places as the buffer has them: whole bytes, and the top bits of one more
pub record Agrees (f g : List ℕ) (bytes bits : ℕ) : Type 0 where
  pub same : (j : ℕ) → j < bytes → get_or g j 0 ≡ get_or f j 0
  pub top : get_or g bytes 0 / 2 ^ (8 - bits) ≡ get_or f bytes 0 / 2 ^ (8 - bits)

-- what own bits leave as it was: the bytes behind their last, the low bits of that byte, and with these every tail bit there
pub record Kept (f g : List ℕ) (end bits : ℕ) : Type 0 where
  pub later : (j : ℕ) → end < j → get_or g j 0 ≡ get_or f j 0
  pub low : get_or g end 0 % 2 ^ (8 - bits) ≡ get_or f end 0 % 2 ^ (8 - bits)
  pub tails : (i : ℕ) → 8 * end + bits + i < 8 * length f → tail_bit g i ≡ tail_bit f i

-- 5, `crate-finish-outside`: the second symbol of its row, sent alone
abbrev pub second : Sent
second = record { row = 3 ∷ 3 ∷ 1018 ∷ []; symbol = 1 }

abbrev pub one : List Sent
one = second ∷ []

-- a frame that begins with the bits 00000001 0, and goes on with ones
abbrev pub ones : List ℕ
ones = 0x01 ∷ 0x7F ∷ 0xFF ∷ 0xFF ∷ []

-- what is sent for the symbol in a reading: whole bytes, and the top bits of one more
pub record Sends (reading : ℕ) (bytes : List ℕ) (last bits : ℕ) : Type 0 where
  pub whole-bytes : own_bytes reading one ≡ bytes
  pub last_byte : own_last reading one ≡ last
  pub last-bits : own_bits reading one ≡ bits

-- in the crate reading a frame may begin with all the own bits and still lie outside the interval
pub record FinishOutside : Type 0 where
  pub passes : Passes second
  pub interval : behind whole one ≡ record { base = 0xBFFD00; range = 0xBFFD00; shifts = 1 }
  -- the source sends nine bits, 00000001 0
  pub by-crate : Sends 0 (1 ∷ []) 0 1
  -- a frame of bytes begins with them
  pub bytes : Bytes ones
  pub begins : Continues ones 0 (1 ∷ []) 0 1
  -- yet the number of its 3 + S bytes is not below the interval's end
  pub number_is : head_number ones 0 4 ≡ 0x17FFFFF
  pub outside : (behind whole one).base + (behind whole one).range ≤ head_number ones 0 (3 + (behind whole one).shifts)
  -- and the decoder reads the third symbol instead of the second
  pub misread : next start_decoder (λ s. decode_all s one) ones (record { head = 0; tail = 0 }) ≡ accepted (record { symbol = 2; state = record { low = 5; range = 0xFE7C06 } } ∷ [], record { head = 3; tail = 0 })
  -- the standard sends ten bits, 00000000 11
  pub by-standard : Sends 1 (0 ∷ []) 0xC0 2
