-- The head's own bytes are bytes, so a buffer that they are laid into stays one of bytes: what the encoder sends is cut to eight bits, and
-- what it holds fits a byte. Assumes nothing.
use Prim.Native.Nat.{ℕ, zero, suc, ◌+◌, ◌-◌, ◌%◌, ◌^◌, ◌<◌}
use mathlib.Core.List.{List, [], ◌∷◌, ◌++◌}
use native.Mathlib.Omega.{arith}
use native.Mathlib.Nat.{div-le_self}
use lib.Dec.{ltb, eqb}
use lib.ListN.{length, set, replicate}
use lib.Seq.{sets}
use Rattle.common.proofs.Bools.{by-test}
use Rattle.buffer_reader.specs.Tail.{Bytes}
use Rattle.buffer_writer.proofs.Bytes.{with-top-lt}
use Rattle.buffer_writer.proofs.Places.{set-bytes}
use Rattle.range_encoder.specs.Encoder.{start_encoder, settles, shifted, shift_bytes, symbol_added, turn, turn_bytes, encoded, encoded_bytes}
use Rattle.range_encoder.specs.Finish.{ending, ended, pushed, pushed_bytes, held_bytes, finish_state, finish_bytes, finish_bits, with_own}
use Rattle.range_encoder.specs.Interval.{Sent, cumulative_of, frequency_of}
use Rattle.range_encoder.specs.Private.{Fits, Sound}
use Rattle.range_encoder.specs.Runs.{AllPass, state_behind, bytes_behind, own_bytes, own_last, own_bits}
use Rattle.range_encoder.specs.declared.EncoderState.{EncoderState}
use Rattle.range_encoder.proofs.Carry.{sound-start, sound-behind}
use Rattle.range_encoder.proofs.Endings.{ending-fits}
use Rattle.range_encoder.proofs.Finishes.{last-bits}
use Rattle.range_encoder.proofs.States.{fits-shifted}

-- ---- lists of bytes

none : Bytes []
none i = omega arith

more : (b : ℕ) (bs : List ℕ) → b < 256 → Bytes bs → Bytes (b ∷ bs)
more b bs low rest zero = low
more b bs low rest (suc i) = rest i

joined : (xs ys : List ℕ) → Bytes xs → Bytes ys → Bytes (xs ++ ys)
joined [] ys h k i = k i
joined (x ∷ xs) ys h k zero = h 0
joined (x ∷ xs) ys h k (suc i) = joined xs ys (λ j. h (suc j)) k i

pub repeated : (n v : ℕ) → v < 256 → Bytes (replicate n v)
repeated zero v low i = omega arith
repeated (suc n) v low zero = low
repeated (suc n) v low (suc i) = repeated n v low i

sets-bytes : (f : List ℕ) (p : ℕ) (vs : List ℕ) → Bytes f → Bytes vs → Bytes (sets f p vs)
sets-bytes f p [] h k = h
sets-bytes f p (v ∷ vs) h k = sets-bytes (set f p v) (suc p) vs (set-bytes f p v (k 0) h) (λ j. k (suc j))

-- ---- what the encoder sends

shift-sent : (s : EncoderState) → Bytes (shift_bytes s)
shift-sent s =
    by-test (settles s)
    (λ e. rw e (joined (replicate s.held ((s.cache + s.carry) % 256)) (replicate s.pending ((s.carry + 255) % 256)) (repeated s.held ((s.cache + s.carry) % 256) (omega arith)) (repeated s.pending ((s.carry + 255) % 256) (omega arith))))
    (λ e. rw e none)

turn-sent : (s : EncoderState) → Bytes (turn_bytes s)
turn-sent s = by-test (ltb s.range 0x10000) (λ e. rw e (shift-sent s)) (λ e. rw e none)

behind-sent : (s : EncoderState) (xs : List Sent) → Bytes (bytes_behind s xs)
unfolding bytes_behind
behind-sent s [] = none
behind-sent s (x ∷ xs) =
    let added = symbol_added s (cumulative_of x) (frequency_of x) in
    joined (encoded_bytes s (cumulative_of x) (frequency_of x)) (bytes_behind (encoded s (cumulative_of x) (frequency_of x)) xs) (joined (turn_bytes added) (turn_bytes (turn added)) (turn-sent added) (turn-sent (turn added))) (behind-sent (encoded s (cumulative_of x) (frequency_of x)) xs)

-- ---- and its finish

pushed-sent : (s : EncoderState) (bits : ℕ) → Bytes (pushed_bytes s bits)
pushed-sent s bits =
    by-test (ltb 8 bits)
    (λ e. rw e (joined (shift_bytes s) (shift_bytes (shifted s)) (shift-sent s) (shift-sent (shifted s))))
    (λ e. rw e (shift-sent s))

pushed-fits : (s : EncoderState) (bits : ℕ) → Fits s → Fits (pushed s bits)
pushed-fits s bits fits =
    by-test (ltb 8 bits)
    (λ e. rw e (fits-shifted (shifted s) (fits-shifted s fits)))
    (λ e. rw e (fits-shifted s fits))

held-sent : (p : EncoderState) → Fits p → Bytes (held_bytes p)
held-sent p fits =
    by-test (eqb p.pending 0)
    (λ e. rw e none)
    (λ e. rw e (more p.cache (replicate (p.pending - 1) 255) fits.cache-fits (repeated (p.pending - 1) 255 (omega arith))))

module _ (reading : ℕ) (xs : List Sent) (all : AllPass xs) where
  abbrev s : EncoderState
  s = state_behind start_encoder xs

  sound : Sound s
  sound = sound-behind start_encoder xs sound-start all

  fits : Fits (finish_state reading s)
  fits = pushed-fits (ended s (ending reading s)) (ending reading s).bits (ending-fits reading s sound).0

  pub own-bytes : Bytes (own_bytes reading xs)
  own-bytes =
      joined (bytes_behind start_encoder xs) (finish_bytes reading s) (behind-sent start_encoder xs)
      (joined (pushed_bytes (ended s (ending reading s)) (ending reading s).bits) (held_bytes (finish_state reading s)) (pushed-sent (ended s (ending reading s)) (ending reading s).bits) (held-sent (finish_state reading s) fits))

  pub own-last-byte : own_last reading xs < 256
  own-last-byte =
      by-test (eqb (finish_state reading s).pending 0)
      (λ e. rw e fits.cache-fits)
      (λ e. rw e (omega (arith, div-le_self 255 (2 ^ (8 - finish_bits reading s)))))

  -- a buffer that the own bits are laid into stays one of bytes
  pub own-laid : (f : List ℕ) (at : ℕ) → Bytes f → Bytes (with_own f at (own_bytes reading xs) (own_last reading xs) (own_bits reading xs))
  own-laid f at bytes =
      let put = sets f at (own_bytes reading xs) in
      set-bytes put (at + length (own_bytes reading xs)) _ (with-top-lt _ (own_last reading xs) (own_bits reading xs) own-last-byte (last-bits reading s sound).1) (sets-bytes f at (own_bytes reading xs) bytes own-bytes)
