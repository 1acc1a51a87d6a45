-- Whose each bit of a written frame is, so that it is certain which bits are whose.
use Rattle.std.specs.Prelude.{ℕ, zero, suc, ◌+◌, ◌-◌, ◌*◌, ◌/◌, ◌%◌, ◌^◌, ◌≤◌, ◌<◌, ◌≡◌, cond, List, [], ◌∷◌, ltb, length, get_or}
use Rattle.buffer_reader.specs.Tail.{tail_bit}
use Rattle.range_encoder.specs.Interval.{Sent}
use Rattle.range_encoder.specs.Runs.{own_bytes, own_last, own_length}
use Rattle.sending.specs.Sending.{Owner, Bit}
use Rattle.frame_writer.specs.Frame.{reserved}

-- a bit of the head's own, by its number from the front; a tail bit's owner; or nobody's
pub data Whose : Type 0 where
  head : ℕ → Whose
  tail : Owner → Whose
  unused : Whose

-- bit j of whole bytes and one more, from the front on, the highest of a byte first
abbrev pub own_bit : ℕ → List Sent → ℕ → ℕ
own_bit reading symbols j =
    cond (ltb (j / 8) (length (own_bytes reading symbols))) (get_or (own_bytes reading symbols) (j / 8) 0) (own_last reading symbols) / 2 ^ (7 - j % 8) % 2

-- what a place has: whose it is, and the bit there
pub record Place : Type 0 where
  pub whose : Whose
  pub bit : ℕ

-- the place i of a list of tail bits, or what stands beyond them
unfoldable pub in_tail : List Bit → ℕ → Place → Place
in_tail [] i beyond = beyond
in_tail (b ∷ bs) zero beyond = record { whose = tail b.owner; bit = b.value }
in_tail (b ∷ bs) (suc i) beyond = in_tail bs i beyond

-- tail place i of a frame of N bits: a bit for the tail, the head's own from the front on, or nobody's, which is 0
abbrev pub place_of : ℕ → ℕ → List Sent → List Bit → ℕ → Place
place_of reading bits symbols tail_bits i =
    in_tail tail_bits i
    (cond (ltb (bits - 1 - i) (own_length reading symbols))
    (record { whose = head (bits - 1 - i); bit = own_bit reading symbols (bits - 1 - i) })
    (record { whose = unused; bit = 0 }))

-- what theorem `parted` says of a frame of so many bytes: the head's own bits keep within E, which the bits for the tail leave to them, and
-- each place has the bit of whose it is
pub record Parted (reading bytes : ℕ) (symbols : List Sent) (tail_bits : List Bit) (frame : List ℕ) : Type 0 where
  pub size : length frame ≡ bytes
  pub reserve : own_length reading symbols ≤ reserved symbols
  pub apart : length tail_bits + reserved symbols ≤ 8 * bytes
  pub bits : (i : ℕ) → i < 8 * bytes → tail_bit frame i ≡ (place_of reading (8 * bytes) symbols tail_bits i).bit
