-- What a writer makes: two streams, the symbols for the head, each with its row, and the bits for the tail, each with its owner. And the
-- one way to lay both into a frame.
use Rattle.std.specs.Prelude.{ℕ, ◌+◌, ◌≡◌, List, [], ◌∷◌, replicate}
use Rattle.buffer_reader.specs.Tail.{tail_bit}
use Rattle.buffer_writer.specs.Writes.{put_bit}
use Rattle.range_encoder.specs.Finish.{with_own}
use Rattle.range_encoder.specs.Interval.{Sent}
use Rattle.range_encoder.specs.Runs.{own_bytes, own_last, own_bits}

-- whose a tail bit is: the side information's, or a line's: a low bit at a level, its sign, its residual bit, and in least-bit mode what
-- comes late, its lowest bit and the sign of a magnitude 1
pub data Owner : Type 0 where
  side : Owner
  low : ℕ → ℕ → Owner
  sign : ℕ → Owner
  residual : ℕ → Owner
  lowest : ℕ → Owner
  late_sign : ℕ → Owner

pub record Bit : Type 0 where
  pub owner : Owner
  pub value : ℕ

-- a symbol of a row
abbrev pub sent : List ℕ → ℕ → Sent
sent row symbol = record { row = row; symbol = symbol }

-- a tail bit of an owner
abbrev pub owned : Owner → ℕ → Bit
owned owner value = record { owner = owner; value = value }

-- the bits put behind one another from tail place i on
unfoldable pub put_bits : List ℕ → ℕ → List Bit → List ℕ
put_bits f i [] = f
put_bits f i (b ∷ bs) = put_bits (put_bit f i b.value) (i + 1) bs

-- a frame of so many bytes: zeros, the tail's bits from the end on, the head's own bits from the front on
abbrev pub laid : ℕ → ℕ → List Sent → List Bit → List ℕ
laid reading bytes symbols bits =
    with_own (put_bits (replicate bytes 0) 0 bits) 0 (own_bytes reading symbols) (own_last reading symbols) (own_bits reading symbols)

-- what theorems say: a frame's tail bits from place i on are these
unfoldable pub Stands : List ℕ → ℕ → List Bit → Type 0
Stands f i [] = Unit {0}
Stands f i (b ∷ bs) = (tail_bit f i ≡ b.value) × Stands f (i + 1) bs
