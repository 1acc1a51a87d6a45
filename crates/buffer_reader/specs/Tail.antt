-- Document 01, "Modules in port order", 1: the tail's bits. "Tail bits start at the lowest bit of the last byte; a field's
-- first bit is its lowest." A frame is its list of bytes.
use Rattle.std.specs.Prelude.{ℕ, zero, suc, ◌+◌, ◌-◌, ◌*◌, ◌/◌, ◌%◌, ◌^◌, ◌≤◌, ◌<◌, ◌≡◌, cond, List, ltb, length, get_or}

-- the byte at place j from the end: place 0 is the last byte, and past the first byte there are zeros
abbrev pub tail_byte : List ℕ → ℕ → ℕ
tail_byte f j = cond (ltb j (length f)) (get_or f (length f - 1 - j) 0) 0

-- the bit at tail place i: 0 is the lowest bit of the last byte
abbrev pub tail_bit : List ℕ → ℕ → ℕ
tail_bit f i = tail_byte f (i / 8) / 2 ^ (i % 8) % 2

-- the field of n bits from tail place i on, its first bit lowest
unfoldable pub field : List ℕ → ℕ → ℕ → ℕ
field f i zero = 0
field f i (suc n) = tail_bit f i + 2 * field f (i + 1) n

-- what theorems say of frames: two of them agree on the tail places from one up to another
abbrev pub Agree : List ℕ → List ℕ → ℕ → ℕ → Type 0
Agree f g from to = (i : ℕ) → from ≤ i → i < to → tail_bit f i ≡ tail_bit g i

-- and a list is one of bytes
abbrev pub Bytes : List ℕ → Type 0
Bytes f = (i : ℕ) → get_or f i 0 < 256
