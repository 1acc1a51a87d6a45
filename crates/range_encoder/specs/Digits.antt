-- Bytes as the digits of a number, the first of them highest.
use Rattle.std.specs.Prelude.{ℕ, zero, suc, ◌+◌, ◌*◌, List, [], ◌∷◌, get_or}

-- the digits behind those of a number
unfoldable pub number_from : ℕ → List ℕ → ℕ
number_from a [] = a
number_from a (b ∷ bs) = number_from (a * 256 + b) bs

abbrev pub number : List ℕ → ℕ
number bs = number_from 0 bs

-- the number of so many bytes of a frame, from place h on
unfoldable pub head_number : List ℕ → ℕ → ℕ → ℕ
head_number f h zero = 0
head_number f h (suc n) = head_number f h n * 256 + get_or f (h + n) 0
