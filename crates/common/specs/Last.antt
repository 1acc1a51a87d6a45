-- The last place at which a test holds, and by it the floor of a logarithm.
use Rattle.std.specs.Prelude.{ℕ, zero, suc, ◌^◌, Bool, cond, leb}

-- the last of the places below n at which the test holds; 0 if it holds at none
unfoldable pub last_below : (ℕ → Bool) → ℕ → ℕ
last_below holds zero = 0
last_below holds (suc n) = cond (holds n) n (last_below holds n)

-- "floor(log2 range)", of a 32-bit number: the last exponent whose power of two is not above it
unfoldable pub floor_log2 : ℕ → ℕ
floor_log2 n = last_below (λ j. leb (2 ^ j) n) 32
