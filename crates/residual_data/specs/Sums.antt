-- Document 01, "The coder": "Noise seed: the sum of |x[k]|*k over the `ne` lines as returned, wrapping at 32 bits, low 16 bits kept. Zero
-- flag, crate reading: lastnz 2, both lines 0, gain 0; in the standard reading, the standard's condition."
use Rattle.std.specs.Prelude.{ℕ, ◌+◌, ◌*◌, ◌%◌, ◌^◌, Bool, ◌&&◌, ◌||◌, List, [], ◌∷◌, ℤ, ◌==◌, unsigned_abs}

-- the sum of |x[k]|*k over lines from index k on
unfoldable pub weighted : ℕ → List ℤ → ℕ
weighted k [] = 0
weighted k (x ∷ xs) = unsigned_abs x * k + weighted (k + 1) xs

abbrev pub seed : List ℤ → ℕ
seed lines = weighted 0 lines % 2 ^ 32 % 2 ^ 16

-- reading 0 is the crate's; the standard also asks that the noise field is 7
abbrev pub zero_flag : ℕ → ℕ → ℕ → ℕ → ℤ → ℤ → Bool
zero_flag reading lastnz gain noise first second =
    (lastnz == 2) && unsigned_abs first == 0 && unsigned_abs second == 0 && gain == 0 && (reading == 0 || noise == 7)
