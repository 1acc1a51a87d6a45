-- Theorem 5: with the source's `high`, which is not masked to 24 bits, the head's own bits do not fix the symbols. One symbol is
-- enough to show it, and every number here is computed from the definitions. Assumes nothing.
use Prim.Native.Nat.{ℕ, zero, suc, ◌+◌, ◌<◌}
use mathlib.Core.Path.{◌≡◌, refl}
use mathlib.Core.List.{[], ◌∷◌}
use native.Mathlib.Omega.{arith}
use lib.ListN.{get_or}
use Rattle.common.specs.Tables.{total, all_at_least}
use Rattle.common.specs.Last.{last_below, floor_log2}
use Rattle.range_decoder.specs.Decoder.{owner}
use Rattle.range_encoder.specs.Interval.{behind}
use Rattle.range_encoder.specs.Runs.{state_behind, bytes_behind, decode_all}
use Rattle.range_encoder.specs.Digits.{number_from, head_number}
use Rattle.range_encoder.specs.Theory.{ones, FinishOutside}

same_bytes : (j : ℕ) → j < 1 → get_or ones (0 + j) 0 ≡ get_or (1 ∷ []) j 0
same_bytes zero h = refl
same_bytes (suc j) h = absurd (omega arith)

ones-bytes : (i : ℕ) → get_or ones i 0 < 256
ones-bytes zero = omega arith
ones-bytes (suc zero) = omega arith
ones-bytes (suc (suc zero)) = omega arith
ones-bytes (suc (suc (suc zero))) = omega arith
ones-bytes (suc (suc (suc (suc i)))) = omega arith

-- theorem 5, computed from the definitions
pub crate-finish-outside : FinishOutside
unfolding total all_at_least last_below floor_log2 owner number_from head_number behind state_behind bytes_behind decode_all
crate-finish-outside =
    record {
      passes = record { row-passes = refl; symbol-there = omega arith };
      interval = refl;
      by-crate = record { whole-bytes = refl; last_byte = refl; last-bits = refl };
      bytes = ones-bytes;
      begins = record { same = same_bytes; top = refl };
      number_is = refl;
      outside = omega arith;
      misread = refl;
      by-standard = record { whole-bytes = refl; last_byte = refl; last-bits = refl };
    }
