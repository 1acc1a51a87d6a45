-- Document 01, "Checked by hand": "Gain 1: 0.625 gives 1, the next float below gives 0, -0.625 gives -1"; and inputs on which wrong
-- programs answer otherwise. The definitions compute each. Assumes nothing.
use mathlib.Core.Path.{◌≡◌, refl}
use mathlib.Core.Bool.{Bool, true, false}
use mathlib.Core.List.{List, [], ◌∷◌}
use Prim.Native.Nat.{ℕ}
use lib.IntN.{pos, negsuc}
use lib.Ieee.{round, add, sub, mul, div, le, lt, neg, of_bits, of_int, binary32}
use Rattle.spectral_quantization.specs.Single.{constant}
use Rattle.spectral_quantization.specs.Quantiser.{quantised}
use Rattle.spectral_quantization.specs.Gain.{all_below, cost_at, turns, searched}
use Rattle.spectral_quantization.specs.Estimate.{sum_below, up_to_last, pair_cost, least_bits, context_at, consumption}
use Rattle.spectral_quantization.specs.declared.estimate.BitConsumption.{BitConsumption}
use Rattle.common.specs.Flat.{tabulate, flat_lookup, flat_bits}
use Rattle.contexts.specs.First.{first_from}

pub gives_one : quantised (constant 625 1000) (constant 1 1) ≡ pos 1
unfolding constant round add sub div le
gives_one = refl

-- 0.625 is 0x3f20_0000
pub next-below : quantised (of_bits binary32 0x3f1f_ffff) (constant 1 1) ≡ pos 0
unfolding constant round add sub div le of_bits
next-below = refl

pub gives-minus-one : quantised (neg (constant 625 1000)) (constant 1 1) ≡ negsuc 0
unfolding constant round add sub div le neg
gives-minus-one = refl

-- -32767.625 gives -32768
pub gives-lowest : quantised (neg (constant 32767625 1000)) (constant 1 1) ≡ negsuc 32767
unfolding constant round add sub div le neg
gives-lowest = refl

-- ---- the gain search

-- one energy of 0 costs at the level 0 just what the target 5 allows: a search that takes this for more gives 128
pub reached-kept : searched (constant 0 1 ∷ []) (of_int binary32 (negsuc 126)) 5 ≡ 127
unfolding constant round add sub mul div lt of_int turns cost_at all_below
reached-kept = refl

-- the energies 100 and 0, from the last on; walked from the first on they would give what 0 and 100 give
pub last-first : searched (constant 100 1 ∷ constant 0 1 ∷ []) (of_int binary32 (negsuc 126)) 12 ≡ 254
unfolding constant round add sub mul div lt of_int turns cost_at all_below
last-first = refl

pub turned-over : searched (constant 0 1 ∷ constant 100 1 ∷ []) (of_int binary32 (negsuc 126)) 12 ≡ 255
unfolding constant round add sub mul div lt of_int turns cost_at all_below
turned-over = refl

-- ---- the estimate, on the flat set at 80 lines

abbrev flat : List ℕ → ℕ → Bool → BitConsumption
flat xs rate mode = consumption xs (flat_lookup 4096) (flat_bits 1088) 80 rate mode 65535

-- 4 and 1 in 60 bytes: the sign of the 1 is among the signs and among the least bits; with 2 for the 1 it is one bit less
pub sign-twice : ((flat (4 ∷ 1 ∷ []) 512 true).nbits_est ≡ 14) × ((flat (4 ∷ 2 ∷ []) 512 true).nbits_est ≡ 13)
unfolding tabulate sum_below up_to_last context_at pair_cost least_bits first_from
sign-twice = (refl, refl)

-- a line of -32768 is taken, with 14 escapes, here in 20 bytes
pub lowest-taken : (flat (32768 ∷ 0 ∷ []) 0 false).nbits_est ≡ 91
unfolding tabulate sum_below up_to_last context_at pair_cost least_bits first_from
lowest-taken = refl
