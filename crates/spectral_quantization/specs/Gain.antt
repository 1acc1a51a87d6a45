-- The search for the gain index, document 01, "Floats": "the gain search keeps the source's operations and order; its result lies
-- between 0 and 255. At most 100 energies (else 4), target, here and in the estimate, 0..65535 (else 1)".
use Rattle.std.specs.Prelude.{ℕ, zero, suc, ◌+◌, ◌-◌, ◌/◌, Bool, true, not, ◌&&◌, cond, List, [], ◌∷◌, ltb, length, ℤ, pos, Float}
use Rattle.std.specs.Float.{binary32}
use Rattle.std.specs.Float.Ieee.{lt, of_int}
use Rattle.common.specs.Reply.{Reply, Answer, accepted, given, outside_limits, wrong_count}
use Rattle.spectral_quantization.specs.Single.{◌+ᶠ◌, ◌-ᶠ◌, ◌*ᶠ◌, ◌/ᶠ◌, constant}
use Rattle.spectral_quantization.specs.declared.gain.GainError.{GainError}
use Rattle.spectral_quantization.specs.declared.gain.GainError.TheVariants.{OutsideLimits, WrongCount}

-- the source's `* 28.0 / 20.0`
abbrev pub scaled : Float → Float
scaled x = x *ᶠ constant 28 1 /ᶠ constant 20 1

-- ---- one energy

abbrev pub below : Float → Float → Bool
below level energy = lt (scaled energy) level

-- an energy that is not below the level, near to it and far above it
abbrev pub near_cost : Float → Float → Float
near_cost level energy = scaled energy -ᶠ level +ᶠ scaled (constant 7 1)

abbrev pub far_cost : Float → Float → Float
far_cost level energy = scaled (constant 2 1 *ᶠ energy) -ᶠ constant 2 1 *ᶠ level -ᶠ scaled (constant 36 1)

-- the cost with an energy more; one below the level costs nothing until one was not below it
abbrev pub with_energy : Float → Float → Bool → Float → Float
with_energy level energy is_zero cost =
    cond (below level energy)
    (cond is_zero cost (cost +ᶠ scaled (constant 27 10)))
    (cost +ᶠ cond (lt level (scaled energy -ᶠ scaled (constant 43 1))) (far_cost level energy) (near_cost level energy))

-- ---- all energies, from the last to the first

-- the source's `is_zero`: all energies are below the level
unfoldable pub all_below : Float → List Float → Bool
all_below level [] = true
all_below level (energy ∷ rest) = below level energy && all_below level rest

unfoldable pub cost_at : Float → List Float → Float
cost_at level [] = constant 0 1
cost_at level (energy ∷ rest) = with_energy level energy (all_below level rest) (cost_at level rest)

-- the cost passes what the target allows, and not all energies lay below the level
abbrev pub exceeds : List Float → Float → ℕ → Bool
exceeds energies level target =
    lt (scaled (of_int binary32 (pos target) *ᶠ constant 14 10)) (cost_at level energies) && not (all_below level energies)

-- ---- eight turns

module _ (energies : List Float) (offset : Float) (target : ℕ) where
  -- the half of the step that was taken off the index goes back where the cost at the index's level exceeds the target
  abbrev pub turn : ℕ → ℕ → ℕ
  turn half index = cond (exceeds energies (of_int binary32 (pos index) +ᶠ offset) target) (index + half) index

  unfoldable pub turns : ℕ → ℕ → ℕ → ℕ
  turns zero step index = index
  turns (suc n) step index = turns n (step / 2) (turn (step / 2) (index - step / 2))

  -- from 255 down, with a first half of 128
  abbrev pub searched : ℕ
  searched = turns 8 256 255

-- ---- the call

abbrev pub gain_for : List Float → ℤ → ℕ → Answer ℕ
gain_for energies offset target =
    given (ltb 65535 target) outside_limits
    (given (ltb 100 (length energies)) (wrong_count (length energies))
    (accepted (searched energies (of_int binary32 offset) target)))

-- document 01's number and values of each refusal
abbrev pub reply_of : GainError → Reply
reply_of OutsideLimits = outside_limits
reply_of (WrongCount count) = wrong_count count
