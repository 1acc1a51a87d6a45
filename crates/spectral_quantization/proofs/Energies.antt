-- What one energy adds, the walk over all of them, and what the target allows, as the code goes. Its constants are given by their
-- bits, and compute to the definition's. Assumes nothing.
use mathlib.Core.Path.{◌≡◌, refl, sym, ap, ◌∙◌}
use mathlib.Core.Bool.{true, false, not}
use mathlib.Core.List.{List, [], ◌∷◌}
use Prim.Native.Nat.{ℕ, suc, ◌-◌, ◌^◌, ◌≤◌, ◌<◌}
use native.Mathlib.Omega.{arith}
use lib.Dec.{T, le→leb}
use lib.IntN.{pos}
use lib.ListN.{length, get_or, drop}
use lib.Seq.{drop-length, drop-cons}
use lib.Ieee.{Float, nan, binary32, lt, of_int, in_float}
use Rattle.std.specs.Prelude.{reverse, fold}
use Rattle.std.proofs.lemmas.Grind.{reverse_onto, fold-append}
use Rattle.spectral_quantization.specs.Single.{◌+ᶠ◌, ◌-ᶠ◌, ◌*ᶠ◌, constant}
use Rattle.spectral_quantization.specs.Gain.{scaled, below, near_cost, far_cost, all_below, cost_at, exceeds}
use Rattle.spectral_quantization.specs.Private.{cost_of_all, cost_with}
use Rattle.spectral_quantization.specs.declared.gain.Cost.{Cost}

-- ---- the four ways of one energy

abbrev added : Cost → Float → Cost
added cost more = record { bits = cost.bits +ᶠ more; zero = false }

module _ (level energy : Float) (cost : Cost) where
  -- below the level, as all so far: nothing
  pub below-first : below level energy ≡ true → cost.zero ≡ true → cost ≡ cost_with level energy cost
  below-first under all = rw (under, all) refl

  -- below the level, behind one that was not
  pub below-later : below level energy ≡ true → cost.zero ≡ false
      → added cost (scaled (constant 27 10)) ≡ cost_with level energy cost
  below-later under later = rw (under, later) refl

  -- above it by more than 43
  pub far-above : below level energy ≡ false → lt level (scaled energy -ᶠ scaled (constant 43 1)) ≡ true
      → added cost (far_cost level energy) ≡ cost_with level energy cost
  far-above above beyond = rw (above, beyond) refl

  -- above it
  pub near-above : below level energy ≡ false → lt level (scaled energy -ᶠ scaled (constant 43 1)) ≡ false
      → added cost (near_cost level energy) ≡ cost_with level energy cost
  near-above above within = rw (above, within) refl

-- ---- the walk, from the last energy to the first

module _ (level : Float) where
  abbrev pub no_cost : Cost
  no_cost = record { bits = constant 0 1; zero = true }

  -- taken from the last on, one after the other, they cost what all do
  pub walked_back : (energies : List Float) → fold (λ cost energy. cost_with level energy cost) no_cost (reverse energies) ≡ cost_of_all level energies
  unfolding cost_at all_below
  walked_back [] = refl
  walked_back (energy ∷ rest) = rw (reverse_onto rest energy [], fold-append) (ap (cost_with level energy) (walked_back rest))

module _ (level : Float) (energies : List Float) where
  -- at its start no energy is left behind
  pub walk_start : record { bits = constant 0 1; zero = true } ≡ cost_of_all level (drop (length energies) energies)
  unfolding cost_at all_below
  walk_start = rw (drop-length energies) refl

  -- a turn takes the energy before those that were walked
  pub walk_turn : (left : ℕ) → 0 < left → left ≤ length energies
      → cost_with level (get_or energies (left - 1) nan) (cost_of_all level (drop left energies)) ≡ cost_of_all level (drop (left - 1) energies)
  unfolding cost_at all_below
  walk_turn left some fits =
      ap (λ (n : ℕ). cost_with level (get_or energies (left - 1) nan) (cost_of_all level (drop n energies))) back
      ∙ sym (ap (cost_of_all level) (drop-cons energies (left - 1) nan (omega arith)))
    where
      back : left ≡ suc (left - 1)
      back = omega arith

  -- at its end all were walked
  pub walk_end : (left : ℕ) → left ≡ 0 → cost_of_all level (drop left energies) ≡ cost_of_all level energies
  walk_end left h = ap (λ (n : ℕ). cost_of_all level (drop n energies)) h

-- ---- the target

module _ (energies : List Float) (level : Float) (target : ℕ) (cost : Cost) (walked : cost ≡ cost_of_all level energies) where
  -- more than the target allows: it counts if an energy was not below the level
  pub cost-over : lt (scaled (of_int binary32 (pos target) *ᶠ constant 14 10)) cost.bits ≡ true
      → not cost.zero ≡ exceeds energies level target
  cost-over h = rw walked (rw (rw walked at h) refl)

  -- not more
  pub cost-within : lt (scaled (of_int binary32 (pos target) *ᶠ constant 14 10)) cost.bits ≡ false
      → false ≡ exceeds energies level target
  cost-within h = rw (rw walked at h) refl

-- every target is a single-precision number, so its cast loses nothing
pub target-exact : (target : ℕ) → target ≤ 65535 → T (in_float binary32 (pos target))
unfolding in_float
target-exact target h = le→leb target (2 ^ 24) (omega arith)
