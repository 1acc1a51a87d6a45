-- The turns of the search: the step halves, and the index stays at least one less than the step and at most 255. So it never falls
-- below 0, and the result lies between 0 and 255. Assumes nothing.
use mathlib.Core.Path.{◌≡◌, refl, sym, ap}
use mathlib.Core.Bool.{Bool, true, false, cond}
use mathlib.Core.List.{List}
use Prim.Native.Nat.{ℕ, zero, suc, ◌+◌, ◌-◌, ◌/◌, ◌≤◌, ◌<◌}
use native.Mathlib.Omega.{arith}
use lib.IntN.{pos}
use lib.Ieee.{Float, binary32, of_int}
use Rattle.spectral_quantization.specs.Single.{◌+ᶠ◌}
use Rattle.spectral_quantization.specs.Gain.{exceeds, turn, turns, searched}

-- the index is at least one less than the step, and at most 255
abbrev pub Room : ℕ → ℕ → Type 0
Room step index = (step ≤ index + 1) × (index ≤ 255)

-- a turn puts the half back, or leaves the index as it is
picked-range : (b : Bool) (low fac : ℕ) → (low ≤ cond b (low + fac) low) × (cond b (low + fac) low ≤ low + fac)
picked-range true low fac = omega arith
picked-range false low fac = omega arith

module _ (energies : List Float) (offset : Float) (target : ℕ) where
  turn-range : (fac index : ℕ)
      → (index ≤ turn energies offset target fac index) × (turn energies offset target fac index ≤ index + fac)
  turn-range fac index = picked-range (exceeds energies (of_int binary32 (pos index) +ᶠ offset) target) index fac

  -- ---- the turns that are left

  -- one turn on, the rest finds the same
  module _ (n step index next : ℕ) (turned : next ≡ turn energies offset target (step / 2) (index - step / 2)) where
    pub turns_next : n < 8
        → turns energies offset target (8 - (n + 1)) (step / 2) next ≡ turns energies offset target (8 - n) step index
    unfolding turns
    turns_next h = rw turned (sym (ap (λ (k : ℕ). turns energies offset target k step index) one))
      where
        one : 8 - n ≡ suc (8 - (n + 1))
        one = omega arith

    -- and the index has room for the next step
    pub room-kept : Room step index → Room (step / 2) next
    room-kept h =
        let r = turn-range (step / 2) (index - step / 2) in
        rw turned (omega arith)

  -- past the eighth turn the index is found
  pub turns-end : (n step index : ℕ) → 8 ≤ n → turns energies offset target (8 - n) step index ≡ index
  unfolding turns
  turns-end n step index h = ap (λ (k : ℕ). turns energies offset target k step index) none
    where
      none : 8 - n ≡ 0
      none = omega arith

  -- ---- the range

  turns-range : (n step index : ℕ) → Room step index → turns energies offset target n step index ≤ 255
  unfolding turns
  turns-range zero step index h = h.1
  turns-range (suc n) step index h =
      let next = turn energies offset target (step / 2) (index - step / 2) in
      turns-range n (step / 2) next (room-kept n step index next refl h)

  -- "its result lies between 0 and 255"
  pub searched-range : searched energies offset target ≤ 255
  searched-range = turns-range 8 256 255 (omega arith)
