-- The code's check of the TNS fields: the places of a filter from place k on, one turn at a time, and a filter by its tests.
-- Assumes nothing.
use Prim.Native.Nat.{ℕ, suc, ◌+◌, ◌-◌, ◌≤◌, ◌<◌}
use mathlib.Core.Path.{◌≡◌, refl, ap, ◌∙◌}
use mathlib.Core.Bool.{Bool, true, false, cond, ◌&&◌}
use mathlib.Core.List.{List, ◌∷◌}
use native.Mathlib.Omega.{arith}
use native.Mathlib.Nat.{add-zero, sub-zero}
use borrow.Author.Tests.{ltb-true, ltb-false, lt-leb, le-leb, eq-eqb, ne_eqb}
use lib.Dec.{ltb, leb, eqb}
use lib.ListN.{length, take, drop, get_or, length-drop}
use lib.Seq.{drop-cons, take_all}
use Rattle.common.proofs.Bools.{by-test}
use Rattle.tns_data.specs.Sent.{places_pass, filter_passes, tns_passes}

-- what is left to judge of a filter's places from place k on
abbrev pub places_from : List ℕ → ℕ → ℕ → ℕ → Bool
places_from xs from order k = places_pass (order - k) (take (8 - k) (drop (from + k) xs))

pub places-start : (xs : List ℕ) (from order : ℕ) → places_from xs from order 0 ≡ places_pass order (take 8 (drop from xs))
places-start xs from order = rw (add-zero from, sub-zero order) refl

pub places-end : (xs : List ℕ) (from order k : ℕ) → 8 ≤ k → places_from xs from order k ≡ true
unfolding places_pass
places-end xs from order k done = let none : 8 - k ≡ 0 = omega arith in rw none refl

place-first : (order k x : ℕ) (rest : List ℕ) → places_pass (order - k) (x ∷ rest) ≡ (cond (ltb k order) (leb x 16) (eqb x 0) && places_pass (order - (k + 1)) rest)
unfolding places_pass
place-first order k x rest =
    by-test (ltb k order)
    (λ e. let below = ltb-true k order e in let more : order - k ≡ suc (order - (k + 1)) = omega arith in rw (e, more) refl)
    (λ e.
    let above = ltb-false k order e in
    let none : order - k ≡ 0 = omega arith in
    let also : order - (k + 1) ≡ 0 = omega arith in
    rw (e, none, also) refl)

module _ (xs : List ℕ) (from order k : ℕ) (size : length xs ≡ 16) (listed : from ≤ 8) (some : k < 8) (passed : Bool) (judged : passed ≡ cond (ltb k order) (leb (get_or xs (from + k) 0) 16) (eqb (get_or xs (from + k) 0) 0)) where
  places-turn : places_from xs from order k ≡ (passed && places_from xs from order (k + 1))
  places-turn =
      let more : 8 - k ≡ suc (8 - (k + 1)) = omega arith in
      let on : from + (k + 1) ≡ suc (from + k) = omega arith in
      rw (judged, more, on, drop-cons xs (from + k) 0 (omega arith))
      (place-first order k (get_or xs (from + k) 0) (take (8 - (k + 1)) (drop (suc (from + k)) xs)))

  pub places-stop : passed ≡ false → places_from xs from order k ≡ false
  places-stop e = rw (places-turn, e) refl

  pub places-next : passed ≡ true → places_from xs from order k ≡ places_from xs from order (k + 1)
  places-next e = places-turn ∙ ap (λ (b : Bool). b && places_from xs from order (k + 1)) e

-- a filter by its tests
module _ (flag order : ℕ) (places : List ℕ) where
  pub filter-beyond : 8 < order → filter_passes flag order places ≡ false
  filter-beyond h = rw (lt-leb order 8 h) refl

  pub filter-unflagged : order ≤ 8 → {b : ℕ} → b ≡ cond (eqb order 0) 0 1 → (flag ≡ b → ⊥) → filter_passes flag order places ≡ false
  filter-unflagged h {b} e differs = rw (le-leb order 8 h, ← e, ne_eqb flag b differs) refl

  pub filter-flagged : order ≤ 8 → {b : ℕ} → b ≡ cond (eqb order 0) 0 1 → flag ≡ b → filter_passes flag order places ≡ places_pass order places
  filter-flagged h {b} e same = rw (le-leb order 8 h, ← e, eq-eqb flag b same) refl

-- both filters
module _ (first_flag second_flag first second : ℕ) (indices : List ℕ) where
  pub tns-stop : filter_passes first_flag first (take 8 indices) ≡ false → tns_passes first_flag second_flag first second indices ≡ false
  tns-stop e = rw e refl

  pub tns-on : length indices ≡ 16 → filter_passes first_flag first (take 8 indices) ≡ true → tns_passes first_flag second_flag first second indices ≡ filter_passes second_flag second (take 8 (drop 8 indices))
  tns-on size e = rw (e, take_all 8 (drop 8 indices) (omega (arith, length-drop 8 indices))) refl
