-- A list laid over another from its front: one turn of the loop that lays it, and its two ends.
-- Assumes nothing.
use Prim.Native.Nat.{ℕ, zero, suc, ◌+◌, ◌≤◌, ◌<◌, min}
use mathlib.Core.Path.{◌≡◌, refl, sym, ap, ◌∙◌}
use mathlib.Core.List.{List, [], ◌∷◌, ◌++◌}
use native.Mathlib.Omega.{arith}
use native.Mathlib.Numerals.{add-one}
use lib.ListN.{length, take, drop, get_or, set, length-set, drop_of_length-le}
use lib.Seq.{sets, set_out, drop-cons}

pub sets-past : (vs l : List ℕ) (i : ℕ) → length l ≤ i → sets l i vs ≡ l
sets-past [] l i h = refl
sets-past (v ∷ vs) l i h = rw (set_out l i v h) (sets-past vs l (suc i) (omega arith))

pub sets-turn : (to from : List ℕ) (i : ℕ) → i < length from → sets to i (drop i from) ≡ sets (set to i (get_or from i 0)) (i + 1) (drop (i + 1) from)
sets-turn to from i h = rw (add-one, drop-cons from i 0 h) refl

pub sets_end : (to from : List ℕ) (i : ℕ) → length from ≤ i → sets to i (drop i from) ≡ to
sets_end to from i h = rw (drop_of_length-le from h) refl

-- the loop that lays a list, at place i: what is left of the list, over the other as it is now, makes what the whole asks
pub record Copying (to₀ from to : List ℕ) (i : ℕ) : Type 0 where
  pub within : i ≤ length to
  pub size : length to ≡ length to₀
  pub rest : sets to i (drop i from) ≡ sets to₀ 0 from

pub copying-start : {to from : List ℕ} → Copying to from to 0
copying-start = record { within = omega arith; size = refl; rest = refl }

module _ {to₀ from to : List ℕ} {i : ℕ} where
  pub copying-turn : i < length to → i < length from → Copying to₀ from to i → Copying to₀ from (set to i (get_or from i 0)) (i + 1)
  copying-turn h g l =
      record {
        within = simp length-set (omega arith);
        size = simp length-set l.size;
        rest = sym (sets-turn to from i g) ∙ l.rest;
      }

  -- either list is at its end
  pub copying-end : length from ≤ i → Copying to₀ from to i → to ≡ sets to₀ 0 from
  copying-end h l = sym (sets_end to from i h) ∙ l.rest

  pub copying-full : length to ≤ i → Copying to₀ from to i → to ≡ sets to₀ 0 from
  copying-full h l = sym (sets-past (drop i from) to i h) ∙ l.rest

module _ {A : Type 0} where
  sets-none : (i : ℕ) (vs : List A) → sets [] i vs ≡ []
  sets-none i [] = refl
  sets-none i (v ∷ vs) = sets-none (suc i) vs

  sets-behind : (x : A) (l : List A) (i : ℕ) (vs : List A) → sets (x ∷ l) (suc i) vs ≡ x ∷ sets l i vs
  sets-behind x l i [] = refl
  sets-behind x l i (v ∷ vs) = sets-behind x (set l i v) (suc i) vs

  -- laid at once, as far as both are long
  pub laid-at_once : (to from : List A) (n : ℕ) → n ≡ min (length to) (length from) → take n from ++ drop n to ≡ sets to 0 from
  laid-at_once [] from n e = let z : n ≡ 0 = omega arith in rw (z, sets-none) refl
  laid-at_once (x ∷ to) [] n e = let z : n ≡ 0 = omega arith in rw z refl
  laid-at_once (x ∷ to) (v ∷ from) zero e = absurd (omega arith)
  laid-at_once (x ∷ to) (v ∷ from) (suc n) e = ap (λ l. v ∷ l) (laid-at_once to from n (omega arith)) ∙ sym (sets-behind v to 0 from)
