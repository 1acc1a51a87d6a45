-- A line without its lowest bit takes it back: a bit 0 leaves it, a 1 makes its magnitude one larger, and a magnitude 1 takes its sign too.
-- Assumes nothing.
use Rattle.std.proofs.Common.{◌≡◌, ℕ, zero, suc, ◌+◌, ◌-◌, ◌*◌, ◌/◌, ◌%◌, ◌<◌, ◌≤◌, true, cond, eqb, List, [], ◌∷◌, length, take, ℤ, pos, negsuc, nat_abs, sym, refl, ap, ◌∙◌, subst, add-zero, arith, ne_eqb, eqb-true}
use borrow.Author.Tests.{eqb-false}
use Rattle.common.proofs.Bools.{by-test}
use Rattle.buffer_reader.specs.Tail.{tail_bit}
use Rattle.contexts.specs.Lines.{line_at, minus, evened}
use Rattle.contexts.proofs.Evened.{signed_as, signed_same, evened-even, evened-one}
use Rattle.sending.specs.Sending.{Bit, lowest, late_sign, owned, Stands}
use Rattle.residual_data.specs.Residual.{larger, late_line}
use Rattle.residual_data.specs.Sent.{late_at}
use Rattle.residual_data.specs.Private.{held}
use Rattle.residual_data.proofs.Lates.{line_low, line-more, line-short, line-signed}
use Rattle.residual_data.proofs.Puts.{late-alone, late-signed}

-- an odd magnitude above 1 loses one
evened-odd : (x : ℤ) → nat_abs x % 2 ≡ 1 → 1 < nat_abs x → (larger (evened x) ≡ x) × (nat_abs (evened x) ≡ 0 → ⊥)
evened-odd (pos n) h more =
    let e : n / 2 * 2 ≡ n - 1 = omega arith in
    let s : suc (n - 1) ≡ n = omega arith in
    rw e (ap pos s, λ z. omega arith)
evened-odd (negsuc zero) h more = absurd (omega arith)
evened-odd (negsuc (suc n)) h more = let e : (suc n + 1) / 2 * 2 ≡ suc n = omega arith in rw e (refl, λ z. omega (arith, z))

signed-one : (x : ℤ) → nat_abs x ≡ 1 → signed_as x 1 ≡ x
signed-one x h = ap (λ (m : ℕ). signed_as x m) (sym h) ∙ signed_same x

-- a line behind its late bits, by its magnitude and the room
module _ (f : List ℕ) (x : ℤ) (tail room : ℕ) where
  more-back : (nat_abs x ≡ 1 → ⊥) → 1 ≤ room → tail_bit f tail ≡ nat_abs x % 2 → late_line f (evened x) tail room ≡ held x (tail + 1) (room - 1)
  more-back other some b =
      by-test (eqb (nat_abs x % 2) 0)
      (λ e. let even = eqb-true (nat_abs x % 2) 0 e in
      sym (line_low f (evened x) tail room (λ z. omega arith) (b ∙ even)) ∙ ap (λ (y : ℤ). held y (tail + 1) (room - 1)) (evened-even x even))
      (λ e. let odd : nat_abs x % 2 ≡ 1 = omega (arith, eqb-false (nat_abs x % 2) 0 e) in
      let back = evened-odd x odd (omega (arith, other)) in
      sym (line-more f (evened x) tail room (λ z. omega arith) (λ z. omega (arith, b)) (ne_eqb (nat_abs (evened x)) 0 back.1)) ∙ ap (λ (y : ℤ). held y (tail + 1) (room - 1)) back.0)

  module _ (one : nat_abs x ≡ 1) (b : tail_bit f tail ≡ 1) where
    none : eqb (nat_abs (evened x)) 0 ≡ true
    none = rw (evened-one x one) refl

    one-back : 2 ≤ room → tail_bit f (tail + 1) ≡ minus x → late_line f (evened x) tail room ≡ held x (tail + 2) (room - 2)
    one-back two s =
        sym (line-signed f (evened x) tail room (λ z. omega arith) (λ z. omega (arith, b)) none (λ z. omega arith)) ∙
        ap (λ (m : ℕ). held (cond (eqb m 1) (negsuc 0) (pos 1)) (tail + 2) (room - 2)) s ∙
        ap (λ (y : ℤ). held y (tail + 2) (room - 2)) (signed-one x one)

    one-cut : room ≡ 1 → late_line f (evened x) tail room ≡ held (evened x) (tail + 1) 0
    one-cut o = sym (line-short f (evened x) tail room (λ z. omega arith) (λ z. omega (arith, b)) none o)

-- the same by its late bits: all of them have room, or not all
module _ (f : List ℕ) (lines : List ℤ) (k tail room : ℕ) where
  abbrev x : ℤ
  x = line_at lines k

  abbrev bits : List Bit
  bits = late_at lines k

  pub line-whole : length bits ≤ room → Stands f tail bits → late_line f (evened x) tail room ≡ held x (tail + length bits) (room - length bits)
  unfolding Stands
  line-whole enough h =
      by-test (eqb (nat_abs x) 1)
      (λ e. let one = eqb-true (nat_abs x) 1 e in
      let two : bits ≡ owned (lowest k) (nat_abs x % 2) ∷ owned (late_sign k) (minus x) ∷ [] = late-signed lines k (nat_abs x) refl one in
      let size : length bits ≡ 2 = ap length two in
      let s = subst (Stands f tail) two h in
      rw size (one-back f x tail room one (s.0 ∙ ap (λ (m : ℕ). m % 2) one) (omega arith) s.1.0))
      (λ e. let other = eqb-false (nat_abs x) 1 e in
      let alone : bits ≡ owned (lowest k) (nat_abs x % 2) ∷ [] = late-alone lines k (nat_abs x) refl other in
      let size : length bits ≡ 1 = ap length alone in
      let s = subst (Stands f tail) alone h in
      rw size (more-back f x tail room other (omega arith) s.0))

  pub line-cut : room < length bits → Stands f tail (take room bits) → late_line f (evened x) tail room ≡ held (evened x) (tail + room) 0
  unfolding Stands
  line-cut less h =
      by-test (eqb room 0)
      (λ e. let z = eqb-true room 0 e in rw (z, add-zero tail) refl)
      (λ e. let some = eqb-false room 0 e in
      by-test (eqb (nat_abs x) 1)
      (λ o. let one = eqb-true (nat_abs x) 1 o in
      let two : bits ≡ owned (lowest k) (nat_abs x % 2) ∷ owned (late_sign k) (minus x) ∷ [] = late-signed lines k (nat_abs x) refl one in
      let size : length bits ≡ 2 = ap length two in
      let r : room ≡ 1 = omega (arith, some) in
      let s : Stands f tail (take 1 (owned (lowest k) (nat_abs x % 2) ∷ owned (late_sign k) (minus x) ∷ [])) = subst (λ (l : List Bit). Stands f tail (take 1 l)) two (subst (λ (n : ℕ). Stands f tail (take n bits)) r h) in
      rw r (one-cut f x tail 1 one (s.0 ∙ ap (λ (m : ℕ). m % 2) one) refl))
      (λ o. let alone : bits ≡ owned (lowest k) (nat_abs x % 2) ∷ [] = late-alone lines k (nat_abs x) refl (eqb-false (nat_abs x) 1 o) in
      let size : length bits ≡ 1 = ap length alone in
      absurd (omega (arith, some))))
