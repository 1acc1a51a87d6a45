-- What comes late, line by line and then pair by pair: its tail grows by what its room shrinks, it keeps the number of lines and every
-- line of a pair that is not escaped, and no magnitude grows by more than one. Assumes nothing.
use Rattle.std.proofs.Common.{◌≡◌, ℕ, zero, suc, ◌+◌, ◌-◌, ◌/◌, ◌<◌, ◌≤◌, Bool, true, false, cond, eqb, ltb, List, [], ◌∷◌, length, get_or, ℤ, pos, negsuc, nat_abs, refl, ap, ◌∙◌, le_trans, add-zero, arith, w32, to_z, of_z, le-ltb, lt-ltb, eq-eqb, ne_eqb, eqb-true}
use borrow.Author.Tests.{eqb-false}
use Rattle.common.proofs.Bools.{by-test}
use Rattle.buffer_reader.specs.Tail.{tail_bit}
use Rattle.residual_data.specs.Residual.{Late, larger, late_line, late_from}
use Rattle.residual_data.specs.Private.{held, AtMost}
use Rattle.residual_data.proofs.Lines.{same_line}

-- whatever holds of each of its five cases holds of a line behind its late bits
module _ (f : List ℕ) (x : ℤ) (tail room : ℕ) (P : Late → Type 0) where
  pub line-cases :
      (room ≡ 0 → P (record { line = x; tail = tail; room = 0 })) →
      (0 < room → P (record { line = x; tail = tail + 1; room = room - 1 })) →
      (0 < room → P (record { line = larger x; tail = tail + 1; room = room - 1 })) →
      (room ≡ 1 → P (record { line = x; tail = tail + 1; room = 0 })) →
      (1 < room → (y : ℤ) → nat_abs y ≡ 1 → P (record { line = y; tail = tail + 2; room = room - 2 })) →
      P (late_line f x tail room)
  line-cases full low more short signed =
      by-test (eqb room 0)
      (λ e. rw e (full (eqb-true room 0 e)))
      (λ e. let some : 0 < room = omega (arith, eqb-false room 0 e) in
      by-test (eqb (tail_bit f tail) 0)
      (λ b. rw (e, b) (low some))
      (λ b. by-test (ltb 0 (nat_abs x))
      (λ s. rw (e, b, s) (more some))
      (λ s. by-test (eqb room 1)
      (λ o. rw (e, b, s, o) (short (eqb-true room 1 o)))
      (λ o. let two : 1 < room = omega (arith, eqb-false room 1 o) in
      by-test (eqb (tail_bit f (tail + 1)) 1)
      (λ g. rw (e, b, s, o, g) (signed two (negsuc 0) refl))
      (λ g. rw (e, b, s, o, g) (signed two (pos 1) refl))))))

-- and each case with room by its tests
module _ (f : List ℕ) (x : ℤ) (tail room : ℕ) where
  module _ (some : room ≡ 0 → ⊥) where
    pub line_low : tail_bit f tail ≡ 0 → held x (tail + 1) (room - 1) ≡ late_line f x tail room
    line_low b = rw (ne_eqb room 0 some, eq-eqb (tail_bit f tail) 0 b) refl

    module _ (b : tail_bit f tail ≡ 0 → ⊥) where
      pub line-more : eqb (nat_abs x) 0 ≡ false → held (larger x) (tail + 1) (room - 1) ≡ late_line f x tail room
      line-more s = rw (ne_eqb room 0 some, ne_eqb (tail_bit f tail) 0 b, lt-ltb 0 (nat_abs x) (omega (arith, eqb-false (nat_abs x) 0 s))) refl

      module _ (s : eqb (nat_abs x) 0 ≡ true) where
        none : ltb 0 (nat_abs x) ≡ false
        none = le-ltb 0 (nat_abs x) (omega (arith, eqb-true (nat_abs x) 0 s))

        pub line-short : room ≡ 1 → held x (tail + 1) 0 ≡ late_line f x tail room
        line-short o = rw (ne_eqb room 0 some, ne_eqb (tail_bit f tail) 0 b, none, eq-eqb room 1 o) refl

        pub line-signed : (room ≡ 1 → ⊥) → held (cond (eqb (tail_bit f (tail + 1)) 1) (negsuc 0) (pos 1)) (tail + 2) (room - 2) ≡ late_line f x tail room
        line-signed o = rw (ne_eqb room 0 some, ne_eqb (tail_bit f tail) 0 b, none, ne_eqb room 1 o) refl

-- a line's bits are taken from the room
pub line-spends : (f : List ℕ) (x : ℤ) (tail room : ℕ) → (late_line f x tail room).tail + (late_line f x tail room).room ≡ tail + room
line-spends f x tail room =
    line-cases f x tail room (λ l. l.tail + l.room ≡ tail + room) (λ e. omega arith) (λ h. omega arith) (λ h. omega arith) (λ e. omega arith) (λ h y e. omega arith)

pub line-room : (f : List ℕ) (x : ℤ) (tail room : ℕ) → (late_line f x tail room).room ≤ room
line-room f x tail room =
    line-cases f x tail room (λ l. l.room ≤ room) (λ e. omega arith) (λ h. omega arith) (λ h. omega arith) (λ e. omega arith) (λ h y e. omega arith)

pub larger-size : (x : ℤ) → nat_abs (larger x) ≡ suc (nat_abs x)
larger-size (pos n) = refl
larger-size (negsuc n) = refl

-- its magnitude grows by at most one
pub line-most : (f : List ℕ) (x : ℤ) (tail room : ℕ) → nat_abs (late_line f x tail room).line ≤ nat_abs x + 1
line-most f x tail room =
    line-cases f x tail room (λ l. nat_abs l.line ≤ nat_abs x + 1) (λ e. omega arith) (λ h. omega arith) (λ h. omega (arith, larger-size x)) (λ e. omega arith) (λ h y e. omega arith)

-- so the code holds it as it is
pub line-held : (f : List ℕ) (x : ℤ) (tail room : ℕ) (z : ℤ) → nat_abs x ≤ 81919 → z ≡ (late_line f x tail room).line → to_z w32 (of_z w32 z) ≡ z
line-held f x tail room z h e = same_line z (rw e (le_trans (line-most f x tail room) (omega arith)))

-- with no room it stays
pub line-full : (f : List ℕ) (x : ℤ) (tail : ℕ) → late_line f x tail 0 ≡ record { line = x; tail = tail; room = 0 }
line-full f x tail = refl

module _ (f : List ℕ) (escaped : ℕ → Bool) where
  -- whatever is late is taken from the room
  pub late-spends : (p : ℕ) (xs : List ℤ) (tail room : ℕ) → (late_from f escaped p xs tail room).tail + (late_from f escaped p xs tail room).room ≡ tail + room
  unfolding late_from
  late-spends p [] tail room = refl
  late-spends p (x ∷ []) tail room = refl
  late-spends p (x ∷ y ∷ rest) tail room =
      by-test (escaped p)
      (λ e. let a = late_line f x tail room in
      let b = late_line f y a.tail a.room in
      rw e (late-spends (p + 1) rest b.tail b.room ∙ line-spends f y a.tail a.room ∙ line-spends f x tail room))
      (λ e. rw e (late-spends (p + 1) rest tail room))

  pub late-room : (p : ℕ) (xs : List ℤ) (tail room : ℕ) → (late_from f escaped p xs tail room).room ≤ room
  unfolding late_from
  late-room p [] tail room = omega arith
  late-room p (x ∷ []) tail room = omega arith
  late-room p (x ∷ y ∷ rest) tail room =
      by-test (escaped p)
      (λ e. let a = late_line f x tail room in
      let b = late_line f y a.tail a.room in
      rw e (le_trans (late-room (p + 1) rest b.tail b.room) (le_trans (line-room f y a.tail a.room) (line-room f x tail room))))
      (λ e. rw e (late-room (p + 1) rest tail room))

  -- it keeps the number of lines
  pub late-length : (p : ℕ) (xs : List ℤ) (tail room : ℕ) → length (late_from f escaped p xs tail room).lines ≡ length xs
  unfolding late_from
  late-length p [] tail room = refl
  late-length p (x ∷ []) tail room = refl
  late-length p (x ∷ y ∷ rest) tail room =
      by-test (escaped p)
      (λ e. let a = late_line f x tail room in
      let b = late_line f y a.tail a.room in
      rw e (ap (λ n. suc (suc n)) (late-length (p + 1) rest b.tail b.room)))
      (λ e. rw e (ap (λ n. suc (suc n)) (late-length (p + 1) rest tail room)))

  -- it changes no line of a pair that does not count as escaped
  pub late-kept : (p : ℕ) (xs : List ℤ) (tail room k : ℕ) → escaped (p + k / 2) ≡ false → get_or (late_from f escaped p xs tail room).lines k (pos 0) ≡ get_or xs k (pos 0)
  unfolding late_from
  late-kept p [] tail room k h = refl
  late-kept p (x ∷ []) tail room k h = refl
  late-kept p (x ∷ y ∷ rest) tail room zero h = let e : escaped p ≡ false = rw add-zero at h in rw e (refl {a = x})
  late-kept p (x ∷ y ∷ rest) tail room (suc zero) h = let e : escaped p ≡ false = rw add-zero at h in rw e (refl {a = y})
  late-kept p (x ∷ y ∷ rest) tail room (suc (suc k)) h =
      let at : p + suc (suc k) / 2 ≡ p + 1 + k / 2 = omega arith in
      let later : escaped (p + 1 + k / 2) ≡ false = rw at at h in
      by-test (escaped p)
      (λ e. let a = late_line f x tail room in
      let b = late_line f y a.tail a.room in
      rw e (late-kept (p + 1) rest b.tail b.room k later))
      (λ e. rw e (late-kept (p + 1) rest tail room k later))

  -- each magnitude grows by at most one
  pub late-most : (m p : ℕ) (xs : List ℤ) (tail room : ℕ) → AtMost m xs → AtMost (m + 1) (late_from f escaped p xs tail room).lines
  unfolding late_from
  late-most m p [] tail room h k = le_trans (h k) (omega arith)
  late-most m p (x ∷ []) tail room h k = le_trans (h k) (omega arith)
  late-most m p (x ∷ y ∷ rest) tail room h zero =
      by-test (escaped p) (λ e. rw e (omega (arith, h 0, line-most f x tail room))) (λ e. rw e (omega (arith, h 0)))
  late-most m p (x ∷ y ∷ rest) tail room h (suc zero) =
      by-test (escaped p)
      (λ e. let a = late_line f x tail room in
      rw e (omega (arith, h 1, line-most f y a.tail a.room)))
      (λ e. rw e (omega (arith, h 1)))
  late-most m p (x ∷ y ∷ rest) tail room h (suc (suc k)) =
      by-test (escaped p)
      (λ e. let a = late_line f x tail room in
      let b = late_line f y a.tail a.room in
      rw e (late-most m (p + 1) rest b.tail b.room (λ i. h (suc (suc i))) k))
      (λ e. rw e (late-most m (p + 1) rest tail room (λ i. h (suc (suc i))) k))

  -- once the room is 0 nothing changes any more
  pub late-full : (p : ℕ) (xs : List ℤ) (tail : ℕ) → late_from f escaped p xs tail 0 ≡ record { lines = xs; tail = tail; room = 0 }
  unfolding late_from
  late-full p [] tail = refl
  late-full p (x ∷ []) tail = refl
  late-full p (x ∷ y ∷ rest) tail =
      by-test (escaped p) (λ e. rw (e, late-full (p + 1) rest tail) refl) (λ e. rw (e, late-full (p + 1) rest tail) refl)
