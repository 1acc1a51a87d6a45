-- How large the lines of a frame are: even ones at most 32,767 and odd ones at most 81,919, in both modes. In least-bit mode a line
-- behind an escape is even before its lowest bit comes late, so it grows to no more than its bound. Assumes nothing.
use Prim.Native.Nat.{ℕ, zero, suc, ◌+◌, ◌*◌, ◌%◌, ◌^◌, ◌≤◌, ◌<◌}
use mathlib.Core.Path.{◌≡◌, refl, sym, ◌∙◌}
use mathlib.Core.Bool.{Bool, true, ◌&&◌}
use mathlib.Core.List.{List, [], ◌∷◌, ◌++◌}
use native.Mathlib.Omega.{arith}
use native.Mathlib.Nat.{pow-suc, mul_assoc}
use borrow.Author.Tests.{ltb-true, eqb-false}
use lib.Dec.{ltb, eqb}
use lib.ListN.{length, get_or, replicate}
use lib.IntN.{ℤ, pos, nat_abs}
use Rattle.common.specs.Reply.{Reply, symbol, bit, fourteen_escapes}
use Rattle.common.specs.Tables.{row_at, lookup_passes, part_passes}
use Rattle.common.proofs.Bools.{by-test}
use Rattle.contexts.specs.Contexts.{row_of, escape_symbol, first_part, second_part}
use Rattle.coding.proofs.Keeps.{BothMoved, both-byte, both-bit, Keeps, keeps-done, keeps-onward, keeps-if, keeps-refusing, met-symbol, met-bit}
use Rattle.spectral_data.specs.Spectral.{Pair, Levels, low_bits, read_levels, read_pair, read_pairs, lines_of, levels_of}
use Rattle.spectral_data.proofs.Bounds.{All, none, more, Sized, Pairs, signs-keep, pairs-keep, row_ok}
use Rattle.residual_data.specs.Residual.{late_line, late_from}
use Rattle.residual_data.proofs.Lates.{line-most}

-- a number of times a power of two from 2 on is even
raised-even : (x n : ℕ) → 1 ≤ n → (x * 2 ^ n) % 2 ≡ 0
raised-even x zero h = absurd (omega arith)
raised-even x (suc n) h =
    let e : x * 2 ^ suc n ≡ x * 2 ^ n * 2 = rw (pow-suc) (sym (mul_assoc x (2 ^ n) 2)) in
    omega arith

-- whatever is refused, it is not spoken of
abbrev pub Any : Reply → Type 0
Any r = Unit {0}

-- behind an escape both lines have no lowest bit yet
record Even (l : Levels) : Type 0 where
  behind : 1 ≤ l.escapes → (l.low_first % 2 ≡ 0) × (l.low_second % 2 ≡ 0)
  without : l.escapes ≡ 0 → (l.low_first ≡ 0) × (l.low_second ≡ 0) × (l.last < 16)

-- a pair's lines: even behind an escape, and without one at most 3
pub record EvenPair (x : Pair) : Type 0 where
  pub behind : 1 ≤ x.escapes → (nat_abs x.first % 2 ≡ 0) × (nat_abs x.second % 2 ≡ 0)
  pub without : x.escapes ≡ 0 → (nat_abs x.first ≤ 3) × (nat_abs x.second ≤ 3)

-- in least-bit mode there are no bits at level 0
abbrev Bits : ℕ → ℕ × ℕ → Type 0
Bits level low = level ≡ 0 → (low.0 ≡ 0) × (low.1 ≡ 0)

low-going : (p level : ℕ) → Keeps BothMoved Any (Bits level) (low_bits true p level)
low-going p level =
    keeps-if Any (Bits level) (eqb level 0) _ _
    (λ e. keeps-done Any (Bits level) (0, 0) (λ h. (refl, refl)))
    (λ e. keeps-onward Any (λ a. a ≤ 1) (Bits level) _ _ (met-bit Any (bit p level) (λ tail. tt) both-bit)
    (λ a qa. keeps-onward Any (λ b. b ≤ 1) (Bits level) _ _ (met-bit Any (bit p level) (λ tail. tt) both-bit)
    (λ b qb. keeps-done Any (Bits level) (a, b) (λ h. absurd (eqb-false level 0 e h)))))

-- one level more
even-more : (level a x : ℕ) → (level ≡ 0 → x ≡ 0) → (level ≡ 0 → a ≡ 0) → (1 ≤ level → a % 2 ≡ 0) → (a + x * 2 ^ level) % 2 ≡ 0
even-more zero a x absent start even = let z = absent refl in let s = start refl in rw (z, s) refl
even-more (suc n) a x absent start even =
    let r = raised-even x (suc n) (omega arith) in
    let h = even (omega arith) in
    omega arith

module _ (lookup frequencies : List ℕ) (looked : lookup_passes lookup ≡ true) (rows : part_passes 64 17 frequencies ≡ true) (standard : Bool) (p : ℕ) where
  levels-going : (t left level a b : ℕ) → level + left ≡ 14 → (level ≡ 0 → (a ≡ 0) × (b ≡ 0)) → (1 ≤ level → (a % 2 ≡ 0) × (b % 2 ≡ 0)) → Keeps BothMoved Any Even (read_levels lookup frequencies standard true p t left level a b)
  unfolding read_levels
  levels-going t zero level a b all start even =
      keeps-done Any Even (record { escapes = level; last = escape_symbol; low_first = a; low_second = b })
      (record { behind = even; without = λ z. absurd (omega arith) })
  levels-going t (suc left) level a b all start even =
      let row = row_at 17 (row_of lookup t level) frequencies in
      keeps-onward Any (λ k. k < length row) Even _ _ (met-symbol Any (symbol p level) (λ h. tt) (λ low limit. tt) both-byte row (row_ok lookup frequencies looked rows t level))
      (λ k h. keeps-if Any Even (ltb k escape_symbol) _ _
      (λ e. keeps-done Any Even (record { escapes = level; last = k; low_first = a; low_second = b })
      (record { behind = even; without = λ z. ((start z).0, (start z).1, ltb-true k 16 e) }))
      (λ e. keeps-onward Any (Bits level) Even _ _ (keeps-refusing Any (Bits level) (standard && eqb level 13) (fourteen_escapes p) (low_bits true p level) tt (λ test. low-going p level))
      (λ low q. levels-going t left (level + 1) (a + low.0 * 2 ^ level) (b + low.1 * 2 ^ level) (omega arith)
      (λ z. absurd (omega arith))
      (λ z. (even-more level a low.0 (λ i. (q i).0) (λ i. (start i).0) (λ i. (even i).0), even-more level b low.1 (λ i. (q i).1) (λ i. (start i).1) (λ i. (even i).1))))))

  whole-even : (z : ℤ) (low part n : ℕ) → nat_abs z ≡ low + part * 2 ^ n → 1 ≤ n → low % 2 ≡ 0 → nat_abs z % 2 ≡ 0
  whole-even z low part n e h even = let r = raised-even part n h in omega arith

  whole-low : (z : ℤ) (low part n : ℕ) → nat_abs z ≡ low + part * 2 ^ n → n ≡ 0 → low ≡ 0 → part ≤ 3 → nat_abs z ≤ 3
  whole-low z low part n e h none-low most = let one : nat_abs z ≡ 0 + part * 2 ^ 0 = e ∙ rw (h, none-low) refl in omega arith

  pair-going : (t : ℕ) → Keeps BothMoved Any EvenPair (read_pair lookup frequencies standard true p t)
  pair-going t =
      keeps-onward Any Even EvenPair _ _ (levels-going t 14 0 0 0 refl (λ z. (refl, refl)) (λ z. absurd (omega arith)))
      (λ l even. signs-keep Any EvenPair p l (λ tail. tt)
      (λ first second q r. record {
        behind = λ h. (whole-even first l.low_first (first_part l.last) l.escapes q h (even.behind h).0, whole-even second l.low_second (second_part l.last) l.escapes r h (even.behind h).1);
        without = λ h. let w = even.without h in (whole-low first l.low_first (first_part l.last) l.escapes q h w.0 (omega arith), whole-low second l.low_second (second_part l.last) l.escapes r h w.1 (omega (arith, w.2)));
      }))

pub pairs-even : (lookup frequencies : List ℕ) → lookup_passes lookup ≡ true → part_passes 64 17 frequencies ≡ true → (standard : Bool) (rate ne p n context : ℕ) → Keeps BothMoved Any (Pairs EvenPair n) (read_pairs lookup frequencies standard true rate ne p n context)
pairs-even lookup frequencies looked rows standard = pairs-keep Any EvenPair lookup frequencies standard true (pair-going lookup frequencies looked rows standard)

-- a line behind what comes late is larger by at most one
module _ (f : List ℕ) (escaped : ℕ → Bool) where
  pub late-each : (p : ℕ) (xs : List ℤ) (tail room k : ℕ) → nat_abs (get_or (late_from f escaped p xs tail room).lines k (pos 0)) ≤ nat_abs (get_or xs k (pos 0)) + 1
  unfolding late_from
  late-each p [] tail room k = omega arith
  late-each p (x ∷ []) tail room k = omega arith
  late-each p (x ∷ y ∷ rest) tail room zero =
      by-test (escaped p) (λ e. rw e (line-most f x tail room)) (λ e. rw e (omega arith))
  late-each p (x ∷ y ∷ rest) tail room (suc zero) =
      by-test (escaped p)
      (λ e. let a = late_line f x tail room in
      rw e (line-most f y a.tail a.room))
      (λ e. rw e (omega arith))
  late-each p (x ∷ y ∷ rest) tail room (suc (suc k)) =
      by-test (escaped p)
      (λ e. let a = late_line f x tail room in
      let b = late_line f y a.tail a.room in
      rw e (late-each (p + 1) rest b.tail b.room k))
      (λ e. rw e (late-each (p + 1) rest tail room k))

-- so what comes late passes no bound
pub record Bound (x : Pair) : Type 0 where
  pub first : nat_abs x.first + 1 ≤ 32767
  pub second : nat_abs x.second + 1 ≤ 81919
  pub second_few : x.escapes < 14 → nat_abs x.second + 1 ≤ 32767

pub bound-late : {standard : Bool} (x : Pair) → Sized standard x → EvenPair x → Bound x
bound-late x s e = by x.escapes refl
  where
    by : (n : ℕ) → x.escapes ≡ n → Bound x
    by zero h = let w = e.without h in record { first = omega (arith, w.0); second = omega (arith, w.1); second_few = λ few. omega (arith, w.1) }
    by (suc n) h =
        let w = e.behind (omega arith) in
        record {
          first = omega (arith, w.0, s.first);
          second = omega (arith, w.1, s.second);
          second_few = λ few. omega (arith, w.1, s.second_few few);
        }

pub bounds : {standard : Bool} (xs : List Pair) → All (Sized standard) xs → All EvenPair xs → All Bound xs
bounds [] none none = none
bounds (x ∷ xs) (more s t) (more e u) = more (bound-late x s e) (bounds xs t u)

pub even-late : (xs : List Pair) → All Bound xs → (i : ℕ) → nat_abs (get_or (lines_of xs) (2 * i) (pos 0)) + 1 ≤ 32767
unfolding lines_of
even-late [] none i = omega arith
even-late (x ∷ xs) (more h t) zero = h.first
even-late (x ∷ xs) (more h t) (suc i) =
    let two : 2 * suc i ≡ suc (suc (2 * i)) = omega arith in
    rw two (even-late xs t i)

pub odd-late : (xs : List Pair) → All Bound xs → (i : ℕ) → nat_abs (get_or (lines_of xs) (2 * i + 1) (pos 0)) + 1 ≤ 81919
unfolding lines_of
odd-late [] none i = omega arith
odd-late (x ∷ xs) (more h t) zero = h.second
odd-late (x ∷ xs) (more h t) (suc i) =
    let two : 2 * suc i + 1 ≡ suc (suc (2 * i + 1)) = omega arith in
    rw two (odd-late xs t i)

pub odd-few-late : (xs : List Pair) → All Bound xs → (i : ℕ) → get_or (levels_of xs) i 0 < 14 → nat_abs (get_or (lines_of xs) (2 * i + 1) (pos 0)) + 1 ≤ 32767
unfolding lines_of levels_of
odd-few-late [] none i few = omega arith
odd-few-late (x ∷ xs) (more h t) zero few = h.second_few few
odd-few-late (x ∷ xs) (more h t) (suc i) few =
    let two : 2 * suc i + 1 ≡ suc (suc (2 * i + 1)) = omega arith in
    rw two (odd-few-late xs t i few)

zero-size : (n i : ℕ) → nat_abs (get_or (replicate n (pos 0)) i (pos 0)) ≡ 0
zero-size zero i = refl
zero-size (suc n) zero = refl
zero-size (suc n) (suc i) = zero-size n i

-- zeros behind lines change no magnitude
pub filled-size : (xs : List ℤ) (n i : ℕ) → nat_abs (get_or (xs ++ replicate n (pos 0)) i (pos 0)) ≡ nat_abs (get_or xs i (pos 0))
filled-size [] n i = zero-size n i
filled-size (x ∷ xs) n zero = refl
filled-size (x ∷ xs) n (suc i) = filled-size xs n i
