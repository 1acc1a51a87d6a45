-- Pairs that were read are those that their lines would be read as, where the lines have the escapes that were read: what is left of a
-- magnitude behind its escapes is the last symbol's part, and in least-bit mode what came late is cleared again. Assumes nothing.
use Prim.Native.Nat.{ℕ, zero, suc, ◌+◌, ◌*◌, ◌/◌, ◌%◌, ◌^◌, ◌<◌}
use mathlib.Core.Path.{◌≡◌, refl, sym, ap, subst, ◌∙◌}
use mathlib.Core.Bool.{Bool, true, false}
use mathlib.Core.List.{List, [], ◌∷◌, ◌++◌}
use native.Mathlib.Omega.{arith}
use native.Mathlib.Nat.{add-zero, zero-add}
use borrow.Author.Tests.{ltb-true, ltb-false, lt-ltb}
use lib.Dec.{ltb, eqb}
use lib.IntN.{ℤ, pos, negsuc, nat_abs}
use lib.ListN.{length, get_or, replicate}
use lib.Pow.{high, shr-shr}
use Rattle.common.specs.Tables.{lookup_passes, part_passes}
use Rattle.common.proofs.Bools.{by-test}
use Rattle.buffer_reader.specs.Tail.{tail_bit}
use Rattle.contexts.specs.Contexts.{first_part, second_part}
use Rattle.contexts.specs.Lines.{line_at, magnitude_at, escapes_at, evened, early_line}
use Rattle.contexts.proofs.Evened.{evened-even}
use Rattle.coding.proofs.Keeps.{BothMoved, Keeps, keeps-onward}
use Rattle.spectral_data.specs.Spectral.{Pair, Levels, read_pairs, lines_of, levels_of}
use Rattle.spectral_data.specs.Sent.{pair_at, pairs_of}
use Rattle.spectral_data.specs.Private.{signs_by}
use Rattle.spectral_data.proofs.Back.{early_magnitude, early-size}
use Rattle.spectral_data.proofs.Bounds.{Meets, bit_missing, Limited, All, none, more, Pairs, signs-keep, pairs-keep, levels-going}
use Rattle.residual_data.specs.Residual.{larger, late_line, late_from}
use Rattle.frame_reader.proofs.Magnitudes.{EvenPair}

-- ---- what the last symbol has of a pair

pub record WholePair (x : Pair) : Type 0 where
  pub first : nat_abs x.first / 2 ^ x.escapes ≡ first_part x.last
  pub second : nat_abs x.second / 2 ^ x.escapes ≡ second_part x.last

-- low bits below a power do not reach what stands above it
above : (z : ℤ) (low part n : ℕ) → low < 2 ^ n → nat_abs z ≡ low + part * 2 ^ n → nat_abs z / 2 ^ n ≡ part
above z low part n l e =
    let turned : nat_abs z ≡ part * 2 ^ n + low = omega arith in
    ap (λ (m : ℕ). m / 2 ^ n) turned ∙ high part n l

signs-whole : (standard : Bool) (p : ℕ) (l : Levels) → Limited standard l → Keeps BothMoved (Meets standard) WholePair (signs_by p l)
signs-whole standard p l (b, fewer) =
    signs-keep (Meets standard) WholePair p l (λ tail. bit_missing p l.escapes tail b.few)
    (λ first second q r. record {
      first = above first l.low_first (first_part l.last) l.escapes b.first_low q;
      second = above second l.low_second (second_part l.last) l.escapes b.second_low r;
    })

pub pairs-whole : (lookup frequencies : List ℕ) → lookup_passes lookup ≡ true → part_passes 64 17 frequencies ≡ true → (standard lsb : Bool) (rate ne p n context : ℕ) → Keeps BothMoved (Meets standard) (Pairs WholePair n) (read_pairs lookup frequencies standard lsb rate ne p n context)
pairs-whole lookup frequencies looked rows standard lsb =
    pairs-keep (Meets standard) WholePair lookup frequencies standard lsb
    (λ p t. keeps-onward (Meets standard) (Limited standard) WholePair _ _ (levels-going lookup frequencies looked rows standard lsb p t 14 0 0 0 refl (λ is. omega arith) (omega arith) (omega arith)) (signs-whole standard p))

-- ---- a pair again

-- clearing the lowest bit leaves what stands above an escape
early-high : (lsb : Bool) (n a : ℕ) → early_magnitude lsb n a / 2 ^ n ≡ a / 2 ^ n
early-high false n a = refl
early-high true zero a = refl
early-high true (suc n) a =
    let one : 1 + n ≡ suc n = omega arith in
    let half : a / 2 * 2 / 2 ≡ a / 2 = omega arith in
    rw (lt-ltb 0 (suc n) (omega arith))
    (subst (λ (k : ℕ). a / 2 * 2 / 2 ^ k ≡ a / 2 ^ k) one (sym (shr-shr (a / 2 * 2) 1 n) ∙ ap (λ (q : ℕ). q / 2 ^ n) half ∙ shr-shr a 1 n))

-- a place behind all pairs
abbrev pub nothing : Pair
nothing = record { escapes = 0; last = 0; first = pos 0; second = pos 0 }

module _ (lsb : Bool) (lines : List ℤ) where
  -- the lines of pair p are read as this pair's
  pub record Again (p : ℕ) (x : Pair) : Type 0 where
    pub escapes : escapes_at lines p ≡ x.escapes
    pub first : early_line lsb x.escapes (line_at lines (2 * p)) ≡ x.first
    pub second : early_line lsb x.escapes (line_at lines (2 * p + 1)) ≡ x.second

  part-again : (n k part : ℕ) (z : ℤ) → early_line lsb n (line_at lines k) ≡ z → nat_abs z / 2 ^ n ≡ part → magnitude_at lines k / 2 ^ n ≡ part
  part-again n k part z e h =
      sym (early-high lsb n (magnitude_at lines k)) ∙
      ap (λ (m : ℕ). m / 2 ^ n) (sym (early-size lsb n (line_at lines k)) ∙ ap nat_abs e) ∙ h

  pair-again : (p : ℕ) (x : Pair) → Again p x → WholePair x → pair_at lsb lines p ≡ x
  pair-again p x a w =
      let n = x.escapes in
      let one : magnitude_at lines (2 * p) / 2 ^ n ≡ first_part x.last = part-again n (2 * p) (first_part x.last) x.first a.first w.first in
      let two : magnitude_at lines (2 * p + 1) / 2 ^ n ≡ second_part x.last = part-again n (2 * p + 1) (second_part x.last) x.second a.second w.second in
      let ended : magnitude_at lines (2 * p) / 2 ^ n + 4 * (magnitude_at lines (2 * p + 1) / 2 ^ n) ≡ x.last = omega arith in
      rw (a.escapes, ended, a.first, a.second) refl

  pub pairs-again : (xs : List Pair) (p : ℕ) → All WholePair xs → ((q : ℕ) → q < length xs → Again (p + q) (get_or xs q nothing)) → pairs_of lsb lines p (length xs) ≡ xs
  unfolding pairs_of
  pairs-again [] p none h = refl
  pairs-again (x ∷ xs) p (more w ws) h =
      let one : pair_at lsb lines p ≡ x = pair-again p x (subst (λ (n : ℕ). Again n x) (add-zero p) (h 0 (omega arith))) w in
      let rest : pairs_of lsb lines (p + 1) (length xs) ≡ xs =
      pairs-again xs (p + 1) ws (λ q l. let e : p + suc q ≡ p + 1 + q = omega arith in subst (λ (n : ℕ). Again n (get_or xs q nothing)) e (h (suc q) (omega arith))) in
      ap (λ (y : Pair). y ∷ pairs_of lsb lines (p + 1) (length xs)) one ∙ ap (λ (ys : List Pair). x ∷ ys) rest

-- ---- the places of the pairs

pub level-at : (xs : List Pair) (q : ℕ) → get_or (levels_of xs) q 0 ≡ (get_or xs q nothing).escapes
unfolding levels_of
level-at [] q = refl
level-at (x ∷ xs) zero = refl
level-at (x ∷ xs) (suc q) = level-at xs q

first-at : (xs : List Pair) (q : ℕ) → get_or (lines_of xs) (2 * q) (pos 0) ≡ (get_or xs q nothing).first
unfolding lines_of
first-at [] q = refl
first-at (x ∷ xs) zero = refl
first-at (x ∷ xs) (suc q) = let two : 2 * suc q ≡ suc (suc (2 * q)) = omega arith in rw two (first-at xs q)

second_at : (xs : List Pair) (q : ℕ) → get_or (lines_of xs) (2 * q + 1) (pos 0) ≡ (get_or xs q nothing).second
unfolding lines_of
second_at [] q = refl
second_at (x ∷ xs) zero = refl
second_at (x ∷ xs) (suc q) = let two : 2 * suc q + 1 ≡ suc (suc (2 * q + 1)) = omega arith in rw two (second_at xs q)

-- zeros behind lines change none
zeros-at : (n k : ℕ) → get_or (replicate n (pos 0)) k (pos 0) ≡ pos 0
zeros-at zero k = refl
zeros-at (suc n) zero = refl
zeros-at (suc n) (suc k) = zeros-at n k

pub filled_at : (xs : List ℤ) (n k : ℕ) → get_or (xs ++ replicate n (pos 0)) k (pos 0) ≡ get_or xs k (pos 0)
filled_at [] n k = zeros-at n k
filled_at (x ∷ xs) n zero = refl
filled_at (x ∷ xs) n (suc k) = filled_at xs n k

-- outside least-bit mode the lines are the pairs'
pub plain-again : (xs : List Pair) (n q : ℕ) → (early_line false (get_or xs q nothing).escapes (line_at (lines_of xs ++ replicate n (pos 0)) (2 * q)) ≡ (get_or xs q nothing).first) × (early_line false (get_or xs q nothing).escapes (line_at (lines_of xs ++ replicate n (pos 0)) (2 * q + 1)) ≡ (get_or xs q nothing).second)
plain-again xs n q = (filled_at (lines_of xs) n (2 * q) ∙ first-at xs q, filled_at (lines_of xs) n (2 * q + 1) ∙ second_at xs q)

-- ---- least-bit mode

-- an even line, or one larger, is the even line when its lowest bit is cleared
larger-evened : (x : ℤ) → nat_abs x % 2 ≡ 0 → evened (larger x) ≡ x
larger-evened (pos m) h = let e : suc m / 2 * 2 ≡ m = omega arith in rw e refl
larger-evened (negsuc m) h = let e : (suc m + 1) / 2 * 2 ≡ suc m = omega arith in rw e refl

pub zero-line : (x : ℤ) → nat_abs x ≡ 0 → pos 0 ≡ x
zero-line (pos m) h = ap pos (sym h)
zero-line (negsuc m) h = absurd (omega arith)

late-evened : (f : List ℕ) (x : ℤ) (tail room : ℕ) → nat_abs x % 2 ≡ 0 → evened (late_line f x tail room).line ≡ x
late-evened f x tail room h =
    by-test (eqb room 0)
    (λ e. rw e (evened-even x h))
    (λ e. by-test (eqb (tail_bit f tail) 0)
    (λ b. rw (e, b) (evened-even x h))
    (λ b. by-test (ltb 0 (nat_abs x))
    (λ s. rw (e, b, s) (larger-evened x h))
    (λ s. by-test (eqb room 1)
    (λ o. rw (e, b, s, o) (evened-even x h))
    (λ o. let zero_is = zero-line x (omega (arith, ltb-false 0 (nat_abs x) s)) in
    by-test (eqb (tail_bit f (tail + 1)) 1)
    (λ g. rw (e, b, s, o, g) zero_is)
    (λ g. rw (e, b, s, o, g) zero_is)))))

module _ (f : List ℕ) (escaped : ℕ → Bool) where
  -- what came late is cleared again, where just the escaped pairs' lines were altered
  late-again : (xs : List Pair) (p : ℕ) → All EvenPair xs → ((q : ℕ) → escaped (p + q) ≡ ltb 0 (get_or xs q nothing).escapes) → (tail room q : ℕ) →
      let late = (late_from f escaped p (lines_of xs) tail room).lines in
      (early_line true (get_or xs q nothing).escapes (get_or late (2 * q) (pos 0)) ≡ (get_or xs q nothing).first) ×
      (early_line true (get_or xs q nothing).escapes (get_or late (2 * q + 1) (pos 0)) ≡ (get_or xs q nothing).second)
  unfolding late_from lines_of
  late-again [] p none h tail room q = (refl, refl)
  late-again (x ∷ xs) p (more even evens) h tail room zero =
      let here : escaped p ≡ ltb 0 x.escapes = rw (add-zero p) at (h 0) in
      by-test (ltb 0 x.escapes)
      (λ e.
      let at : escaped p ≡ true = here ∙ e in
      let a = late_line f x.first tail room in
      let two = even.behind (omega (arith, ltb-true 0 x.escapes e)) in
      rw (at, e) (late-evened f x.first tail room two.0, late-evened f x.second a.tail a.room two.1))
      (λ e. let at : escaped p ≡ false = here ∙ e in rw (at, e) (refl {a = x.first}, refl {a = x.second}))
  late-again (x ∷ xs) p (more even evens) h tail room (suc q) =
      let next : (i : ℕ) → escaped (p + 1 + i) ≡ ltb 0 (get_or xs i nothing).escapes = λ i. let e : p + suc i ≡ p + 1 + i = omega arith in rw e at (h (suc i)) in
      let one : 2 * suc q ≡ suc (suc (2 * q)) = omega arith in
      let two : 2 * suc q + 1 ≡ suc (suc (2 * q + 1)) = omega arith in
      let a = late_line f x.first tail room in
      let b = late_line f x.second a.tail a.room in
      by-test (escaped p)
      (λ e. rw (two, one, e) (late-again xs (p + 1) evens next b.tail b.room q))
      (λ e. rw (two, one, e) (late-again xs (p + 1) evens next tail room q))

  pub late-filled : (xs : List Pair) → All EvenPair xs → ((q : ℕ) → escaped q ≡ ltb 0 (get_or xs q nothing).escapes) → (tail room n q : ℕ) →
      let late = (late_from f escaped 0 (lines_of xs) tail room).lines in
      (early_line true (get_or xs q nothing).escapes (line_at (late ++ replicate n (pos 0)) (2 * q)) ≡ (get_or xs q nothing).first) ×
      (early_line true (get_or xs q nothing).escapes (line_at (late ++ replicate n (pos 0)) (2 * q + 1)) ≡ (get_or xs q nothing).second)
  late-filled xs even h tail room n q =
      let late = (late_from f escaped 0 (lines_of xs) tail room).lines in
      let again = late-again xs 0 even (λ i. rw (zero-add i) (h i)) tail room q in
      (ap (early_line true (get_or xs q nothing).escapes) (filled_at late n (2 * q)) ∙ again.0, ap (early_line true (get_or xs q nothing).escapes) (filled_at late n (2 * q + 1)) ∙ again.1)
