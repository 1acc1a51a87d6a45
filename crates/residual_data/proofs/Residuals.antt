-- The residual list, one line and one bit at a time: a line that is not 0 counts one, and while there is room it takes the next bit.
-- Assumes nothing.
use Rattle.std.proofs.Common.{◌≡◌, ℕ, zero, suc, ◌+◌, ◌<◌, ◌≤◌, min, cond, eqb, List, [], ◌∷◌, ◌++◌, length, get_or, drop, set, ℤ, nat_abs, refl, ap, ◌∙◌, append_assoc, add-zero, zero-add, not, count_by, add-one, arith, drop-cons, take, pos, take-suc}
use lib.Seq.{set_at}
use mir.Val.{bool_byte}
use Rattle.std.proofs.lemmas.List.Recursion.{is_count_by}
use Rattle.common.proofs.Bools.{by-test}
use Rattle.buffer_reader.specs.Tail.{tail_bit}
use Rattle.buffer_reader.proofs.Tails.{bit-lt}
use Rattle.residual_data.specs.Residual.{bits_from, nonzero, residual_list}

-- what a line counts
abbrev pub counts : ℤ → ℕ
counts x = cond (eqb (nat_abs x) 0) 0 1

pub counts-most : (x : ℤ) → counts x ≤ 1
counts-most x = by-test (eqb (nat_abs x) 0) (λ e. rw e (omega arith)) (λ e. rw e (omega arith))

-- as the code counts, by the test that its magnitude is not 0
pub tested-counts : (x : ℤ) → bool_byte (not (eqb (nat_abs x) 0)) ≡ counts x
tested-counts x = by-test (eqb (nat_abs x) 0) (λ e. rw e refl) (λ e. rw e refl)

-- as the library counts
pub nonzero-counted : (xs : List ℤ) → nonzero xs ≡ count_by (λ x. not (eqb (nat_abs x) 0)) xs
unfolding nonzero
nonzero-counted xs = is_count_by nonzero (λ x. not (eqb (nat_abs x) 0)) refl (λ y ys. by-test (eqb (nat_abs y) 0) (λ e. rw (e, zero-add) refl) (λ e. rw e refl)) xs

pub nonzero-none : (lines : List ℤ) → 0 ≡ nonzero (take 0 lines)
unfolding nonzero
nonzero-none lines = refl

nonzero-append : (xs : List ℤ) (x : ℤ) → nonzero (xs ++ (x ∷ [])) ≡ nonzero xs + counts x
unfolding nonzero
nonzero-append [] x = omega arith
nonzero-append (y ∷ ys) x = rw (nonzero-append ys x) (omega arith)

pub nonzero-turn : (lines : List ℤ) (k : ℕ) → k < length lines → nonzero (take (k + 1) lines) ≡ nonzero (take k lines) + counts (get_or lines k (pos 0))
nonzero-turn lines k h = rw (add-one, take-suc lines k (pos 0) h) (nonzero-append (take k lines) (get_or lines k (pos 0)))

pub nonzero-most : (xs : List ℤ) → nonzero xs ≤ length xs
unfolding nonzero
nonzero-most [] = omega arith
nonzero-most (x ∷ xs) = omega (arith, counts-most x, nonzero-most xs)

pub bits-length : (f : List ℕ) (tail n : ℕ) → length (bits_from f tail n) ≡ n
unfolding bits_from
bits-length f tail zero = refl
bits-length f tail (suc n) = ap suc (bits-length f (tail + 1) n)

bits-more : (f : List ℕ) (tail n : ℕ) → bits_from f tail (suc n) ≡ bits_from f tail n ++ (tail_bit f (tail + n) ∷ [])
unfolding bits_from
bits-more f tail zero = rw add-zero refl
bits-more f tail (suc n) =
    let at : tail + 1 + n ≡ tail + suc n = omega arith in
    ap (λ l. tail_bit f tail ∷ l) (bits-more f (tail + 1) n ∙ rw at refl)

-- nothing is laid yet; one bit more
pub bits_none : (f : List ℕ) (tail : ℕ) (l : List ℕ) → l ≡ bits_from f tail 0 ++ drop 0 l
unfolding bits_from
bits_none f tail l = refl

pub bits-one : (f : List ℕ) (tail n : ℕ) (l l₀ : List ℕ) → n < length l₀ → l ≡ bits_from f tail n ++ drop n l₀ → set l n (tail_bit f (tail + n)) ≡ bits_from f tail (n + 1) ++ drop (n + 1) l₀
bits-one f tail n l l₀ h e =
    rw (e, drop-cons l₀ n 0 h, set_at (bits_from f tail n) (get_or l₀ n 0) (drop (suc n) l₀) (tail_bit f (tail + n)) n (bits-length f tail n), add-one, bits-more, append_assoc) refl

-- each bit is 0 or 1
pub bits-low : (f : List ℕ) (tail n i : ℕ) → get_or (bits_from f tail n) i 0 < 2
unfolding bits_from
bits-low f tail zero i = omega arith
bits-low f tail (suc n) zero = bit-lt f tail
bits-low f tail (suc n) (suc i) = bits-low f (tail + 1) n i

-- the list is as long as the smaller of room and nonzero lines, and each of its elements is 0 or 1
pub residual-length : (f : List ℕ) (tail room : ℕ) (lines : List ℤ) → length (residual_list f tail room lines) ≡ min room (nonzero lines)
residual-length f tail room lines = bits-length f tail (min room (nonzero lines))

pub residual-low : (f : List ℕ) (tail room : ℕ) (lines : List ℤ) (i : ℕ) → get_or (residual_list f tail room lines) i 0 < 2
residual-low f tail room lines i = bits-low f tail (min room (nonzero lines)) i
