-- The tail bits of the pairs, put or counted: lists behind one another are put as one, what all ask for is enough for each, and no pair has
-- more than 30 bits. Assumes nothing.
use Prim.Native.Nat.{ℕ, zero, suc, ◌+◌, ◌-◌, ◌*◌, ◌/◌, ◌%◌, ◌^◌, ◌≤◌, ◌<◌}
use mathlib.Core.Path.{◌≡◌, refl, sym, ap, ◌∙◌}
use mathlib.Core.Bool.{Bool, true, false, cond, ◌&&◌, false≢true}
use mathlib.Core.List.{List, [], ◌∷◌, ◌++◌, append-nil, append_assoc}
use native.Mathlib.Omega.{arith}
use native.Mathlib.Nat.{add-zero, zero-add}
use borrow.Author.Tests.{le-ltb, lt-ltb}
use lib.Dec.{eqb, ltb}
use lib.ListN.{length, length-append}
use lib.IntN.{ℤ}
use Rattle.common.proofs.Bools.{by-test}
use Rattle.contexts.specs.Lines.{line_at, magnitude_at, minus, escapes_at}
use Rattle.contexts.proofs.Escapes.{escapes-few}
use Rattle.contexts.proofs.Magnitudes.{minus-low}
use Rattle.buffer_writer.specs.Writes.{put_bit}
use Rattle.sending.specs.Sending.{Owner, Bit, low, sign, owned}
use Rattle.sending.specs.Private.{Puts, AllBits, no_bits, more-bits}
use Rattle.sending.proofs.Puts.{put-all-append, put-all-length, put-all-none, put-all-one}
use Rattle.sending.proofs.Stands.{bits-append}
use Rattle.spectral_data.specs.Sent.{low_at, lows_from, early, sign_at, pair_bits, pairs_bits}
use Rattle.spectral_data.specs.Private.{Put}

-- no bit, one bit, and a list behind another
pub put-none : (writing : Bool) (f : List ℕ) (i : ℕ) → Put writing f i [] i f
put-none writing f i = record { behind = omega arith; lent = sym (put-all-none writing f i) }

pub put_one : {writing : Bool} {f : List ℕ} {i n : ℕ} {g : List ℕ} (o : Owner) (v u : ℕ) → v ≡ u → n ≡ i + 1 → g ≡ cond writing (put_bit f i v) f → Put writing f i (owned o u ∷ []) n g
put_one {writing} {f} {i} o v u same next lent =
    record { behind = next; lent = lent ∙ ap (λ (x : ℕ). cond writing (put_bit f i x) f) same ∙ sym (put-all-one writing f i (owned o u)) }

pub put-behind : {writing : Bool} {f : List ℕ} {i n m : ℕ} {g h : List ℕ} (xs ys : List Bit) → Put writing f i xs n g → Put writing g n ys m h → Put writing f i (xs ++ ys) m h
put-behind {writing} {f} {i} xs ys x y =
    record {
      behind = omega (arith, x.behind, y.behind, length-append xs ys);
      lent = rw (put-all-append writing f i xs ys, ← x.lent, ← x.behind) y.lent;
    }

pub put-length : {writing : Bool} {f : List ℕ} {i n : ℕ} {g : List ℕ} (bits : List Bit) → Put writing f i bits n g → length g ≡ length f
put-length {writing} {f} {i} bits x = ap length x.lent ∙ put-all-length writing f i bits

-- what all ask for is enough for a part
pub puts-part : {writing : Bool} {f : List ℕ} {i n : ℕ} (g : List ℕ) (j m : ℕ) → Puts writing f i n → j + m ≤ i + n → length g ≡ length f → Puts writing g j m
puts-part g j m h less same =
    record { few = omega (arith, h.few); short = omega (arith, h.short); room = λ w. omega (arith, h.room w) }

-- what counts alone asks for numbers that fit
pub puts-counted : (f : List ℕ) (i n : ℕ) → i + n ≤ 65535 → length f ≤ 65535 → Puts false f i n
puts-counted f i n few short = record { few = few; short = short; room = λ e. absurd (false≢true e) }

-- the low bits at a level: none, or both
module _ (lsb : Bool) (k a b level : ℕ) where
  pub low-none : (lsb && eqb level 0) ≡ true → low_at lsb k a b level ≡ []
  low-none e = rw e refl

  pub low-both : (lsb && eqb level 0) ≡ false → low_at lsb k a b level ≡ owned (low k level) (a / 2 ^ level % 2) ∷ owned (low (k + 1) level) (b / 2 ^ level % 2) ∷ []
  low-both e = rw e refl

  low-size : length (low_at lsb k a b level) ≡ length (low_at lsb 0 a b level)
  low-size = by-test (lsb && eqb level 0) (λ e. rw e refl) (λ e. rw e refl)

  low-most : length (low_at lsb k a b level) ≤ 2
  low-most = by-test (lsb && eqb level 0) (λ e. rw e (omega arith)) (λ e. rw e (omega arith))

  low-low : AllBits (low_at lsb k a b level)
  low-low = by-test (lsb && eqb level 0) (λ e. rw e no_bits) (λ e. rw e (more-bits {b = owned (low k level) (a / 2 ^ level % 2)} (omega arith) (more-bits {b = owned (low (k + 1) level) (b / 2 ^ level % 2)} (omega arith) no_bits)))

module _ (lsb : Bool) (k a b : ℕ) where
  pub lows-none : (level : ℕ) → lows_from lsb k a b level 0 ≡ []
  unfolding lows_from
  lows-none level = refl

  -- so many levels, then the others
  lows-split : (level n m : ℕ) → lows_from lsb k a b level (n + m) ≡ lows_from lsb k a b level n ++ lows_from lsb k a b (level + n) m
  unfolding lows_from
  lows-split level zero m = rw (zero-add m, add-zero level) refl
  lows-split level (suc n) m =
      let more : suc n + m ≡ suc (n + m) = omega arith in
      let at : level + 1 + n ≡ level + suc n = omega arith in
      rw (more, lows-split (level + 1) n m, at, append_assoc) refl

  pub lows-more : (level n : ℕ) → lows_from lsb k a b level (n + 1) ≡ lows_from lsb k a b level n ++ low_at lsb k a b (level + n)
  unfolding lows_from
  lows-more level n = lows-split level n 1 ∙ rw (append-nil (low_at lsb k a b (level + n))) refl

  pub lows-most : (level n : ℕ) → length (lows_from lsb k a b level n) ≤ 2 * n
  unfolding lows_from
  lows-most level zero = omega arith
  lows-most level (suc n) =
      omega (arith, length-append (low_at lsb k a b level) (lows_from lsb k a b (level + 1) n), low-most lsb k a b level, lows-most (level + 1) n)

  lows-low : (level n : ℕ) → AllBits (lows_from lsb k a b level n)
  unfolding lows_from
  lows-low level zero = no_bits
  lows-low level (suc n) = bits-append _ _ (low-low lsb k a b level) (lows-low (level + 1) n)

-- their number does not depend on the line
pub lows-size : (lsb : Bool) (k a b level n : ℕ) → length (lows_from lsb k a b level n) ≡ length (lows_from lsb 0 a b level n)
unfolding lows_from
lows-size lsb k a b level zero = refl
lows-size lsb k a b level (suc n) =
    omega (arith, length-append (low_at lsb k a b level) (lows_from lsb k a b (level + 1) n), length-append (low_at lsb 0 a b level) (lows_from lsb 0 a b (level + 1) n), low-size lsb k a b level, lows-size lsb k a b (level + 1) n)

-- those up to a level and those at it are no more than all
pub lows-grow : (lsb : Bool) (k a b level n : ℕ) → level < n → length (lows_from lsb k a b 0 level) + length (low_at lsb k a b level) ≤ length (lows_from lsb k a b 0 n)
lows-grow lsb k a b level n h =
    let whole : n ≡ level + 1 + (n - level - 1) = omega arith in
    let parts : lows_from lsb k a b 0 n ≡ lows_from lsb k a b 0 level ++ low_at lsb k a b level ++ lows_from lsb k a b (0 + (level + 1)) (n - level - 1) =
    ap (lows_from lsb k a b 0) whole ∙ lows-split lsb k a b 0 (level + 1) (n - level - 1) ∙ rw (lows-more lsb k a b 0 level, zero-add level) refl in
    omega (arith, ap length parts, length-append (lows_from lsb k a b 0 level ++ low_at lsb k a b level) (lows_from lsb k a b (0 + (level + 1)) (n - level - 1)), length-append (lows_from lsb k a b 0 level) (low_at lsb k a b level))

-- a sign: none, or one
module _ (lsb : Bool) (n : ℕ) (lines : List ℤ) (k : ℕ) where
  module _ (v : ℕ) (e : v ≡ early lsb n (magnitude_at lines k)) where
    pub sign-none : v ≡ 0 → sign_at lsb n lines k ≡ []
    sign-none z = rw (← e, le-ltb 0 v (omega arith)) refl

    pub sign-one : (v ≡ 0 → ⊥) → sign_at lsb n lines k ≡ owned (sign k) (minus (line_at lines k)) ∷ []
    sign-one h = rw (← e, lt-ltb 0 v (omega (arith, h))) refl

  sign-most : length (sign_at lsb n lines k) ≤ 1
  sign-most = by-test (ltb 0 (early lsb n (magnitude_at lines k))) (λ e. rw e (omega arith)) (λ e. rw e (omega arith))

  sign_low : AllBits (sign_at lsb n lines k)
  sign_low = by-test (ltb 0 (early lsb n (magnitude_at lines k))) (λ e. rw e (more-bits (minus-low (line_at lines k)) no_bits)) (λ e. rw e no_bits)

-- a pair
module _ (lsb : Bool) (lines : List ℤ) (p : ℕ) where
  abbrev n : ℕ
  n = escapes_at lines p

  abbrev lows : List Bit
  lows = lows_from lsb (2 * p) (magnitude_at lines (2 * p)) (magnitude_at lines (2 * p + 1)) 0 n

  pub pair_size : length (pair_bits lsb lines p) ≡ length lows + length (sign_at lsb n lines (2 * p)) + length (sign_at lsb n lines (2 * p + 1))
  pair_size = omega (arith, length-append (lows ++ sign_at lsb n lines (2 * p)) (sign_at lsb n lines (2 * p + 1)), length-append lows (sign_at lsb n lines (2 * p)))

  pub pair-most : length (pair_bits lsb lines p) ≤ 30
  pair-most =
      omega (arith, pair_size, lows-most lsb (2 * p) (magnitude_at lines (2 * p)) (magnitude_at lines (2 * p + 1)) 0 n, escapes-few (magnitude_at lines (2 * p)) (magnitude_at lines (2 * p + 1)), sign-most lsb n lines (2 * p), sign-most lsb n lines (2 * p + 1))

  pair-low : AllBits (pair_bits lsb lines p)
  pair-low =
      bits-append (lows ++ sign_at lsb n lines (2 * p)) (sign_at lsb n lines (2 * p + 1)) (bits-append lows (sign_at lsb n lines (2 * p)) (lows-low lsb (2 * p) (magnitude_at lines (2 * p)) (magnitude_at lines (2 * p + 1)) 0 n) (sign_low lsb n lines (2 * p))) (sign_low lsb n lines (2 * p + 1))

-- all pairs
module _ (lsb : Bool) (lines : List ℤ) where
  pub pairs-none : (p : ℕ) → pairs_bits lsb lines p 0 ≡ []
  unfolding pairs_bits
  pairs-none p = refl

  -- so many pairs, then the others
  pub pairs-split : (p n m : ℕ) → pairs_bits lsb lines p (n + m) ≡ pairs_bits lsb lines p n ++ pairs_bits lsb lines (p + n) m
  unfolding pairs_bits
  pairs-split p zero m = rw (zero-add m, add-zero p) refl
  pairs-split p (suc n) m =
      let more : suc n + m ≡ suc (n + m) = omega arith in
      let at : p + 1 + n ≡ p + suc n = omega arith in
      rw (more, pairs-split (p + 1) n m, at, append_assoc (pair_bits lsb lines p) (pairs_bits lsb lines (p + 1) n) (pairs_bits lsb lines (p + suc n) m)) refl

  pub pairs-more : (p n : ℕ) → pairs_bits lsb lines p (n + 1) ≡ pairs_bits lsb lines p n ++ pair_bits lsb lines (p + n)
  unfolding pairs_bits
  pairs-more p n = pairs-split p n 1 ∙ rw (append-nil (pair_bits lsb lines (p + n))) refl

  pub pairs-grow : (p n : ℕ) → p < n → length (pairs_bits lsb lines 0 p) + length (pair_bits lsb lines p) ≤ length (pairs_bits lsb lines 0 n)
  pairs-grow p n h =
      let whole : n ≡ p + 1 + (n - p - 1) = omega arith in
      let parts : pairs_bits lsb lines 0 n ≡ pairs_bits lsb lines 0 p ++ pair_bits lsb lines p ++ pairs_bits lsb lines (0 + (p + 1)) (n - p - 1) =
      ap (pairs_bits lsb lines 0) whole ∙ pairs-split 0 (p + 1) (n - p - 1) ∙ rw (pairs-more 0 p, zero-add p) refl in
      omega (arith, ap length parts, length-append (pairs_bits lsb lines 0 p ++ pair_bits lsb lines p) (pairs_bits lsb lines (0 + (p + 1)) (n - p - 1)), length-append (pairs_bits lsb lines 0 p) (pair_bits lsb lines p))

  -- so a writer that counts knows that the numbers fit
  pub pairs-bits-few : (p n : ℕ) → length (pairs_bits lsb lines p n) ≤ 30 * n
  unfolding pairs_bits
  pairs-bits-few p zero = omega arith
  pairs-bits-few p (suc n) =
      omega (arith, length-append (pair_bits lsb lines p) (pairs_bits lsb lines (p + 1) n), pair-most lsb lines p, pairs-bits-few (p + 1) n)

  -- each is 0 or 1
  pub pairs-bits-low : (p n : ℕ) → AllBits (pairs_bits lsb lines p n)
  unfolding pairs_bits
  pairs-bits-low p zero = no_bits
  pairs-bits-low p (suc n) = bits-append (pair_bits lsb lines p) (pairs_bits lsb lines (p + 1) n) (pair-low lsb lines p) (pairs-bits-low (p + 1) n)
