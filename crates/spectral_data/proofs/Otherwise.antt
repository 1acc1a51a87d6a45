-- Whatever stands in the tail, some lines have those bits and the symbols of the lines that were sent: below a pair's escapes each bit of a
-- magnitude is the tail's, from there on its own, so as much is left of it behind them, and a sign is the tail's. Assumes nothing.
use Prim.Native.Nat.{ℕ, zero, suc, ◌+◌, ◌*◌, ◌/◌, ◌%◌, ◌^◌, ◌≤◌, ◌<◌}
use mathlib.Core.Path.{◌≡◌, refl, sym, ap, subst, ◌∙◌}
use mathlib.Core.Bool.{Bool, true, false, cond, ◌&&◌}
use mathlib.Core.List.{List, [], ◌∷◌, ◌++◌}
use native.Mathlib.Omega.{arith}
use native.Mathlib.Nat.{zero-add, mod-lt}
use borrow.Author.Tests.{ltb-true, eqb-true, eqb-false}
use lib.Dec.{ltb, eqb}
use lib.IntN.{ℤ, pos, neg_ℤ, nat_abs}
use lib.ListN.{length, set, length-set, length-append}
use lib.Pow.{pow_pos, split, high, low as low_part, field, mod-mod-pow, shr-shr}
use lib.Seq.{get_or-set_same, get_or-set_other}
use Rattle.common.specs.Tables.{row_at}
use Rattle.common.proofs.Bools.{by-test}
use Rattle.contexts.specs.Contexts.{lookup_start, row_of, shifted, escapes, symbol_from, pair_symbol, context_behind, next_context, first_part, second_part}
use Rattle.contexts.specs.Lines.{line_at, magnitude_at, minus, escapes_at}
use Rattle.contexts.proofs.Escapes.{escapes-same as escapes-kept}
use Rattle.contexts.proofs.Evened.{signed_as}
use Rattle.buffer_reader.specs.Tail.{tail_bit}
use Rattle.buffer_reader.proofs.Tails.{bit-lt}
use Rattle.range_encoder.specs.Interval.{Sent}
use Rattle.sending.specs.Sending.{Owner, Bit, low, sign, sent, owned, Stands}
use Rattle.sending.proofs.Stands.{stands-behind, StandFor, stand-for-append}
use Rattle.spectral_data.specs.Sent.{sent_escapes, sent_pair, sent_pairs, lows_from, early, sign_at, pair_bits, pairs_bits}
use Rattle.spectral_data.specs.Private.{Modest}
use Rattle.spectral_data.proofs.Sizes.{signed-size, before-fourteenth}
use Rattle.spectral_data.proofs.Puts.{pair_size}
use Rattle.spectral_data.proofs.Retrace.{sign-length}
use Rattle.spectral_data.proofs.Back.{first_of, second_of, least, pair-escapes, context-back}

-- ---- a magnitude with other bits

-- the same below a level, and from another on
record Between (a x level upto : ℕ) : Type 0 where
  below : x % 2 ^ level ≡ a % 2 ^ level
  above : x / 2 ^ upto ≡ a / 2 ^ upto

-- a bit for the one at a level
abbrev placed : ℕ → ℕ → ℕ → ℕ
placed a level v = (a / 2 ^ (level + 1) * 2 + v) * 2 ^ level + a % 2 ^ level

module _ (a level v : ℕ) where
  placed-high : placed a level v / 2 ^ level ≡ a / 2 ^ (level + 1) * 2 + v
  placed-high = high (a / 2 ^ (level + 1) * 2 + v) level (mod-lt a (pow_pos level))

  placed-low : placed a level v % 2 ^ level ≡ a % 2 ^ level
  placed-low = low_part (a / 2 ^ (level + 1) * 2 + v) level (mod-lt a (pow_pos level))

  -- its own bit changes nothing
  placed-own : v ≡ a / 2 ^ level % 2 → placed a level v ≡ a
  placed-own own =
      let half : a / 2 ^ level / 2 ≡ a / 2 ^ (level + 1) = shr-shr a level 1 in
      let whole : a / 2 ^ (level + 1) * 2 + v ≡ a / 2 ^ level = omega arith in
      ap (λ (q : ℕ). q * 2 ^ level + a % 2 ^ level) whole ∙ split a level

module _ (a x level : ℕ) where
  -- two numbers that are the same below a level, and at it, have the same bit there
  bit_kept : x % 2 ^ (level + 1) ≡ a % 2 ^ (level + 1) → x / 2 ^ level % 2 ≡ a / 2 ^ level % 2
  bit_kept e =
      let one : level + 1 ≡ 1 + level = omega arith in
      let here : x % 2 ^ (1 + level) ≡ a % 2 ^ (1 + level) = rw one at e in
      sym (field x 1 level) ∙ ap (λ (q : ℕ). q / 2 ^ level) here ∙ field a 1 level

  between-less : (n : ℕ) → Between a x (level + 1) (level + 1 + n) → Between a x level (level + suc n)
  between-less n h =
      let one : level + 1 ≡ 1 + level = omega arith in
      let more : level + 1 + n ≡ level + suc n = omega arith in
      let here : x % 2 ^ (1 + level) ≡ a % 2 ^ (1 + level) = rw one at h.below in
      record {
        below = sym (mod-mod-pow x 1 level) ∙ ap (λ (q : ℕ). q % 2 ^ level) here ∙ mod-mod-pow a 1 level;
        above = rw more at h.above;
      }

module _ (a x level n v : ℕ) (bit : v < 2) (h : Between (placed a level v) x (level + 1) (level + 1 + n)) where
  placed-bit : v ≡ x / 2 ^ level % 2
  placed-bit =
      let there = placed-high a level v in
      let kept = bit_kept (placed a level v) x level h.below in
      sym (kept ∙ ap (λ (q : ℕ). q % 2) there ∙ omega arith)

  placed-between : Between a x level (level + suc n)
  placed-between =
      let less = between-less (placed a level v) x level n h in
      let more : level + 1 + n ≡ level + suc n = omega arith in
      let next : placed a level v / 2 ^ (level + 1) ≡ a / 2 ^ (level + 1) =
      sym (shr-shr (placed a level v) level 1) ∙ ap (λ (q : ℕ). q / 2) (placed-high a level v) ∙ omega arith in
      let far : placed a level v / 2 ^ (level + 1 + n) ≡ a / 2 ^ (level + 1 + n) =
      sym (shr-shr (placed a level v) (level + 1) n) ∙ ap (λ (q : ℕ). q / 2 ^ n) next ∙ shr-shr a (level + 1) n in
      record {
        below = less.below ∙ placed-low a level v;
        above = less.above ∙ (rw more at far);
      }

-- ---- the bits of a pair, by its two lines

abbrev sign_bits : Bool → ℕ → ℕ → ℤ → List Bit
sign_bits lsb n k z = cond (ltb 0 (early lsb n (nat_abs z))) (owned (sign k) (minus z) ∷ []) []

abbrev bits_by : Bool → ℕ → ℕ → ℕ → ℕ → ℤ → ℤ → List Bit
bits_by lsb k n a b z w = lows_from lsb k a b 0 n ++ sign_bits lsb n k z ++ sign_bits lsb n (k + 1) w

-- what has a sign is above 0, and below 0 it is minus
early-some : (lsb : Bool) (n m : ℕ) → 0 < early lsb n m → 0 < m
early-some lsb n m = by-test (lsb && ltb 0 n) (λ e. rw e (λ h. omega arith)) (λ e. rw e (λ h. h))

minus-some : (m : ℕ) → 0 < m → minus (neg_ℤ (pos m)) ≡ 1
minus-some zero h = absurd (omega arith)
minus-some (suc m) h = refl

module _ (g : List ℕ) (lsb : Bool) where
  -- ---- the low bits of a pair

  -- magnitudes with the tail's bits at n levels from a level on; where the low bits are as they were sent, the same
  record Lows (k a b level n i : ℕ) : Type 0 where
    first : ℕ
    second : ℕ
    first-kept : Between a first level (level + n)
    second-kept : Between b second level (level + n)
    stands : Stands g i (lows_from lsb k first second level n)
    sized : (spared : Owner → Bool) → ((j l : ℕ) → spared (low j l) ≡ true) → StandFor spared g i (lows_from lsb k a b level n) → (first ≡ a) × (second ≡ b)

  lows-none : (k a b level n i : ℕ) → (lsb && eqb level 0) ≡ true → Lows k a b (level + 1) n i → Lows k a b level (suc n) i
  unfolding lows_from
  lows-none k a b level n i e r =
      record {
        first = r.first;
        second = r.second;
        first-kept = between-less a r.first level n r.first-kept;
        second-kept = between-less b r.second level n r.second-kept;
        stands = rw e r.stands;
        sized = λ spared all h. r.sized spared all (rw e at h);
      }

  lows-both : (k a b level n i : ℕ) → (lsb && eqb level 0) ≡ false → Lows k (placed a level (tail_bit g i)) (placed b level (tail_bit g (i + 1))) (level + 1) n (i + 1 + 1) → Lows k a b level (suc n) i
  unfolding lows_from Stands StandFor
  lows-both k a b level n i e r =
      let v = tail_bit g i in
      let w = tail_bit g (i + 1) in
      record {
        first = r.first;
        second = r.second;
        first-kept = placed-between a r.first level n v (bit-lt g i) r.first-kept;
        second-kept = placed-between b r.second level n w (bit-lt g (i + 1)) r.second-kept;
        stands = rw e (placed-bit a r.first level n v (bit-lt g i) r.first-kept, (placed-bit b r.second level n w (bit-lt g (i + 1)) r.second-kept, r.stands));
        sized = λ spared all h. both-sized spared all (rw e at h);
      }
    where
      both-sized : (spared : Owner → Bool) → ((j l : ℕ) → spared (low j l) ≡ true) →
          StandFor spared g i (owned (low k level) (a / 2 ^ level % 2) ∷ owned (low (k + 1) level) (b / 2 ^ level % 2) ∷ lows_from lsb k a b (level + 1) n) →
          (r.first ≡ a) × (r.second ≡ b)
      both-sized spared all h =
          let p = placed-own a level (tail_bit g i) (h.0 (all k level)) in
          let q = placed-own b level (tail_bit g (i + 1)) (h.1.0 (all (k + 1) level)) in
          let same = r.sized spared all (rw (p, q) h.1.1) in
          (same.0 ∙ p, same.1 ∙ q)

  lows : (k n a b level i : ℕ) → Lows k a b level n i
  unfolding lows_from Stands
  lows k zero a b level i =
      record {
        first = a;
        second = b;
        first-kept = record { below = refl; above = refl };
        second-kept = record { below = refl; above = refl };
        stands = tt;
        sized = λ spared all h. (refl, refl);
      }
  lows k (suc n) a b level i =
      by-test (lsb && eqb level 0)
      (λ e. lows-none k a b level n i e (lows k n a b (level + 1) i))
      (λ e. lows-both k a b level n i e (lows k n (placed a level (tail_bit g i)) (placed b level (tail_bit g (i + 1))) (level + 1) (i + 1 + 1)))

  -- ---- a sign

  -- a line of a magnitude, with the tail's sign where it has one there
  record Signed (n k m i : ℕ) : Type 0 where
    line : ℤ
    size : nat_abs line ≡ m
    stands : Stands g i (sign_bits lsb n k line)

  signed-there : (n k m i : ℕ) (z : ℤ) → ltb 0 (early lsb n m) ≡ true → nat_abs z ≡ m → tail_bit g i ≡ minus z → Signed n k m i
  unfolding Stands
  signed-there n k m i z test size is = record { line = z; size = size; stands = rw (size, test) (is, tt) }

  signed-none : (n k m i : ℕ) (z : ℤ) → ltb 0 (early lsb n m) ≡ false → nat_abs z ≡ m → Signed n k m i
  unfolding Stands
  signed-none n k m i z test size = record { line = z; size = size; stands = rw (size, test) tt }

  signed : (n k m i : ℕ) (z : ℤ) → Signed n k m i
  signed n k m i z =
      by-test (ltb 0 (early lsb n m))
      (λ e.
      let some : 0 < m = early-some lsb n m (ltb-true 0 (early lsb n m) e) in
      by-test (eqb (tail_bit g i) 1)
      (λ one. signed-there n k m i (neg_ℤ (pos m)) e (signed-size true m) (eqb-true (tail_bit g i) 1 one ∙ sym (minus-some m some)))
      (λ none. signed-there n k m i (pos m) e refl (omega (arith, bit-lt g i, eqb-false (tail_bit g i) 1 none))))
      (λ e. signed-none n k m i (signed_as z m) e (signed-size (eqb (minus z) 1) m))

  -- ---- a pair

  -- lines with the tail's bits in pair p, as they were elsewhere
  record Paired (lines : List ℤ) (p tail : ℕ) : Type 0 where
    others : List ℤ
    size : length others ≡ length lines
    elsewhere : (k : ℕ) → (k ≡ 2 * p → ⊥) → (k ≡ 2 * p + 1 → ⊥) → line_at others k ≡ line_at lines k
    first-left : shifted (first_of others p) (escapes_at lines p) ≡ shifted (first_of lines p) (escapes_at lines p)
    second-left : shifted (second_of others p) (escapes_at lines p) ≡ shifted (second_of lines p) (escapes_at lines p)
    stands : Stands g tail (pair_bits lsb others p)
    sized : (spared : Owner → Bool) → ((j l : ℕ) → spared (low j l) ≡ true) → StandFor spared g tail (pair_bits lsb lines p) → (first_of others p ≡ first_of lines p) × (second_of others p ≡ second_of lines p)

  module _ (lines : List ℤ) (p tail : ℕ) (modest : Modest lines) (room : 2 * p + 2 ≤ length lines) where
    abbrev own : ℕ
    own = escapes_at lines p

    abbrev own_lows : List Bit
    own_lows = lows_from lsb (2 * p) (first_of lines p) (second_of lines p) 0 own

    made : Lows (2 * p) (first_of lines p) (second_of lines p) 0 own tail
    made = lows (2 * p) own (first_of lines p) (second_of lines p) 0 tail

    abbrev low_bits : List Bit
    low_bits = lows_from lsb (2 * p) made.first made.second 0 own

    first_sign : Signed own (2 * p) made.first (tail + length low_bits)
    first_sign = signed own (2 * p) made.first (tail + length low_bits) (line_at lines (2 * p))

    abbrev first_line : ℤ
    first_line = first_sign.line

    second_sign : Signed own (2 * p + 1) made.second (tail + length (low_bits ++ sign_bits lsb own (2 * p) first_line))
    second_sign = signed own (2 * p + 1) made.second (tail + length (low_bits ++ sign_bits lsb own (2 * p) first_line)) (line_at lines (2 * p + 1))

    abbrev second_line : ℤ
    second_line = second_sign.line

    abbrev others : List ℤ
    others = set (set lines (2 * p) first_line) (2 * p + 1) second_line

    first-there : line_at others (2 * p) ≡ first_line
    first-there =
        get_or-set_other (set lines (2 * p) first_line) (2 * p + 1) (2 * p) second_line (pos 0) (λ e. omega (arith, e)) ∙ get_or-set_same lines (2 * p) first_line (pos 0) (omega (arith, room))

    second-there : line_at others (2 * p + 1) ≡ second_line
    second-there =
        get_or-set_same (set lines (2 * p) first_line) (2 * p + 1) second_line (pos 0) (omega (arith, room, length-set lines (2 * p) first_line))

    first-is : first_of others p ≡ made.first
    first-is = ap nat_abs first-there ∙ first_sign.size

    second_is : second_of others p ≡ made.second
    second_is = ap nat_abs second-there ∙ second_sign.size

    first-same : shifted made.first own ≡ shifted (first_of lines p) own
    first-same = rw (zero-add own) at made.first-kept.above

    second-same : shifted made.second own ≡ shifted (second_of lines p) own
    second-same = rw (zero-add own) at made.second-kept.above

    count : escapes (nat_abs first_line) (nat_abs second_line) ≡ own
    count =
        escapes-kept (first_of lines p) (second_of lines p) (nat_abs first_line) (nat_abs second_line) (omega (arith, modest (2 * p))) (omega (arith, modest (2 * p + 1)))
        (ap (λ (q : ℕ). shifted q own) first_sign.size ∙ first-same) (ap (λ (q : ℕ). shifted q own) second_sign.size ∙ second-same)

    bits_are : pair_bits lsb others p ≡ bits_by lsb (2 * p) own made.first made.second first_line second_line
    bits_are =
        ap (λ (q : ℤ). bits_by lsb (2 * p) (escapes (nat_abs q) (second_of others p)) (nat_abs q) (second_of others p) q (line_at others (2 * p + 1))) first-there
        ∙ ap (λ (q : ℤ). bits_by lsb (2 * p) (escapes (nat_abs first_line) (nat_abs q)) (nat_abs first_line) (nat_abs q) first_line q) second-there
        ∙ ap (λ (q : ℕ). bits_by lsb (2 * p) q (nat_abs first_line) (nat_abs second_line) first_line second_line) count
        ∙ ap (λ (q : ℕ). bits_by lsb (2 * p) own q (nat_abs second_line) first_line second_line) first_sign.size
        ∙ ap (λ (q : ℕ). bits_by lsb (2 * p) own made.first q first_line second_line) second_sign.size

    paired : Paired lines p tail
    paired =
        record {
          others = others;
          size = length-set (set lines (2 * p) first_line) (2 * p + 1) second_line ∙ length-set lines (2 * p) first_line;
          elsewhere = λ k a b. get_or-set_other (set lines (2 * p) first_line) (2 * p + 1) k second_line (pos 0) b ∙ get_or-set_other lines (2 * p) k first_line (pos 0) a;
          first-left = ap (λ (q : ℕ). shifted q own) first-is ∙ first-same;
          second-left = ap (λ (q : ℕ). shifted q own) second_is ∙ second-same;
          stands = subst (Stands g tail) (sym bits_are) (stands-behind g tail (low_bits ++ sign_bits lsb own (2 * p) first_line) (sign_bits lsb own (2 * p + 1) second_line) (stands-behind g tail low_bits (sign_bits lsb own (2 * p) first_line) made.stands first_sign.stands) second_sign.stands);
          sized = λ spared all h.
              let parts = stand-for-append spared g tail (own_lows ++ sign_at lsb own lines (2 * p)) (sign_at lsb own lines (2 * p + 1)) h in
              let same = made.sized spared all (stand-for-append spared g tail own_lows (sign_at lsb own lines (2 * p)) parts.0).0 in
              (first-is ∙ same.0, second_is ∙ same.1);
        }

-- ---- pairs behind one another

-- a line is the first of pair p, its second, or of another
by_place : {G : Type 0} (p k : ℕ) → (k ≡ 2 * p → G) → (k ≡ 2 * p + 1 → G) → ((k ≡ 2 * p → ⊥) → (k ≡ 2 * p + 1 → ⊥) → G) → G
by_place p k first second other =
    by-test (eqb k (2 * p)) (λ e. first (eqb-true k (2 * p) e))
    (λ e. by-test (eqb k (2 * p + 1)) (λ d. second (eqb-true k (2 * p + 1) d)) (λ d. other (eqb-false k (2 * p) e) (eqb-false k (2 * p + 1) d)))

-- a pair's bits depend on its two lines, their number on the two magnitudes
pair-bits-same : (lsb : Bool) (xs ys : List ℤ) (p : ℕ) → line_at xs (2 * p) ≡ line_at ys (2 * p) → line_at xs (2 * p + 1) ≡ line_at ys (2 * p + 1) → pair_bits lsb xs p ≡ pair_bits lsb ys p
pair-bits-same lsb xs ys p first second =
    ap (λ (q : ℤ). bits_by lsb (2 * p) (escapes (nat_abs q) (second_of xs p)) (nat_abs q) (second_of xs p) q (line_at xs (2 * p + 1))) first
    ∙ ap (λ (q : ℤ). bits_by lsb (2 * p) (escapes (first_of ys p) (nat_abs q)) (first_of ys p) (nat_abs q) (line_at ys (2 * p)) q) second

abbrev size_by : Bool → ℕ → ℕ → ℕ → ℕ
size_by lsb k a b =
    let n = escapes a b in
    length (lows_from lsb k a b 0 n) + cond (ltb 0 (early lsb n a)) 1 0 + cond (ltb 0 (early lsb n b)) 1 0

pair-length : (lsb : Bool) (lines : List ℤ) (p : ℕ) → length (pair_bits lsb lines p) ≡ size_by lsb (2 * p) (first_of lines p) (second_of lines p)
pair-length lsb lines p =
    let n = escapes_at lines p in
    omega (
      arith,
      pair_size lsb lines p,
      sign-length (ltb 0 (early lsb n (first_of lines p))) (owned (sign (2 * p)) (minus (line_at lines (2 * p)))),
      sign-length (ltb 0 (early lsb n (second_of lines p))) (owned (sign (2 * p + 1)) (minus (line_at lines (2 * p + 1)))),
    )

pair-sized : (lsb : Bool) (xs ys : List ℤ) (p : ℕ) → first_of xs p ≡ first_of ys p → second_of xs p ≡ second_of ys p → length (pair_bits lsb xs p) ≡ length (pair_bits lsb ys p)
pair-sized lsb xs ys p first second =
    pair-length lsb xs p
    ∙ ap (λ (q : ℕ). size_by lsb (2 * p) q (second_of xs p)) first
    ∙ ap (λ (q : ℕ). size_by lsb (2 * p) (first_of ys p) q) second
    ∙ sym (pair-length lsb ys p)

module _ (lsb : Bool) (xs ys : List ℤ) where
  pairs-bits-same : (p n : ℕ) → ((k : ℕ) → 2 * p ≤ k → line_at xs k ≡ line_at ys k) → pairs_bits lsb xs p n ≡ pairs_bits lsb ys p n
  unfolding pairs_bits
  pairs-bits-same p zero same = refl
  pairs-bits-same p (suc n) same =
      rw (pair-bits-same lsb xs ys p (same (2 * p) (omega arith)) (same (2 * p + 1) (omega arith)), pairs-bits-same (p + 1) n (λ k h. same k (omega (arith, h)))) refl

  -- lines of the same magnitudes have as many bits
  pub pairs-sized : (p n : ℕ) → ((k : ℕ) → magnitude_at xs k ≡ magnitude_at ys k) → length (pairs_bits lsb xs p n) ≡ length (pairs_bits lsb ys p n)
  unfolding pairs_bits
  pairs-sized p zero same = refl
  pairs-sized p (suc n) same =
      omega (
        arith,
        length-append (pair_bits lsb xs p) (pairs_bits lsb xs (p + 1) n),
        length-append (pair_bits lsb ys p) (pairs_bits lsb ys (p + 1) n),
        pair-sized lsb xs ys p (same (2 * p)) (same (2 * p + 1)),
        pairs-sized (p + 1) n same,
      )

-- lines with the same escapes and last symbols send the same
module _ (xs ys : List ℤ) (modest : Modest xs) (modest' : Modest ys) (counts : (q : ℕ) → escapes_at xs q ≡ escapes_at ys q) (lasts : (q : ℕ) → pair_symbol (first_of xs q) (second_of xs q) ≡ pair_symbol (first_of ys q) (second_of ys q)) where
  context-same : (q context : ℕ) → context_behind context (first_of xs q) (second_of xs q) ≡ context_behind context (first_of ys q) (second_of ys q)
  context-same q context =
      sym (context-back xs modest q context)
      ∙ ap (λ (s : ℕ). next_context context (first_part s) (second_part s) (escapes_at xs q)) (lasts q)
      ∙ ap (λ (n : ℕ). let s = pair_symbol (first_of ys q) (second_of ys q) in next_context context (first_part s) (second_part s) n) (counts q)
      ∙ context-back ys modest' q context

  module _ (lookup frequencies : List ℕ) where
    abbrev sent_by : ℕ → ℕ → ℕ → List Sent
    sent_by t n s = sent_escapes lookup frequencies t 0 n ++ (sent (row_at 17 (row_of lookup t n) frequencies) s ∷ [])

    pair-sent : (q t : ℕ) → sent_pair lookup frequencies t (first_of xs q) (second_of xs q) ≡ sent_pair lookup frequencies t (first_of ys q) (second_of ys q)
    pair-sent q t =
        ap (λ (s : ℕ). sent_by t (escapes_at xs q) s) (lasts q) ∙ ap (λ (n : ℕ). sent_by t n (pair_symbol (first_of ys q) (second_of ys q))) (counts q)

    pairs-sent : (rate ne p n context : ℕ) → sent_pairs lookup frequencies rate ne xs p n context ≡ sent_pairs lookup frequencies rate ne ys p n context
    unfolding sent_pairs
    pairs-sent rate ne p zero context = refl
    pairs-sent rate ne p (suc n) context =
        rw (pair-sent p (lookup_start context rate ne (2 * p)), context-same p context, pairs-sent rate ne (p + 1) n (context_behind context (first_of ys p) (second_of ys p))) refl

-- ---- all of them

-- other lines: the symbols of these, and of n pairs from pair p on the tail's bits; where the low bits are as they were sent, their magnitudes
pub record Otherwise (g : List ℕ) (lsb : Bool) (lines : List ℤ) (p n tail : ℕ) : Type 0 where
  pub others : List ℤ
  pub size : length others ≡ length lines
  pub modest : Modest others
  pub before : (k : ℕ) → k < 2 * p → line_at others k ≡ line_at lines k
  pub beyond : (k : ℕ) → 2 * (p + n) ≤ k → line_at others k ≡ line_at lines k
  pub escapes-same : (q : ℕ) → escapes_at others q ≡ escapes_at lines q
  pub last-same : (q : ℕ) → pair_symbol (first_of others q) (second_of others q) ≡ pair_symbol (first_of lines q) (second_of lines q)
  pub symbols : (lookup frequencies : List ℕ) (rate ne context : ℕ) → sent_pairs lookup frequencies rate ne others p n context ≡ sent_pairs lookup frequencies rate ne lines p n context
  pub stands : Stands g tail (pairs_bits lsb others p n)
  pub sized : (spared : Owner → Bool) → ((k level : ℕ) → spared (low k level) ≡ true) → StandFor spared g tail (pairs_bits lsb lines p n) → (k : ℕ) → magnitude_at others k ≡ magnitude_at lines k

-- a magnitude of which less than 4 is left behind 13 escapes or fewer
left-modest : (x n : ℕ) → n ≤ 13 → shifted x n < 4 → x ≤ 32767
left-modest x n few small =
    omega (arith, split x n, before-fourteenth (x % 2 ^ n) n (shifted x n) (mod-lt x (pow_pos n)) (omega arith) (omega arith))

-- one pair replaced
module _ (g : List ℕ) (lsb : Bool) (lines : List ℤ) (p tail : ℕ) (modest : Modest lines) (r : Paired g lsb lines p tail) where
  paired-modest : Modest r.others
  paired-modest k =
      by_place p k
      (λ e. rw e (left-modest (first_of r.others p) (escapes_at lines p) (pair-escapes lines modest p) (omega (arith, r.first-left, (least lines modest p).first))))
      (λ e. rw e (left-modest (second_of r.others p) (escapes_at lines p) (pair-escapes lines modest p) (omega (arith, r.second-left, (least lines modest p).second))))
      (λ a b. rw (r.elsewhere k a b) (modest k))

  here-escapes : escapes_at r.others p ≡ escapes_at lines p
  here-escapes =
      escapes-kept (first_of lines p) (second_of lines p) (first_of r.others p) (second_of r.others p) (omega (arith, modest (2 * p))) (omega (arith, modest (2 * p + 1))) r.first-left r.second-left

  here-last : pair_symbol (first_of r.others p) (second_of r.others p) ≡ pair_symbol (first_of lines p) (second_of lines p)
  here-last =
      ap (λ (q : ℕ). symbol_from (shifted (first_of r.others p) q) (shifted (second_of r.others p) q)) here-escapes
      ∙ ap (λ (q : ℕ). symbol_from q (shifted (second_of r.others p) (escapes_at lines p))) r.first-left
      ∙ ap (λ (q : ℕ). symbol_from (shifted (first_of lines p) (escapes_at lines p)) q) r.second-left

  -- what holds of pair p, and of every pair whose lines are the same, holds of all
  each-pair : (F : ℤ → ℤ → ℕ) → F (line_at r.others (2 * p)) (line_at r.others (2 * p + 1)) ≡ F (line_at lines (2 * p)) (line_at lines (2 * p + 1)) →
      (q : ℕ) → F (line_at r.others (2 * q)) (line_at r.others (2 * q + 1)) ≡ F (line_at lines (2 * q)) (line_at lines (2 * q + 1))
  each-pair F here q =
      by-test (eqb q p)
      (λ e. let same : q ≡ p = eqb-true q p e in rw same here)
      (λ e.
      let other = eqb-false q p e in
      ap (λ (z : ℤ). F z (line_at r.others (2 * q + 1))) (r.elsewhere (2 * q) (λ d. other (omega (arith, d))) (λ d. omega (arith, d)))
      ∙ ap (λ (z : ℤ). F (line_at lines (2 * q)) z) (r.elsewhere (2 * q + 1) (λ d. omega (arith, d)) (λ d. other (omega (arith, d)))))

  all-escapes : (q : ℕ) → escapes_at r.others q ≡ escapes_at lines q
  all-escapes = each-pair (λ z w. escapes (nat_abs z) (nat_abs w)) here-escapes

  all-lasts : (q : ℕ) → pair_symbol (first_of r.others q) (second_of r.others q) ≡ pair_symbol (first_of lines q) (second_of lines q)
  all-lasts = each-pair (λ z w. pair_symbol (nat_abs z) (nat_abs w)) here-last

  all-sized : first_of r.others p ≡ first_of lines p → second_of r.others p ≡ second_of lines p → (k : ℕ) → magnitude_at r.others k ≡ magnitude_at lines k
  all-sized first second k =
      by_place p k (λ e. rw e first) (λ e. rw e second) (λ a b. ap nat_abs (r.elsewhere k a b))

module _ (g : List ℕ) (lsb : Bool) where
  -- the pair first, then those behind it
  otherwise-more : (lines : List ℤ) (p n tail : ℕ) → Modest lines → (r : Paired g lsb lines p tail) → Otherwise g lsb r.others (p + 1) n (tail + length (pair_bits lsb r.others p)) → Otherwise g lsb lines p (suc n) tail
  unfolding pairs_bits
  otherwise-more lines p n tail modest r o =
      let counts : (q : ℕ) → escapes_at o.others q ≡ escapes_at lines q = λ q. o.escapes-same q ∙ all-escapes g lsb lines p tail modest r q in
      let lasts : (q : ℕ) → pair_symbol (first_of o.others q) (second_of o.others q) ≡ pair_symbol (first_of lines q) (second_of lines q) =
      λ q. o.last-same q ∙ all-lasts g lsb lines p tail modest r q in
      let bits : pair_bits lsb o.others p ≡ pair_bits lsb r.others p =
      pair-bits-same lsb o.others r.others p (o.before (2 * p) (omega arith)) (o.before (2 * p + 1) (omega arith)) in
      record {
        others = o.others;
        size = o.size ∙ r.size;
        modest = o.modest;
        before = λ k h. o.before k (omega (arith, h)) ∙ r.elsewhere k (λ e. omega (arith, e, h)) (λ e. omega (arith, e, h));
        beyond = λ k h. o.beyond k (omega (arith, h)) ∙ r.elsewhere k (λ e. omega (arith, e, h)) (λ e. omega (arith, e, h));
        escapes-same = counts;
        last-same = lasts;
        symbols = λ lookup frequencies rate ne context. pairs-sent o.others lines o.modest modest counts lasts lookup frequencies rate ne p (suc n) context;
        stands = rw bits (stands-behind g tail (pair_bits lsb r.others p) (pairs_bits lsb o.others (p + 1) n) r.stands o.stands);
        sized = λ spared all h.
            let parts = stand-for-append spared g tail (pair_bits lsb lines p) (pairs_bits lsb lines (p + 1) n) h in
            let here = r.sized spared all parts.0 in
            let long : length (pair_bits lsb r.others p) ≡ length (pair_bits lsb lines p) = pair-sized lsb r.others lines p here.0 here.1 in
            let rest : pairs_bits lsb r.others (p + 1) n ≡ pairs_bits lsb lines (p + 1) n =
            pairs-bits-same lsb r.others lines (p + 1) n (λ k m. r.elsewhere k (λ e. omega (arith, e, m)) (λ e. omega (arith, e, m))) in
            λ k. o.sized spared all (rw (long, rest) parts.1) k ∙ all-sized g lsb lines p tail modest r here.0 here.1 k;
      }

pub otherwise : (g : List ℕ) (lsb : Bool) (lines : List ℤ) (p n tail : ℕ) → Modest lines → 2 * (p + n) ≤ length lines → Otherwise g lsb lines p n tail
unfolding pairs_bits Stands
otherwise g lsb lines p zero tail modest room =
    record {
      others = lines;
      size = refl;
      modest = modest;
      before = λ k h. refl;
      beyond = λ k h. refl;
      escapes-same = λ q. refl;
      last-same = λ q. refl;
      symbols = λ lookup frequencies rate ne context. refl;
      stands = tt;
      sized = λ spared all h k. refl;
    }
otherwise g lsb lines p (suc n) tail modest room =
    let r = paired g lsb lines p tail modest (omega (arith, room)) in
    otherwise-more g lsb lines p n tail modest r
    (otherwise g lsb r.others (p + 1) n (tail + length (pair_bits lsb r.others p)) (paired-modest g lsb lines p tail modest r) (omega (arith, room, r.size)))
