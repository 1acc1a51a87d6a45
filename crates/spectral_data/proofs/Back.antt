-- The pairs are read back as they were written: a level gives its two low bits, so below its escapes a magnitude is found bit by bit,
-- the last symbol has what is left of it, and a sign stands exactly where the magnitude read so is above 0. Assumes nothing.
use Prim.Native.Nat.{ℕ, zero, suc, ◌+◌, ◌*◌, ◌/◌, ◌%◌, ◌^◌, ◌≤◌, ◌<◌}
use mathlib.Core.Path.{◌≡◌, refl, sym, ap, subst, ◌∙◌}
use mathlib.Core.Bool.{Bool, true, false, cond, ◌&&◌, true≢false}
use mathlib.Core.List.{List, [], ◌∷◌, ◌++◌, append-nil, append_assoc}
use native.Mathlib.Omega.{arith}
use native.Mathlib.Nat.{add-zero, zero-add, mod-lt}
use borrow.Author.Tests.{lt-ltb, ne_eqb}
use lib.Dec.{ltb, eqb}
use lib.IntN.{ℤ, pos, neg_ℤ, nat_abs}
use lib.ListN.{length}
use lib.Pow.{split, mod-pow-add, shr-shr}
use Rattle.common.specs.Reply.{Reply, accepted, symbol, bit, fourteen_escapes}
use Rattle.common.specs.Tables.{row_at}
use Rattle.common.proofs.Bools.{by-test, same-ltb, and-second-fails}
use Rattle.contexts.specs.Contexts.{lookup_start, row_of, escape_symbol, shifted, first_part, second_part, pair_symbol, next_context, context_behind}
use Rattle.contexts.specs.Lines.{line_at, magnitude_at, minus, escapes_at, early_line}
use Rattle.contexts.proofs.Evened.{signed_as, signed_same, signed-zero, signed-evened}
use Rattle.contexts.proofs.Magnitudes.{minus-low}
use Rattle.contexts.proofs.Escapes.{Escaped, escapes-law, escapes-most, pair-symbol-low, first_back, second_back}
use Rattle.buffer_reader.specs.Steps.{refusing}
use Rattle.buffer_reader.specs.Tail.{Bytes}
use Rattle.range_encoder.specs.Interval.{Sent, Interval, behind}
use Rattle.range_encoder.specs.Theory.{state_at}
use Rattle.sending.specs.Sending.{Bit, sent, owned, low, sign}
use Rattle.coding.specs.Coding.{Coding, done, onward, met, symbol_by, tail_bit_by}
use Rattle.spectral_data.specs.Spectral.{Levels, low_bits, behind_escape, read_levels, read_sign, read_pair, read_pairs}
use Rattle.spectral_data.specs.Sent.{sent_escapes, sent_pair, sent_pairs, low_at, lows_from, early, sign_at, pair_bits, pairs_bits, pair_at, pairs_of}
use Rattle.spectral_data.specs.Private.{signs_by, Modest}
use Rattle.spectral_data.proofs.Sizes.{signed-size}
use Rattle.sending.proofs.Standing.{Holding, Room, Came, came-whole, place_at, Back, back_done, back-onward, back_last, back-bit, back-symbol}

-- ---- magnitudes

-- a magnitude as its low bits are read: in least-bit mode the lowest is 0
abbrev cleared : Bool → ℕ → ℕ
cleared lsb a = cond lsb (a / 2 * 2) a

-- and with what the last symbol has of it
abbrev pub early_magnitude : Bool → ℕ → ℕ → ℕ
early_magnitude lsb n a = cond (lsb && ltb 0 n) (a / 2 * 2) a

-- above level 0 no bit is cleared
cleared-high : (a n : ℕ) → a / 2 * 2 / 2 ^ suc n ≡ a / 2 ^ suc n
cleared-high a n =
    let one : 2 ^ (1 + n) ≡ 2 ^ suc n = ap (λ (k : ℕ). 2 ^ k) (omega arith) in
    let half : a / 2 * 2 / 2 ≡ a / 2 = omega arith in
    subst (λ (q : ℕ). a / 2 * 2 / q ≡ a / q) one (sym (shr-shr (a / 2 * 2) 1 n) ∙ ap (λ (q : ℕ). q / 2 ^ n) half ∙ shr-shr a 1 n)

-- one bit more
low-next : (a level : ℕ) → a % 2 ^ level + a / 2 ^ level % 2 * 2 ^ level ≡ a % 2 ^ (level + 1)
low-next a level =
    let one : 2 ^ (1 + level) ≡ 2 ^ (level + 1) = ap (λ (k : ℕ). 2 ^ k) (omega arith) in
    let m = mod-pow-add a 1 level in
    subst (λ (q : ℕ). a % 2 ^ level + a / 2 ^ level % 2 * 2 ^ level ≡ a % q) one (omega (arith, m))

-- the low bits and what is left make the magnitude that is read
magnitude-back : (lsb : Bool) (n a : ℕ) → cleared lsb a % 2 ^ n + shifted a n * 2 ^ n ≡ early_magnitude lsb n a
magnitude-back false n a = omega (arith, split a n)
magnitude-back true zero a = omega arith
magnitude-back true (suc n) a =
    rw (lt-ltb 0 (suc n) (omega arith), ← cleared-high a n) (omega (arith, split (a / 2 * 2) (suc n)))

-- a sign stands for what is read above 0
pub early-sign : (lsb : Bool) (n a : ℕ) → ltb 0 (early lsb n a) ≡ ltb 0 (early_magnitude lsb n a)
early-sign lsb n a =
    by-test (lsb && ltb 0 n)
    (λ e. rw e (same-ltb 0 (a / 2) 0 (a / 2 * 2) (λ h. omega arith) (λ h. omega arith)))
    (λ e. rw e refl)

-- what is read of a pair's levels, where n of them are escapes
abbrev levels_at : Bool → ℕ → ℕ → ℕ → ℕ → Levels
levels_at lsb n last a b =
    record { escapes = n; last = last; low_first = cleared lsb a % 2 ^ n; low_second = cleared lsb b % 2 ^ n }

-- ---- lines

-- the line of the magnitude that is read
line-back : (lsb : Bool) (n : ℕ) (z : ℤ) → signed_as z (early_magnitude lsb n (nat_abs z)) ≡ early_line lsb n z
line-back lsb n z =
    by-test (lsb && ltb 0 n) (λ e. rw e (signed-evened z)) (λ e. rw e (signed_same z))

pub early-size : (lsb : Bool) (n : ℕ) (z : ℤ) → nat_abs (early_line lsb n z) ≡ early_magnitude lsb n (nat_abs z)
early-size lsb n z =
    ap nat_abs (sym (line-back lsb n z)) ∙ signed-size (eqb (minus z) 1) (early_magnitude lsb n (nat_abs z))

-- ---- a pair's symbol

-- pair p's two magnitudes
abbrev pub first_of : List ℤ → ℕ → ℕ
first_of lines p = magnitude_at lines (2 * p)

abbrev pub second_of : List ℤ → ℕ → ℕ
second_of lines p = magnitude_at lines (2 * p + 1)

module _ (lines : List ℤ) (modest : Modest lines) (p : ℕ) where
  pub least : Escaped (first_of lines p) (second_of lines p) (escapes_at lines p)
  least = escapes-law (first_of lines p) (second_of lines p) (omega (arith, modest (2 * p))) (omega (arith, modest (2 * p + 1)))

  pub pair-escapes : escapes_at lines p ≤ 13
  pair-escapes = escapes-most (first_of lines p) (second_of lines p) (omega (arith, modest (2 * p))) (omega (arith, modest (2 * p + 1)))

  -- its two parts
  first_part-back : first_part (pair_symbol (first_of lines p) (second_of lines p)) ≡ shifted (first_of lines p) (escapes_at lines p)
  first_part-back = first_back (shifted (first_of lines p) (escapes_at lines p)) (shifted (second_of lines p) (escapes_at lines p)) least.first

  second-part : second_part (pair_symbol (first_of lines p) (second_of lines p)) ≡ shifted (second_of lines p) (escapes_at lines p)
  second-part = second_back (shifted (first_of lines p) (escapes_at lines p)) (shifted (second_of lines p) (escapes_at lines p)) least.first

  -- the context behind the pair is found by it
  pub context-back : (context : ℕ) →
      let symbol = pair_symbol (first_of lines p) (second_of lines p) in
      next_context context (first_part symbol) (second_part symbol) (escapes_at lines p) ≡ context_behind context (first_of lines p) (second_of lines p)
  context-back context =
      let symbol = pair_symbol (first_of lines p) (second_of lines p) in
      ap (λ (q : ℕ). next_context context q (second_part symbol) (escapes_at lines p)) first_part-back
      ∙ ap (λ (q : ℕ). next_context context (shifted (first_of lines p) (escapes_at lines p)) q (escapes_at lines p)) second-part

-- where tail bits are asked for: in pairs before an end, at levels up to a pair's escapes
abbrev pub asked : List ℤ → ℕ → ℕ → ℕ → Type 0
asked lines end p level = (p < end) × (level ≤ escapes_at lines p)

-- what is read of its levels
abbrev levels_read : Bool → List ℤ → ℕ → Levels
levels_read lsb lines p =
    levels_at lsb (escapes_at lines p) (pair_symbol (first_of lines p) (second_of lines p)) (first_of lines p) (second_of lines p)

module _ (f : List ℕ) (bytes : Bytes f) (short : length f ≤ 65535) (At : ℕ → ℕ → Type 0) where
  -- a line's sign, where its magnitude has one
  sign-back : (p level : ℕ) → At p level → (k m : ℕ) (z : ℤ) → Back f bytes short At (read_sign p level m) [] (cond (ltb 0 m) (owned (sign k) (minus z) ∷ []) []) (signed_as z m)
  sign-back p level asked k zero z = rw (signed-zero z) (back_done f bytes short At (pos 0))
  sign-back p level asked k (suc m) z =
      rw (lt-ltb 0 (suc m) (omega arith))
      (back-onward f bytes short At (met (bit p level) tail_bit_by) (λ minus. done (cond (eqb minus 1) (neg_ℤ (pos (suc m))) (pos (suc m))))
      (back-bit f bytes short At p level asked (owned (sign k) (minus z)) (minus-low z))
      (back_done f bytes short At (signed_as z (suc m))))

  -- two bits at a level
  bits_back : (p level : ℕ) → At p level → (x y : Bit) → x.value < 2 → y.value < 2 →
      Back f bytes short At {A = ℕ × ℕ} (onward (met (bit p level) tail_bit_by) (λ a. onward (met (bit p level) tail_bit_by) (λ b. done (a, b)))) [] (x ∷ y ∷ []) (x.value, y.value)
  bits_back p level asked x y sx sy =
      back-onward f bytes short At (met (bit p level) tail_bit_by) (λ a. onward (met (bit p level) tail_bit_by) (λ b. done (a, b)))
      (back-bit f bytes short At p level asked x sx)
      (back-onward f bytes short At (met (bit p level) tail_bit_by) (λ b. done (x.value, b))
      (back-bit f bytes short At p level asked y sy)
      (back_done f bytes short At (x.value, y.value)))

  bit-small : (a level : ℕ) → a / 2 ^ level % 2 < 2
  bit-small a level = mod-lt (a / 2 ^ level) (omega arith)

  low-back : (lsb : Bool) (p k a b level : ℕ) → At p level → Back f bytes short At {A = ℕ × ℕ} (low_bits lsb p level) [] (low_at lsb k a b level) (cleared lsb a / 2 ^ level % 2, cleared lsb b / 2 ^ level % 2)
  low-back false p k a b level asked =
      bits_back p level asked (owned (low k level) (a / 2 ^ level % 2)) (owned (low (k + 1) level) (b / 2 ^ level % 2)) (bit-small a level) (bit-small b level)
  low-back true p k a b zero asked =
      let first : a / 2 * 2 / 2 ^ 0 % 2 ≡ 0 = omega arith in
      let second : b / 2 * 2 / 2 ^ 0 % 2 ≡ 0 = omega arith in
      rw (first, second) (back_done f bytes short At (0, 0))
  low-back true p k a b (suc level) asked =
      rw (ne_eqb (suc level) 0 (omega arith), cleared-high a level, cleared-high b level)
      (bits_back p (suc level) asked (owned (low k (suc level)) (a / 2 ^ suc level % 2)) (owned (low (k + 1) (suc level)) (b / 2 ^ suc level % 2)) (bit-small a (suc level)) (bit-small b (suc level)))

  -- an escape with a symbol behind it is not the fourteenth
  refusing-back : {A : Type 0} (t : Bool) (r : Reply) (k : Coding A) {bits : List Bit} {a : A} → t ≡ false → Back f bytes short At k [] bits a → Back f bytes short At (λ s. refusing t r (k s)) [] bits a
  refusing-back true r k e h = absurd (true≢false e)
  refusing-back false r k e h = h

  behind-back : (standard lsb : Bool) (p k a b level : ℕ) → level < 13 → At p level → Back f bytes short At {A = ℕ × ℕ} (behind_escape standard lsb p level) [] (low_at lsb k a b level) (cleared lsb a / 2 ^ level % 2, cleared lsb b / 2 ^ level % 2)
  behind-back standard lsb p k a b level few asked =
      refusing-back (standard && eqb level 13) (fourteen_escapes p) (low_bits lsb p level) (and-second-fails standard (ne_eqb level 13 (omega arith))) (low-back lsb p k a b level asked)

  module _ (lookup frequencies : List ℕ) (standard lsb : Bool) (p t : ℕ) where
    abbrev last_at : ℕ → ℕ → Sent
    last_at level last = sent (row_at 17 (row_of lookup t level) frequencies) last

    -- n escapes from a level on, and the last symbol
    levels-back : (k a b last : ℕ) → last < escape_symbol → (n left level : ℕ) → n < left → level + left ≤ 14 → ((l : ℕ) → l ≤ level + n → At p l) →
        Back f bytes short At (read_levels lookup frequencies standard lsb p t left level (cleared lsb a % 2 ^ level) (cleared lsb b % 2 ^ level))
        (sent_escapes lookup frequencies t level n ++ (last_at (level + n) last ∷ [])) (lows_from lsb k a b level n) (levels_at lsb (level + n) last a b)
    unfolding read_levels sent_escapes lows_from
    levels-back k a b last small n zero level h upto asked = absurd (omega arith)
    levels-back k a b last small zero (suc left) level h upto asked =
        rw (add-zero level)
        (back-onward f bytes short At (met (symbol p level) (symbol_by (row_at 17 (row_of lookup t level) frequencies))) _
        (back-symbol f bytes short At (symbol p level) (last_at level last))
        (rw (lt-ltb last escape_symbol small) (back_done f bytes short At (levels_at lsb level last a b))))
    levels-back k a b last small (suc n) (suc left) level h upto asked =
        let same : level + suc n ≡ level + 1 + n = omega arith in
        rw same
        (back-onward f bytes short At (met (symbol p level) (symbol_by (row_at 17 (row_of lookup t level) frequencies))) _
        (back-symbol f bytes short At (symbol p level) (last_at level escape_symbol))
        (back-onward f bytes short At (behind_escape standard lsb p level) _ (behind-back standard lsb p k a b level (omega arith) (asked level (omega arith)))
        (rw (low-next (cleared lsb a) level, low-next (cleared lsb b) level) (levels-back k a b last small n left (level + 1) (omega arith) (omega arith) (λ l m. asked l (omega arith))))))

  -- a line by the magnitude that is read
  line_read : (lsb : Bool) (p level : ℕ) → At p level → (k m n : ℕ) (z : ℤ) → m ≡ early_magnitude lsb n (nat_abs z) →
      Back f bytes short At (read_sign p level m) [] (cond (ltb 0 (early lsb n (nat_abs z))) (owned (sign k) (minus z) ∷ []) []) (early_line lsb n z)
  line_read lsb p level asked k m n z e =
      rw (e, early-sign lsb n (nat_abs z))
      (subst (Back f bytes short At (read_sign p level (early_magnitude lsb n (nat_abs z))) [] _) (line-back lsb n z) (sign-back p level asked k (early_magnitude lsb n (nat_abs z)) z))

  module _ (lsb : Bool) (lines : List ℤ) (modest : Modest lines) (p : ℕ) (asked : (level : ℕ) → level ≤ escapes_at lines p → At p level) where
    signs-back : Back f bytes short At (signs_by p (levels_read lsb lines p)) [] (sign_at lsb (escapes_at lines p) lines (2 * p) ++ sign_at lsb (escapes_at lines p) lines (2 * p + 1)) (pair_at lsb lines p)
    signs-back =
        let n = escapes_at lines p in
        back-onward f bytes short At (read_sign p n ((levels_read lsb lines p).low_first + first_part (levels_read lsb lines p).last * 2 ^ n)) _
        (line_read lsb p n (asked n (omega arith)) (2 * p) _ n (line_at lines (2 * p)) (ap (λ (q : ℕ). cleared lsb (first_of lines p) % 2 ^ n + q * 2 ^ n) (first_part-back lines modest p) ∙ magnitude-back lsb n (first_of lines p)))
        (back_last f bytes short At (read_sign p n ((levels_read lsb lines p).low_second + second_part (levels_read lsb lines p).last * 2 ^ n)) _
        (line_read lsb p n (asked n (omega arith)) (2 * p + 1) _ n (line_at lines (2 * p + 1)) (ap (λ (q : ℕ). cleared lsb (second_of lines p) % 2 ^ n + q * 2 ^ n) (second-part lines modest p) ∙ magnitude-back lsb n (second_of lines p))))

    module _ (lookup frequencies : List ℕ) (standard : Bool) (t : ℕ) where
      whole-levels : Back f bytes short At (read_levels lookup frequencies standard lsb p t 14 0 0 0) (sent_pair lookup frequencies t (first_of lines p) (second_of lines p)) (lows_from lsb (2 * p) (first_of lines p) (second_of lines p) 0 (escapes_at lines p)) (levels_read lsb lines p)
      whole-levels =
          let n = escapes_at lines p in
          let first : cleared lsb (first_of lines p) % 2 ^ 0 ≡ 0 = omega arith in
          let second : cleared lsb (second_of lines p) % 2 ^ 0 ≡ 0 = omega arith in
          rw (first, second, zero-add n) at
          (levels-back lookup frequencies standard lsb p t (2 * p) (first_of lines p) (second_of lines p) (pair_symbol (first_of lines p) (second_of lines p))
          (pair-symbol-low (first_of lines p) (second_of lines p) (omega (arith, modest (2 * p))) (omega (arith, modest (2 * p + 1)))) n 14 0
          (omega (arith, pair-escapes lines modest p)) (omega arith) (λ l m. asked l (omega arith)))

      pub pair-back : Back f bytes short At (read_pair lookup frequencies standard lsb p t) (sent_pair lookup frequencies t (first_of lines p) (second_of lines p)) (pair_bits lsb lines p) (pair_at lsb lines p)
      pair-back =
          let n = escapes_at lines p in
          let symbols = sent_pair lookup frequencies t (first_of lines p) (second_of lines p) in
          let lows = lows_from lsb (2 * p) (first_of lines p) (second_of lines p) 0 n in
          subst (λ (bits : List Bit). Back f bytes short At (read_pair lookup frequencies standard lsb p t) symbols bits (pair_at lsb lines p)) (sym (append_assoc lows (sign_at lsb n lines (2 * p)) (sign_at lsb n lines (2 * p + 1))))
          (subst (λ (xs : List Sent). Back f bytes short At (read_pair lookup frequencies standard lsb p t) xs (lows ++ (sign_at lsb n lines (2 * p) ++ sign_at lsb n lines (2 * p + 1))) (pair_at lsb lines p)) (append-nil symbols)
          (back-onward f bytes short At (read_levels lookup frequencies standard lsb p t 14 0 0 0) (signs_by p) whole-levels signs-back))

module _ (f : List ℕ) (bytes : Bytes f) (short : length f ≤ 65535) (lookup frequencies : List ℕ) (standard lsb : Bool) (rate ne : ℕ) (lines : List ℤ) (modest : Modest lines) where
  pub pairs-given : (end p n context : ℕ) → p + n ≤ end →
      Back f bytes short (asked lines end) (read_pairs lookup frequencies standard lsb rate ne p n context) (sent_pairs lookup frequencies rate ne lines p n context) (pairs_bits lsb lines p n) (pairs_of lsb lines p n)
  unfolding read_pairs sent_pairs pairs_bits pairs_of
  pairs-given end p zero context h = back_done f bytes short (asked lines end) []
  pairs-given end p (suc n) context h =
      let a = magnitude_at lines (2 * p) in
      let b = magnitude_at lines (2 * p + 1) in
      back-onward f bytes short (asked lines end) (read_pair lookup frequencies standard lsb p (lookup_start context rate ne (2 * p))) _
      (pair-back f bytes short (asked lines end) lsb lines modest p (λ level l. (omega arith, l)) lookup frequencies standard (lookup_start context rate ne (2 * p)))
      (back_last f bytes short (asked lines end) (read_pairs lookup frequencies standard lsb rate ne (p + 1) n _) (λ rest. pair_at lsb lines p ∷ rest)
      (subst (λ (q : ℕ). Back f bytes short (asked lines end) (read_pairs lookup frequencies standard lsb rate ne (p + 1) n q) (sent_pairs lookup frequencies rate ne lines (p + 1) n (context_behind context a b)) (pairs_bits lsb lines (p + 1) n) (pairs_of lsb lines (p + 1) n))
      (sym (context-back lines modest p context)) (pairs-given end (p + 1) n (context_behind context a b) (omega arith))))

  -- the stage on a frame that holds its symbols, whatever symbols follow, and its bits, as far as these have room
  pub pairs-came : (i : Interval) (tail : ℕ) (rest : List Sent) (p n context : ℕ) →
      let xs = sent_pairs lookup frequencies rate ne lines p n context in
      let bits = pairs_bits lsb lines p n in
      Holding f i tail (xs ++ rest) bits →
      Came (asked lines (p + n)) (Room f i tail (xs ++ rest) bits)
      (read_pairs lookup frequencies standard lsb rate ne p n context (state_at f 0 i) f (place_at i tail))
      (accepted (record { value = pairs_of lsb lines p n; state = state_at f 0 (behind i xs) }, place_at (behind i xs) (tail + length bits)))
  pairs-came i tail rest p n context h =
      let xs = sent_pairs lookup frequencies rate ne lines p n context in
      let bits = pairs_bits lsb lines p n in
      subst (λ (bs : List Bit). Came (asked lines (p + n)) (Room f i tail (xs ++ rest) bs) (read_pairs lookup frequencies standard lsb rate ne p n context (state_at f 0 i) f (place_at i tail)) (accepted (record { value = pairs_of lsb lines p n; state = state_at f 0 (behind i xs) }, place_at (behind i xs) (tail + length bits)))) (append-nil bits)
      ((pairs-given (p + n) p n context (omega arith)).at i tail rest [] (subst (Holding f i tail (xs ++ rest)) (sym (append-nil bits)) h))

  pub pairs-back : (i : Interval) (tail : ℕ) (rest : List Sent) (p n context : ℕ) →
      let xs = sent_pairs lookup frequencies rate ne lines p n context in
      let bits = pairs_bits lsb lines p n in
      Holding f i tail (xs ++ rest) bits → 8 * (behind i (xs ++ rest)).shifts + tail + length bits + 2 ≤ 8 * length f →
      read_pairs lookup frequencies standard lsb rate ne p n context (state_at f 0 i) f (place_at i tail)
      ≡ accepted (record { value = pairs_of lsb lines p n; state = state_at f 0 (behind i xs) }, place_at (behind i xs) (tail + length bits))
  pairs-back i tail rest p n context h room = came-whole (pairs-came i tail rest p n context h) (λ some. room)
