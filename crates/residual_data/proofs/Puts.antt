-- What is put late: bits behind one another before an end are cut as one list, and the residual list's bits have its low bits in order.
-- Assumes nothing.
use Rattle.std.proofs.Common.{◌≡◌, ℕ, zero, suc, ◌+◌, ◌-◌, ◌*◌, ◌%◌, ◌<◌, ◌≤◌, min, Bool, true, false, eqb, ltb, List, [], ◌∷◌, ◌++◌, map, length, get_or, take, ℤ, nat_abs, sym, refl, ap, ◌∙◌, append_assoc, append-nil, add-zero, add-one, arith, length-append, length-take, length-take-le, take_all, take-suc, eq-eqb, ne_eqb, eqb-true}
use borrow.Author.Tests.{eqb-false}
use lib.ListN.{length-map, get_or-map}
use lib.Seq.{take-nil}
use Rattle.common.proofs.Bools.{by-test}
use Rattle.buffer_writer.specs.Writes.{put_bit}
use Rattle.contexts.specs.Lines.{line_at, magnitude_at, minus, escapes_at}
use Rattle.contexts.proofs.Magnitudes.{minus-low}
use Rattle.sending.specs.Sending.{Bit, side, residual, lowest, late_sign, owned, put_bits}
use Rattle.sending.specs.Private.{AllBits, no_bits, more-bits}
use Rattle.sending.proofs.Puts.{put-append, put-all-one}
use Rattle.sending.proofs.Stands.{bits-append}
use Rattle.residual_data.specs.Residual.{nonzero}
use Rattle.residual_data.specs.Sent.{residual_bits, late_at, late_pair, late_pairs}
use Rattle.residual_data.specs.Private.{Cut}

-- the front of two lists is the first's, and of the second what the first leaves room for
pub take-append : (n : ℕ) (xs ys : List Bit) → take n (xs ++ ys) ≡ take n xs ++ take (n - length (take n xs)) ys
take-append zero xs ys = refl
take-append (suc n) [] ys = let e : suc n - 0 ≡ suc n = omega arith in rw e refl
take-append (suc n) (x ∷ xs) ys =
    let e : suc n - suc (length (take n xs)) ≡ n - length (take n xs) = omega arith in
    rw (e, take-append n xs ys) refl

take-most : (n : ℕ) (xs : List Bit) → length (take n xs) ≤ n
take-most n xs = omega (arith, length-take n xs)

-- bits before an end: the place behind them, and the buffer's length
pub cut_most : {f : List ℕ} {at end n : ℕ} {g : List ℕ} (bits : List Bit) → at ≤ end → Cut f at end bits n g → n ≤ end
cut_most {at = at} {end = end} bits h c = omega (arith, take-most (end - at) bits, c.place)

-- a list behind another
pub cut-behind : {f : List ℕ} {at end n m : ℕ} {g h : List ℕ} (xs ys : List Bit) → at ≤ end → Cut f at end xs n g → Cut g n end ys m h → Cut f at end (xs ++ ys) m h
cut-behind {f} {at} {end} {n} xs ys before x y =
    let left : end - at - length (take (end - at) xs) ≡ end - n = omega (arith, x.place) in
    let parts : take (end - at) (xs ++ ys) ≡ take (end - at) xs ++ take (end - n) ys = take-append (end - at) xs ys ∙ rw left refl in
    record {
      place = rw parts (omega (arith, x.place, y.place, length-append (take (end - at) xs) (take (end - n) ys)));
      lent = rw (parts, put-append, ← x.lent, ← x.place) y.lent;
    }

module _ (f : List ℕ) (at end : ℕ) where
  pub cut-none : Cut f at end [] at f
  unfolding put_bits
  cut-none = let e = take-nil {A = Bit} (end - at) in record { place = rw e (omega arith); lent = rw e refl }

  -- one bit, with no room and with room
  module _ (b : Bit) where
    pub cut-full : at ≡ end → Cut f at end (b ∷ []) at f
    unfolding put_bits
    cut-full e = let z : end - at ≡ 0 = omega arith in record { place = rw z (omega arith); lent = rw z refl }

    pub cut-room : at < end → Cut f at end (b ∷ []) (at + 1) (put_bit f at b.value)
    unfolding put_bits
    cut-room h =
        let z : end - at ≡ suc (end - at - 1) = omega arith in
        let e = take-nil {A = Bit} (end - at - 1) in
        record { place = rw (z, e) refl; lent = rw (z, e) refl }

-- a line's late bits: the lowest alone, or with the sign of a magnitude 1
module _ (lines : List ℤ) (k m : ℕ) (e : m ≡ magnitude_at lines k) where
  pub late-alone : (m ≡ 1 → ⊥) → late_at lines k ≡ owned (lowest k) (m % 2) ∷ []
  late-alone h = rw (← e, ne_eqb m 1 h) refl

  pub late-signed : m ≡ 1 → late_at lines k ≡ owned (lowest k) (m % 2) ∷ owned (late_sign k) (minus (line_at lines k)) ∷ []
  late-signed h = rw (← e, eq-eqb m 1 h) refl

-- one pair more
pub late-none : (lines : List ℤ) (p : ℕ) → late_pairs lines p 0 ≡ []
unfolding late_pairs
late-none lines p = refl

pub late-more : (lines : List ℤ) (p n : ℕ) → late_pairs lines p (n + 1) ≡ late_pairs lines p n ++ late_pair lines (p + n)
unfolding late_pairs
late-more lines p zero = rw (add-zero p) (append-nil (late_pair lines p))
late-more lines p (suc n) =
    let at : p + 1 + n ≡ p + suc n = omega arith in
    let more : suc n + 1 ≡ suc (n + 1) = omega arith in
    rw (more, late-more lines (p + 1) n, at, append_assoc) refl

-- where there are lines enough, the residual list's bits are its low bits in order
pub residual-values : (k : ℕ) (lines : List ℤ) (bits : List ℕ) → length bits ≤ nonzero lines → map (λ (b : Bit). b.value) (residual_bits k lines bits) ≡ map (λ (b : ℕ). b % 2) bits
unfolding residual_bits nonzero
residual-values k [] [] h = refl
residual-values k [] (b ∷ bits) h = absurd (omega arith)
residual-values k (x ∷ xs) [] h = refl
residual-values k (x ∷ xs) (b ∷ bits) h =
    by-test (eqb (nat_abs x) 0)
    (λ e. rw e (residual-values (k + 1) xs (b ∷ bits) (omega (arith, rw e at h))))
    (λ e. rw e (ap (λ l. b % 2 ∷ l) (residual-values (k + 1) xs bits (omega (arith, rw e at h)))))

module _ (lines : List ℤ) (bits : List ℕ) (enough : length bits ≤ nonzero lines) where
  abbrev all : List Bit
  all = residual_bits 0 lines bits

  pub residual-count : length all ≡ length bits
  residual-count = sym (length-map all (λ (b : Bit). b.value)) ∙ ap length (residual-values 0 lines bits enough) ∙ length-map bits (λ (b : ℕ). b % 2)

  residual-at : (i : ℕ) → (get_or all i (owned side 0)).value ≡ get_or bits i 0 % 2
  residual-at i =
      sym (get_or-map (λ (b : Bit). b.value) all i (owned side 0)) ∙
      ap (λ (l : List ℕ). get_or l i 0) (residual-values 0 lines bits enough) ∙
      get_or-map (λ (b : ℕ). b % 2) bits i 0

  -- one bit more of it
  pub residual-turn : (f : List ℕ) (place i : ℕ) → i < length bits → put_bits f place (take (i + 1) all) ≡ put_bit (put_bits f place (take i all)) (place + i) (get_or bits i 0 % 2)
  residual-turn f place i h =
      let there : i < length all = omega (arith, residual-count) in
      let size : length (take i all) ≡ i = length-take-le i all (omega arith) in
      rw (add-one, take-suc all i (owned side 0) there, put-append, size, ← residual-at i) (put-all-one true (put_bits f place (take i all)) (place + i) (get_or all i (owned side 0)))

  -- as much of it as the smaller of room and list is as much as the room
  pub residual-cut : (room : ℕ) → take (min room (length bits)) all ≡ take room all
  residual-cut room = go (eqb room (min room (length bits))) refl
    where
      go : (b : Bool) → eqb room (min room (length bits)) ≡ b → take (min room (length bits)) all ≡ take room all
      go true e = rw (← eqb-true room (min room (length bits)) e) refl
      go false e =
          let ne = eqb-false room (min room (length bits)) e in
          let size : min room (length bits) ≡ length bits = omega (arith, ne) in
          rw size (take_all (length bits) all (omega (arith, residual-count)) ∙ sym (take_all room all (omega (arith, ne, residual-count))))

-- each late bit is 0 or 1
pub residual-bits-low : (k : ℕ) (lines : List ℤ) (bits : List ℕ) → AllBits (residual_bits k lines bits)
unfolding residual_bits
residual-bits-low k [] bits = no_bits
residual-bits-low k (x ∷ xs) [] = no_bits
residual-bits-low k (x ∷ xs) (b ∷ bits) =
    by-test (eqb (nat_abs x) 0)
    (λ e. rw e (residual-bits-low (k + 1) xs (b ∷ bits)))
    (λ e. rw e (more-bits {b = owned (residual k) (b % 2)} (omega arith) (residual-bits-low (k + 1) xs bits)))

line-bits-low : (lines : List ℤ) (k : ℕ) → AllBits (late_at lines k)
line-bits-low lines k =
    by-test (eqb (magnitude_at lines k) 1)
    (λ e. rw e (more-bits {b = owned (lowest k) (magnitude_at lines k % 2)} (omega arith) (more-bits {b = owned (late_sign k) (minus (line_at lines k))} (minus-low (line_at lines k)) no_bits)))
    (λ e. rw e (more-bits {b = owned (lowest k) (magnitude_at lines k % 2)} (omega arith) no_bits))

pair-bits-low : (lines : List ℤ) (p : ℕ) → AllBits (late_pair lines p)
pair-bits-low lines p =
    by-test (ltb 0 (escapes_at lines p))
    (λ e. rw e (bits-append (late_at lines (2 * p)) (late_at lines (2 * p + 1)) (line-bits-low lines (2 * p)) (line-bits-low lines (2 * p + 1))))
    (λ e. rw e no_bits)

pub late-bits-low : (lines : List ℤ) (p n : ℕ) → AllBits (late_pairs lines p n)
unfolding late_pairs
late-bits-low lines p zero = no_bits
late-bits-low lines p (suc n) = bits-append (late_pair lines p) (late_pairs lines (p + 1) n) (pair-bits-low lines p) (late-bits-low lines (p + 1) n)
