-- A frame that has some bits as they were written: where these are the head's own, it begins with them, since bytes with the same bits are
-- the same; and the bits of each owner that is spared stand at its tail. Assumes nothing.
use Prim.Native.Nat.{ℕ, zero, suc, ◌+◌, ◌-◌, ◌*◌, ◌/◌, ◌%◌, ◌^◌, ◌≤◌, ◌<◌}
use mathlib.Core.Path.{◌≡◌, refl, sym, ap, ◌∙◌}
use mathlib.Core.Bool.{Bool, true, cond}
use mathlib.Core.List.{List, [], ◌∷◌}
use native.Mathlib.Omega.{arith}
use native.Mathlib.Nat.{add-zero, zero-add, div-eq_of_lt}
use borrow.Author.Tests.{lt-ltb, le-ltb}
use lib.Dec.{ltb}
use lib.ListN.{length, get_or}
use lib.Pow.{shr-shr}
use Rattle.buffer_reader.specs.Tail.{tail_bit, Bytes}
use Rattle.buffer_reader.proofs.Tails.{tail-bit-there}
use Rattle.range_encoder.proofs.OwnBytes.{own-bytes, own-last-byte}
use Rattle.range_encoder.specs.Encoder.{start_encoder}
use Rattle.range_encoder.specs.Interval.{Sent}
use Rattle.range_encoder.specs.Runs.{AllPass, state_behind, own_bytes, own_last, own_bits, own_length}
use Rattle.range_encoder.specs.Theory.{Begins}
use Rattle.range_encoder.proofs.Carry.{sound-start, sound-behind}
use Rattle.range_encoder.proofs.Finishes.{last-bits}
use Rattle.side_info.specs.Layout.{value, width}
use Rattle.side_info.specs.declared.writer.Field.{Field}
use Rattle.sending.specs.Sending.{Owner, Bit, side, Stands}
use Rattle.sending.proofs.Stands.{stands-behind, StandFor, stand-for-append}
use Rattle.frame_writer.specs.Frame.{field_bits, fields_bits}
use Rattle.frame_writer.specs.Whose.{Whose, head, tail, Place, own_bit, in_tail, place_of}
use Rattle.frame_writer.proofs.Owners.{behind-tail}
use Rattle.frame_writer.proofs.Placed.{placed-for}

-- ---- bytes by their bits

-- two numbers with the same bits from a place on
top-same : (n cut x y : ℕ) → x < 2 ^ (cut + n) → y < 2 ^ (cut + n) → ((k : ℕ) → cut ≤ k → k < cut + n → x / 2 ^ k % 2 ≡ y / 2 ^ k % 2) → x / 2 ^ cut ≡ y / 2 ^ cut
top-same zero cut x y p q same =
    div-eq_of_lt (rw (add-zero cut) at p) ∙ sym (div-eq_of_lt (rw (add-zero cut) at q))
top-same (suc n) cut x y p q same =
    let more : cut + suc n ≡ cut + 1 + n = omega arith in
    let rest = top-same n (cut + 1) x y (rw more at p) (rw more at q) (λ k l m. same k (omega (arith, l)) (omega (arith, m))) in
    omega (arith, rest, same cut (omega arith) (omega arith), shr-shr x cut 1, shr-shr y cut 1)

-- bytes that have the same top bits
byte-top : (cut x y : ℕ) → cut ≤ 8 → x < 256 → y < 256 → ((k : ℕ) → cut ≤ k → k < 8 → x / 2 ^ k % 2 ≡ y / 2 ^ k % 2) → x / 2 ^ cut ≡ y / 2 ^ cut
byte-top cut x y few p q same =
    let whole : cut + (8 - cut) ≡ 8 = omega arith in
    top-same (8 - cut) cut x y (rw whole p) (rw whole q) (λ k l m. same k l (omega (arith, m)))

-- ---- the head

module _ (spared : Whose → Bool) (symbols : List Sent) (bits : List Bit) (g : List ℕ) where
  -- it has the bits of those that are spared
  abbrev pub Held : Type 0
  Held =
      (i : ℕ) → i < 8 * length g → spared (place_of 1 (8 * length g) symbols bits i).whose ≡ true → tail_bit g i ≡ (place_of 1 (8 * length g) symbols bits i).bit

module _ (symbols : List Sent) (all : AllPass symbols) (g : List ℕ) (bytes : Bytes g) (own : (j : ℕ) → j < own_length 1 symbols → get_or g (j / 8) 0 / 2 ^ (7 - j % 8) % 2 ≡ own_bit 1 symbols j) where
  abbrev count : ℕ
  count = length (own_bytes 1 symbols)

  own-some : (1 ≤ own_bits 1 symbols) × (own_bits 1 symbols ≤ 8)
  own-some = last-bits 1 (state_behind start_encoder symbols) (sound-behind start_encoder symbols sound-start all)

  -- bit k of byte b
  at-bit : (b k : ℕ) → k < 8 → 8 * b + (7 - k) < own_length 1 symbols → get_or g b 0 / 2 ^ k % 2 ≡ cond (ltb b count) (get_or (own_bytes 1 symbols) b 0) (own_last 1 symbols) / 2 ^ k % 2
  at-bit b k l h =
      let byte : (8 * b + (7 - k)) / 8 ≡ b = omega arith in
      let place : 7 - (8 * b + (7 - k)) % 8 ≡ k = omega arith in
      rw (byte, place) at (own (8 * b + (7 - k)) h)

  begins : Begins g 0 symbols
  begins =
      record {
        same = λ b l.
            let e : 0 + b ≡ b = zero-add b in
            rw e (omega (
              arith,
              byte-top 0 (get_or g b 0) (get_or (own_bytes 1 symbols) b 0) (omega arith) (bytes b) (own-bytes 1 symbols all b)
                  (λ k a m. rw (lt-ltb b count l) at (at-bit b k m (omega (arith, l)))),
            ));
        top =
            rw (zero-add count)
            (byte-top (8 - own_bits 1 symbols) (get_or g count 0) (own_last 1 symbols) (omega arith) (bytes count) (own-last-byte 1 symbols all)
            (λ k a m. rw (le-ltb count count (omega arith)) at (at-bit count k m (omega (arith, own-some, a)))));
      }

module _ (spared : Whose → Bool) (symbols : List Sent) (bits : List Bit) (g : List ℕ) (held : Held spared symbols bits g) where
  pub held-begins : AllPass symbols → Bytes g → ((j : ℕ) → spared (head j) ≡ true) → length bits + own_length 1 symbols ≤ 8 * length g → Begins g 0 symbols
  held-begins all bytes heads room =
      begins symbols all g bytes
      (λ j l.
      let i : ℕ = 8 * length g - 1 - j in
      let back : 8 * length g - 1 - i ≡ j = omega (arith, room, l) in
      let place : place_of 1 (8 * length g) symbols bits i ≡ record { whose = head j; bit = own_bit 1 symbols j } =
      rw (behind-tail bits i _ (omega (arith, room, l)), back, lt-ltb j (own_length 1 symbols) l) refl in
      let byte : length g - 1 - i / 8 ≡ j / 8 = omega (arith, room, l) in
      let power : i % 8 ≡ 7 - j % 8 = omega (arith, room, l) in
      let there = tail-bit-there g i (omega (arith, room, l)) in
      let is = held i (omega (arith, room, l)) (rw place (heads j)) in
      rw (byte, power) at (sym there ∙ is ∙ ap (λ (p : Place). p.bit) place))

-- ---- the tail

pub held-tail : (spared : Whose → Bool) (symbols : List Sent) (bits : List Bit) (g : List ℕ) → Held spared symbols bits g → length bits ≤ 8 * length g → StandFor (λ o. spared (tail o)) g 0 bits
unfolding in_tail
held-tail spared symbols bits g held room =
    placed-for spared g 0 bits (λ j. place_of 1 (8 * length g) symbols [] j) (λ j l. rw (zero-add j) (held j (omega (arith, room, l))))

-- the side information's bits are all its own
field-spared : (spared : Owner → Bool) → spared side ≡ true → (f : List ℕ) (i v n : ℕ) → StandFor spared f i (field_bits v n) → Stands f i (field_bits v n)
unfolding StandFor Stands field_bits
field-spared spared all f i v zero h = tt
field-spared spared all f i v (suc n) h = (h.0 all, field-spared spared all f (i + 1) (v / 2) n h.1)

pub fields-spared : (spared : Owner → Bool) → spared side ≡ true → (f : List ℕ) (i : ℕ) (fields : List Field) → StandFor spared f i (fields_bits fields) → Stands f i (fields_bits fields)
unfolding Stands fields_bits
fields-spared spared all f i [] h = tt
fields-spared spared all f i (field ∷ fields) h =
    let bits = field_bits (value field) (width field) in
    let parts = stand-for-append spared f i bits (fields_bits fields) h in
    stands-behind f i bits (fields_bits fields) (field-spared spared all f i (value field) (width field) parts.0) (fields-spared spared all f (i + length bits) fields parts.1)
