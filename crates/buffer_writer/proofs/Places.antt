-- What was written at a place is what the reader's definition finds there, and a write at other places does not disturb it:
-- over the width of a field, and for head bytes where they share no bit with the tail. Assumes nothing.
use Prim.Native.Nat.{ℕ, zero, suc, ◌+◌, ◌-◌, ◌*◌, ◌/◌, ◌%◌, ◌^◌, ◌≤◌, ◌<◌}
use mathlib.Core.Path.{◌≡◌, refl, sym, ap, ◌∙◌}
use mathlib.Core.List.{List}
use mathlib.Core.Logic.{◌⊎◌, inl, inr, ⊎_elim}
use native.Mathlib.Omega.{arith}
use native.Mathlib.Decide.{dec_lt, ℕ_discrete}
use lib.ListN.{length, get_or, set, length-set}
use lib.Seq.{get_or-set_same, get_or-set_other, set_out}
use Rattle.buffer_reader.specs.Tail.{tail_byte, tail_bit, field, Bytes}
use Rattle.buffer_reader.proofs.Tails.{field-none, field-more, field-agrees, cut-more, tail-byte-there, tail-byte-fits}
use Rattle.buffer_writer.specs.Writes.{with_bit, put_bit, put_field}
use Rattle.buffer_writer.proofs.Bytes.{with-bit-lt, with-bit-same, with-bit-other}

-- bytes stay bytes where one is set
pub set-bytes : (f : List ℕ) (p v : ℕ) → v < 256 → Bytes f → Bytes (set f p v)
set-bytes f p v h bytes i = go (ℕ_discrete i p) (dec_lt p (length f))
  where
    go : Dec (i ≡ p) → Dec (p < length f) → get_or (set f p v) i 0 < 256
    go (yes e) (yes l) = rw (e, get_or-set_same f p v 0 l) h
    go (yes e) (no l) = rw (set_out f p v (omega (arith, l))) (bytes i)
    go (no e) d = rw (get_or-set_other f p i v 0 e) (bytes i)

-- a byte that is not at the place stays, and so does its bit
pub byte-kept : (f : List ℕ) (p v j : ℕ) → (length f - 1 - j / 8 ≡ p → ⊥) → tail_bit (set f p v) j ≡ tail_bit f j
byte-kept f p v j ne = rw (length-set f p v, get_or-set_other f p (length f - 1 - j / 8) v 0 ne) refl

-- the bits of the byte at the place are those of what was put there
pub byte_put : (f : List ℕ) (p v j : ℕ) → j / 8 < length f → length f - 1 - j / 8 ≡ p → tail_bit (set f p v) j ≡ v / 2 ^ (j % 8) % 2
byte_put f p v j h e =
    let there : j / 8 < length (set f p v) = rw (length-set f p v) h in
    rw (tail-byte-there (set f p v) (j / 8) there, length-set f p v, e, get_or-set_same f p v 0 (omega arith)) refl

module _ (f : List ℕ) (i bit : ℕ) (inside : i < 8 * length f) (b : bit < 2) where
  pub put_same : tail_bit (put_bit f i bit) i ≡ bit
  put_same = byte_put f (length f - 1 - i / 8) _ i (omega arith) refl ∙ with-bit-same (tail_byte f (i / 8)) (i % 8) bit b

  pub put_other : (j : ℕ) → j < 8 * length f → (j ≡ i → ⊥) → tail_bit (put_bit f i bit) j ≡ tail_bit f j
  put_other j h ne = go (ℕ_discrete (j / 8) (i / 8))
    where
      go : Dec (j / 8 ≡ i / 8) → tail_bit (put_bit f i bit) j ≡ tail_bit f j
      go (yes e) =
          byte_put f (length f - 1 - i / 8) _ j (omega arith) (ap (λ (q : ℕ). length f - 1 - q) e) ∙
          with-bit-other (tail_byte f (i / 8)) (i % 8) bit (j % 8) b (λ q. ne (omega arith)) ∙
          ap (λ (q : ℕ). tail_byte f q / 2 ^ (j % 8) % 2) (sym e)
      go (no e) = byte-kept f (length f - 1 - i / 8) _ j (λ q. e (omega arith))

  pub put-bytes : Bytes f → Bytes (put_bit f i bit)
  put-bytes bytes =
      set-bytes f (length f - 1 - i / 8) _ (with-bit-lt (tail_byte f (i / 8)) (i % 8) bit (tail-byte-fits f (i / 8) bytes) (omega arith) b) bytes

pub put-length : (f : List ℕ) (i bit : ℕ) → length (put_bit f i bit) ≡ length f
put-length f i bit = length-set f (length f - 1 - i / 8) (with_bit (tail_byte f (i / 8)) (i % 8) bit)

-- a field
pub put-none : (f : List ℕ) (i v : ℕ) → put_field f i v 0 ≡ f
unfolding put_field
put-none f i v = refl

pub put-more : (f : List ℕ) (i v n : ℕ) → put_field f i v (suc n) ≡ put_field (put_bit f i (v % 2)) (i + 1) (v / 2) n
unfolding put_field
put-more f i v n = refl

pub put-turn : (f : List ℕ) (i v left : ℕ) → 0 < left → put_field f i v left ≡ put_field (put_bit f i (v % 2)) (i + 1) (v / 2) (left - 1)
put-turn f i v zero h = absurd (omega arith)
put-turn f i v (suc n) h = let e : suc n - 1 ≡ n = omega arith in rw (put-more f i v n, e) refl

pub put-field-length : (f : List ℕ) (i v n : ℕ) → length (put_field f i v n) ≡ length f
put-field-length f i v zero = ap length (put-none f i v)
put-field-length f i v (suc n) =
    ap length (put-more f i v n) ∙ put-field-length (put_bit f i (v % 2)) (i + 1) (v / 2) n ∙ put-length f i (v % 2)

pub put-field-bytes : (f : List ℕ) (i v n : ℕ) → i + n ≤ 8 * length f → Bytes f → Bytes (put_field f i v n)
put-field-bytes f i v zero h bytes = λ k. rw (put-none f i v) (bytes k)
put-field-bytes f i v (suc n) h bytes =
    λ k. rw (put-more f i v n) (put-field-bytes (put_bit f i (v % 2)) (i + 1) (v / 2) n (rw (put-length f i (v % 2)) (omega arith)) (put-bytes f i (v % 2) (omega arith) (omega arith) bytes) k)

-- every other bit is what it was
pub put-field-other : (f : List ℕ) (i v n j : ℕ) → i + n ≤ 8 * length f → j < 8 * length f → (j < i) ⊎ (i + n ≤ j) → tail_bit (put_field f i v n) j ≡ tail_bit f j
put-field-other f i v zero j h l out = ap (λ g. tail_bit g j) (put-none f i v)
put-field-other f i v (suc n) j h l out =
    ap (λ g. tail_bit g j) (put-more f i v n) ∙
    put-field-other (put_bit f i (v % 2)) (i + 1) (v / 2) n j (rw (put-length f i (v % 2)) (omega arith)) (rw (put-length f i (v % 2)) l) (⊎_elim (λ a. inl (omega arith)) (λ a. inr (omega arith)) out) ∙
    put_other f i (v % 2) (omega arith) (omega arith) j l (λ e. ⊎_elim (λ a. omega arith) (λ a. omega arith) out)

-- the field at its own place is the value's low bits
pub put-field-same : (f : List ℕ) (i v n : ℕ) → i + n ≤ 8 * length f → field (put_field f i v n) i n ≡ v % 2 ^ n
put-field-same f i v zero h = rw (field-none (put_field f i v 0) i) (omega arith)
put-field-same f i v (suc n) h =
    let g = put_bit f i (v % 2) in
    let room : i + 1 + n ≤ 8 * length g = rw (put-length f i (v % 2)) (omega arith) in
    let first : tail_bit (put_field g (i + 1) (v / 2) n) i ≡ v % 2 =
    put-field-other g (i + 1) (v / 2) n i room (rw (put-length f i (v % 2)) (omega arith)) (inl (omega arith)) ∙ put_same f i (v % 2) (omega arith) (omega arith) in
    let rest : field (put_field g (i + 1) (v / 2) n) (i + 1) n ≡ v / 2 % 2 ^ n = put-field-same g (i + 1) (v / 2) n room in
    rw (put-more f i v n, field-more (put_field g (i + 1) (v / 2) n) i n, first, rest, cut-more v n) refl

-- a field at places apart is what it was
pub put-field-apart : (f : List ℕ) (i v n j m : ℕ) → i + n ≤ 8 * length f → j + m ≤ 8 * length f → (j + m ≤ i) ⊎ (i + n ≤ j) → field (put_field f i v n) j m ≡ field f j m
put-field-apart f i v n j m h l out =
    field-agrees (put_field f i v n) f j m (λ k q. put-field-other f i v n (j + k) h (omega arith) (⊎_elim (λ a. inl (omega arith)) (λ a. inr (omega arith)) out))
