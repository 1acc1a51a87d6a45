-- The laws of a field, over its width: it is its bits, it is below 2 to its width, n bits then m bits are n + m bits, and it
-- depends on the bits at its places alone. Assumes nothing.
use Prim.Native.Nat.{ℕ, zero, suc, ◌+◌, ◌-◌, ◌*◌, ◌/◌, ◌%◌, ◌^◌, ◌≤◌, ◌<◌}
use mathlib.Core.Path.{◌≡◌, refl, ap, ◌∙◌}
use mathlib.Core.List.{List}
use native.Mathlib.Omega.{arith}
use native.Mathlib.Nat.{add-zero, zero-add, add_assoc, mul_assoc, pow-succ', pow-suc, two-pow-succ, one-mul, add_comm, add-mul-div_right, add-mul-mod_self_right}
use lib.Pow.{pow_pos, pow-add, shr-shr, mod-pow-add}
use borrow.Author.Tests.{lt-ltb, le-ltb}
use lib.Dec.{ltb}
use lib.ListN.{length, get_or}
use Rattle.common.proofs.Bools.{by-test}
use Rattle.buffer_reader.specs.Tail.{tail_byte, tail_bit, field, Bytes}

-- a byte that is there, and zeros past the first
pub tail-byte-there : (f : List ℕ) (j : ℕ) → j < length f → tail_byte f j ≡ get_or f (length f - 1 - j) 0
tail-byte-there f j h = rw (lt-ltb j (length f) h) refl

pub tail-byte-past : (f : List ℕ) (j : ℕ) → length f ≤ j → tail_byte f j ≡ 0
tail-byte-past f j h = rw (le-ltb j (length f) h) refl

pub tail-byte-fits : (f : List ℕ) (j : ℕ) → Bytes f → tail_byte f j < 256
tail-byte-fits f j bytes =
    by-test (ltb j (length f)) (λ e. rw e (bytes (length f - 1 - j))) (λ e. rw e (omega arith))

-- a bit that is there, by its byte's place from the start
pub tail-bit-there : (f : List ℕ) (i : ℕ) → i / 8 < length f → tail_bit f i ≡ get_or f (length f - 1 - i / 8) 0 / 2 ^ (i % 8) % 2
tail-bit-there f i h = ap (λ (b : ℕ). b / 2 ^ (i % 8) % 2) (tail-byte-there f (i / 8) h)

pub bit-lt : (f : List ℕ) (i : ℕ) → tail_bit f i < 2
bit-lt f i = omega arith

pub field-none : (f : List ℕ) (i : ℕ) → field f i 0 ≡ 0
unfolding field
field-none f i = refl

-- the first bit, then the rest
pub field-more : (f : List ℕ) (i n : ℕ) → field f i (suc n) ≡ tail_bit f i + 2 * field f (i + 1) n
unfolding field
field-more f i n = refl

pub field-one : (f : List ℕ) (i : ℕ) → field f i 1 ≡ tail_bit f i
field-one f i = rw (field-more f i 0, field-none f (i + 1)) (omega arith)

pub field_lt : (f : List ℕ) (i n : ℕ) → field f i n < 2 ^ n
field_lt f i zero = rw field-none (omega arith)
field_lt f i (suc n) = rw field-more (omega (arith, two-pow-succ n, field_lt f (i + 1) n, bit-lt f i))

-- a field is its bits: the bit at place k of the number is the one at tail place i + k
pub field-bit : (f : List ℕ) (i n k : ℕ) → k < n → field f i n / 2 ^ k % 2 ≡ tail_bit f (i + k)
field-bit f i zero k h = absurd (omega arith)
field-bit f i (suc n) zero h = rw (field-more f i n, add-zero i) (omega (arith, bit-lt f i))
field-bit f i (suc n) (suc k) h =
    let half : field f i (suc n) / 2 ≡ field f (i + 1) n = omega (arith, field-more f i n, bit-lt f i) in
    let at : i + 1 + k ≡ i + (1 + k) = omega arith in
    let place : 1 + k ≡ suc k = omega arith in
    rw (← place, ← shr-shr (field f i (suc n)) 1 k, half, ← at) (field-bit f (i + 1) n k (omega arith))

-- n bits, then m bits
pub field-add : (f : List ℕ) (i n m : ℕ) → field f i (n + m) ≡ field f i n + 2 ^ n * field f (i + n) m
field-add f i zero m = rw (zero-add m, field-none f i, add-zero i, one-mul, zero-add) refl
field-add f i (suc n) m =
    let width : suc n + m ≡ suc (n + m) = omega arith in
    let at : i + 1 + n ≡ i + suc n = omega arith in
    let ih : field f (i + 1) (n + m) ≡ field f (i + 1) n + 2 ^ n * field f (i + suc n) m = rw at at (field-add f (i + 1) n m) in
    let twice : 2 ^ suc n * field f (i + suc n) m ≡ 2 * (2 ^ n * field f (i + suc n) m) = rw (pow-succ' 2 n, mul_assoc) refl in
    rw (width, field-more f i (n + m), field-more f i n, ih, twice) (omega arith)

-- two frames that agree on the places of a field have the same field there
pub field-agrees : (f g : List ℕ) (i n : ℕ) → ((k : ℕ) → k < n → tail_bit f (i + k) ≡ tail_bit g (i + k)) → field f i n ≡ field g i n
field-agrees f g i zero same = rw (field-none f i, field-none g i) refl
field-agrees f g i (suc n) same =
    let first : tail_bit f i ≡ tail_bit g i = rw (add-zero i) at (same 0 (omega arith)) in
    let rest : field f (i + 1) n ≡ field g (i + 1) n = field-agrees f g (i + 1) n (λ k h. rw (add_assoc i 1 k) (same (1 + k) (omega arith))) in
    rw (field-more f i n, field-more g i n, first, rest) refl

-- the number of a field's width that the higher bits leave
pub cut-more : (m n : ℕ) → m % 2 ^ suc n ≡ m % 2 + 2 * (m / 2 % 2 ^ n)
cut-more m n =
    let width : suc n ≡ n + 1 = omega arith in
    rw width (omega (arith, mod-pow-add m n 1))

-- what stands from bit k on does not reach the bits below k
pub bit_below : (m k r j : ℕ) → j < k → (m * 2 ^ k + r) / 2 ^ j % 2 ≡ r / 2 ^ j % 2
bit_below m k r j h =
    let whole : k ≡ suc (k - 1 - j) + j = omega arith in
    let parts : m * 2 ^ k ≡ m * 2 ^ (k - 1 - j) * 2 * 2 ^ j =
    ap (λ (x : ℕ). m * 2 ^ x) whole ∙
    rw (pow-add 2 (suc (k - 1 - j)) j, pow-suc 2 (k - 1 - j), ← mul_assoc m (2 ^ (k - 1 - j) * 2) (2 ^ j), ← mul_assoc m (2 ^ (k - 1 - j)) 2) refl in
    rw (parts, add_comm (m * 2 ^ (k - 1 - j) * 2 * 2 ^ j) r, add-mul-div_right r (m * 2 ^ (k - 1 - j) * 2) (pow_pos j), add-mul-mod_self_right) refl
