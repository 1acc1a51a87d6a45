-- When a field or a bit is beyond the buffer, as the code compares it: by differences, so that any cursor is judged exactly.
-- And what a listed width is: how many bytes it wants, and that they hold it. Assumes nothing.
use Prim.Native.Nat.{ℕ, ◌+◌, ◌-◌, ◌*◌, ◌/◌, ◌%◌, ◌≤◌, ◌<◌}
use mathlib.Core.Path.{◌≡◌, refl, ◌∙◌}
use mathlib.Core.Bool.{true, false, ◌&&◌, ◌||◌}
use mathlib.Core.Logic.{◌⊎◌, inl, inr, ⊎_elim}
use native.Mathlib.Omega.{arith}
use native.Mathlib.Decide.{dec_lt}
use borrow.Author.Tests.{lt-ltb, le-ltb, le-leb, lt-leb, ne_eqb, leb-true, leb-false, eqb-true}
use lib.Dec.{ltb, leb, eqb}
use Rattle.common.proofs.Bools.{and_left, and_right, and-second-fails, or_split, or-second, or-false, or-fails-second, same-ltb}
use Rattle.buffer_reader.specs.Reads.{listed, bytes_wanted}

pub bytes-beyond : (len n h j : ℕ) → len < n → ltb len (n + h + j) ≡ true
bytes-beyond len n h j p = lt-ltb len (n + h + j) (omega arith)

pub head-beyond : (len n h j : ℕ) → n ≤ len → len - n < h → ltb len (n + h + j) ≡ true
head-beyond len n h j p q = lt-ltb len (n + h + j) (omega arith)

pub tail-beyond : (len n h j : ℕ) → n ≤ len → h ≤ len - n → ltb (len - n - h) j ≡ ltb len (n + h + j)
tail-beyond len n h j p q = same-ltb (len - n - h) j len (n + h + j) (λ e. omega arith) (λ e. omega arith)

pub bit_past : (len h j : ℕ) → len ≤ j → (ltb (len + 2) (h + j) || leb len j) ≡ true
bit_past len h j p = or-second (ltb (len + 2) (h + j)) (le-leb len j p)

pub bit-judged : (len h j : ℕ) → j < len → ltb (len + 2 - j) h ≡ (ltb (len + 2) (h + j) || leb len j)
bit-judged len h j p =
    same-ltb (len + 2 - j) h (len + 2) (h + j) (λ e. omega arith) (λ e. omega arith) ∙
    or-false (ltb (len + 2) (h + j)) (lt-leb len j p)

pub bit-room : (len h j : ℕ) → (ltb (len + 2) (h + j) || leb len j) ≡ false → j < len
bit-room len h j e = leb-false len j (or-fails-second (ltb (len + 2) (h + j)) (leb len j) e)

-- the widths
pub listed-low : (n : ℕ) → 0 < n → n ≤ 9 → listed n ≡ true
listed-low n p q = rw (le-leb 1 n p, le-leb n 9 q) refl

pub listed-rest : (n : ℕ) → 9 < n → (n ≡ 24 → ⊥) → listed n ≡ eqb n 25
listed-rest n p q = rw (le-leb 1 n (omega arith), lt-leb n 9 p, ne_eqb n 24 q) refl

pub wanted-long : (n b : ℕ) → 8 ≤ n → bytes_wanted n b ≡ n / 8 + 1
wanted-long n b p = rw (and-second-fails (ltb (8 - b) n) (le-ltb n 8 p)) refl

pub wanted-two : (n b : ℕ) → n < 8 → 8 - b < n → bytes_wanted n b ≡ 2
wanted-two n b p q = rw (lt-ltb (8 - b) n q, lt-ltb n 8 p) (omega arith)

pub wanted-one : (n b : ℕ) → n < 8 → n ≤ 8 - b → bytes_wanted n b ≡ 1
wanted-one n b p q = rw (le-ltb (8 - b) n q) (omega arith)

-- 1 to 9, 24 or 25, as numbers
pub Width : ℕ → Type 0
Width n = ((0 < n) × (n ≤ 9)) ⊎ ((n ≡ 24) ⊎ (n ≡ 25))

pub listed-width : (n : ℕ) → listed n ≡ true → Width n
unfolding Width
listed-width n e =
    ⊎_elim
    (λ a. ⊎_elim (λ l. inl (leb-true 1 n (and_left (leb 1 n) (leb n 9) l), leb-true n 9 (and_right (leb 1 n) (leb n 9) l))) (λ l. inr (inl (eqb-true n 24 l))) (or_split (leb 1 n && leb n 9) (eqb n 24) a))
    (λ a. inr (inr (eqb-true n 25 a)))
    (or_split (leb 1 n && leb n 9 || eqb n 24) (eqb n 25) e)

module _ (n : ℕ) (ok : listed n ≡ true) where
  pub width-limits : (0 < n) × (n ≤ 25)
  unfolding Width
  width-limits = ⊎_elim (λ l. omega arith) (λ r. ⊎_elim (λ e. omega arith) (λ e. omega arith) r) (listed-width n ok)

  -- a listed width of 8 or more passes a whole number of bytes by one bit at most
  remainder : 8 ≤ n → n % 8 ≤ 1
  unfolding Width
  remainder p = ⊎_elim (λ l. omega arith) (λ r. ⊎_elim (λ e. omega arith) (λ e. omega arith) r) (listed-width n ok)

  -- the bytes wanted are at most four, and hold the field
  pub wanted-holds : (b : ℕ) → b < 8 → (b + n ≤ 8 * bytes_wanted n b) × (bytes_wanted n b ≤ 4)
  wanted-holds b p = go (dec_lt n 8) (dec_lt (8 - b) n)
    where
      go : Dec (n < 8) → Dec (8 - b < n) → (b + n ≤ 8 * bytes_wanted n b) × (bytes_wanted n b ≤ 4)
      go (yes l) (yes m) = omega (arith, wanted-two n b l m)
      go (yes l) (no m) = omega (arith, wanted-one n b l (omega (arith, m)), m)
      go (no l) d = omega (arith, wanted-long n b (omega (arith, l)), remainder (omega (arith, l)), width-limits)
