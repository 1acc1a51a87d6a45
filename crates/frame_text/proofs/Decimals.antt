-- A number's decimal is its last digit behind the decimal of a tenth, and a number of 64 bits has at most twenty digits.
-- Assumes nothing.
use Prim.Native.Nat.{ℕ, zero, suc, ◌+◌, ◌/◌, ◌^◌, ◌≤◌, ◌<◌}
use mathlib.Core.Path.{◌≡◌, refl, ap}
use mathlib.Core.List.{List, [], ◌++◌}
use native.Mathlib.Omega.{arith}
use native.Mathlib.Nat.{pow-suc}
use lib.ListN.{length, length-append}
use Rattle.frame_text.specs.Text.{last_digit, digits, decimal}
use Rattle.frame_text.specs.Private.{Laid}
use Rattle.frame_text.proofs.Laid.{laid_then}

-- as many digits as are enough, or more, are the same
digits-enough : (j k n : ℕ) → n ≤ j → n ≤ k → digits j n ≡ digits k n
unfolding digits
digits-enough zero zero n h i = refl
digits-enough zero (suc k) zero h i = refl
digits-enough zero (suc k) (suc n) h i = absurd (omega arith)
digits-enough (suc j) zero zero h i = refl
digits-enough (suc j) zero (suc n) h i = absurd (omega arith)
digits-enough (suc j) (suc k) zero h i = refl
digits-enough (suc j) (suc k) (suc n) h i =
    ap (λ (l : List ℕ). l ++ last_digit (suc n)) (digits-enough j k (suc n / 10) (omega arith) (omega arith))

digits-none : (k : ℕ) → digits k 0 ≡ []
unfolding digits
digits-none zero = refl
digits-none (suc k) = refl

-- the digits of a number from 1 on are its decimal
digits_decimal : (k n : ℕ) → 0 < n → n ≤ k → digits k n ≡ decimal n
unfolding digits decimal
digits_decimal zero n h i = absurd (omega arith)
digits_decimal (suc k) zero h i = absurd (omega arith)
digits_decimal (suc k) (suc n) h i =
    ap (λ (l : List ℕ). l ++ last_digit (suc n)) (digits-enough k (suc n) (suc n / 10) (omega arith) (omega arith))

-- one digit, or the last behind the others
decimal-one : (n : ℕ) → n < 10 → decimal n ≡ last_digit n
unfolding decimal
decimal-one n h = let e : n / 10 ≡ 0 = omega arith in rw (e, digits-none n) refl

decimal-more : (n : ℕ) → 10 ≤ n → decimal n ≡ decimal (n / 10) ++ last_digit n
unfolding decimal
decimal-more n h = ap (λ (l : List ℕ). l ++ last_digit n) (digits_decimal n (n / 10) (omega arith) (omega arith))

digits-most : (k most n : ℕ) → n < 10 ^ k → length (digits most n) ≤ k
unfolding digits
digits-most k zero n h = omega arith
digits-most k (suc most) zero h = omega arith
digits-most zero (suc most) (suc n) h = absurd (omega arith)
digits-most (suc k) (suc most) (suc n) h =
    let tenth : suc n / 10 < 10 ^ k = omega (arith, pow-suc 10 k) in
    omega (arith, digits-most k most (suc n / 10) tenth, length-append (digits most (suc n / 10)) (last_digit (suc n)))

-- a number of 64 bits has at most twenty digits
decimal-most : (n : ℕ) → n < 2 ^ 64 → length (decimal n) ≤ 20
unfolding decimal
decimal-most n h =
    omega (arith, digits-most 19 n (n / 10) (omega arith), length-append (digits n (n / 10)) (last_digit n))

-- laid: one digit; the last digit, behind a tenth's
pub laid-digit : {b c : List ℕ} {at r : ℕ} (n : ℕ) → n < 10 → Laid b at (last_digit n) c r → Laid b at (decimal n) c r
laid-digit n h l = rw (decimal-one n h) l

pub laid-digits : {b c d : List ℕ} {at mid r : ℕ} (n : ℕ) → 10 ≤ n → Laid b at (decimal (n / 10)) c mid → Laid c mid (last_digit n) d r → Laid b at (decimal n) d r
laid-digits n h p q = rw (decimal-more n h) (laid_then p q)

pub laid-most : {b c : List ℕ} {at r n : ℕ} → n < 2 ^ 64 → Laid b at (decimal n) c r → r ≤ at + 20
laid-most {n = n} h l = omega (arith, l.place, decimal-most n h)
