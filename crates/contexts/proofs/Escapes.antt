-- The escapes of a pair are the one number n, 14 at most, at which what is left of both magnitudes is below 4, and before which
-- it is not. So the symbol behind them is below 16, and its two parts are found again in it. Assumes nothing.
use Prim.Native.Nat.{ℕ, ◌+◌, ◌-◌, ◌/◌, ◌^◌, ◌≤◌, ◌<◌}
use mathlib.Core.Path.{◌≡◌, sym, ap, subst, ◌∙◌}
use mathlib.Core.Bool.{true, false, true≢false}
use mathlib.Core.Logic.{⊎_elim}
use native.Mathlib.Omega.{arith}
use native.Mathlib.Nat.{eq-or-lt_of_le}
use borrow.Author.Count.{below_more}
use borrow.Author.Tests.{lt-ltb, ltb-true, leb-true, leb-false}
use lib.Dec.{leb, ltb}
use lib.Pow.{shr-shr, shr_le}
use Rattle.common.proofs.Bools.{and_left, and_right, and_both, not-passed, by-test}
use Rattle.contexts.specs.Contexts.{shifted, fits_symbol, escapes, escape_symbol, symbol_from, first_part, second_part, pair_symbol}
use Rattle.contexts.proofs.Firsts.{First, first-is, first-law, first-most}

-- what a test of both says
pub fits_both : (a b n : ℕ) → shifted a n < 4 → shifted b n < 4 → fits_symbol a b n ≡ true
fits_both a b n p q = and_both (ltb (shifted a n) 4) (ltb (shifted b n) 4) (lt-ltb (shifted a n) 4 p) (lt-ltb (shifted b n) 4 q)

pub fits-parts : (a b n : ℕ) → fits_symbol a b n ≡ true → (shifted a n < 4) × (shifted b n < 4)
fits-parts a b n e =
    (ltb-true (shifted a n) 4 (and_left (ltb (shifted a n) 4) (ltb (shifted b n) 4) e), ltb-true (shifted b n) 4 (and_right (ltb (shifted a n) 4) (ltb (shifted b n) 4) e))

-- 16-bit numbers fit behind 14 escapes
pub fits-14 : (a b : ℕ) → a < 65536 → b < 65536 → fits_symbol a b 14 ≡ true
fits-14 a b p q = fits_both a b 14 (omega arith) (omega arith)

-- the least: both are below 4 there, and not before
pub record Escaped (a b n : ℕ) : Type 0 where
  pub most : n ≤ 14
  pub first : shifted a n < 4
  pub second : shifted b n < 4
  pub before : (i : ℕ) → i < n → fits_symbol a b i ≡ false

pub escapes-law : (a b : ℕ) → a < 65536 → b < 65536 → Escaped a b (escapes a b)
escapes-law a b p q =
    let f : First (fits_symbol a b) 0 14 (escapes a b) = first-law (fits_symbol a b) 0 14 (fits-14 a b p q) in
    let both = fits-parts a b (escapes a b) f.here in
    record {
      most = omega (arith, f.most);
      first = both.0;
      second = both.1;
      before = λ i h. f.before i (omega arith) h;
    }

pub escaped-at : (a b n : ℕ) → a < 65536 → b < 65536 → n ≡ escapes a b → Escaped a b n
escaped-at a b n p q e = subst (Escaped a b) (sym e) (escapes-law a b p q)

-- and only it
pub escapes-are : (a b n : ℕ) → Escaped a b n → escapes a b ≡ n
escapes-are a b n e =
    first-is (fits_symbol a b) 0 14 n (omega arith) (omega (arith, e.most)) (fits_both a b n e.first e.second) e.before

-- what fits at a place is below 2 at any place behind it
fits-halved : (x i n : ℕ) → i < n → shifted x i < 4 → shifted x n < 2
fits-halved x i n h small =
    let whole : i + (n - 1 - i) + 1 ≡ n = omega arith in
    let parts : x / 2 ^ i / 2 ^ (n - 1 - i) / 2 ≡ x / 2 ^ n =
    ap (λ (q : ℕ). q / 2) (shr-shr x i (n - 1 - i)) ∙ shr-shr x (i + (n - 1 - i)) 1 ∙ ap (λ (q : ℕ). x / 2 ^ q) whole in
    omega (arith, shr_le (x / 2 ^ i) (n - 1 - i))

halved-fits : (a n : ℕ) → 0 < n → shifted a n < 2 → shifted a (n - 1) < 4
halved-fits a n h small =
    let whole : n - 1 + 1 ≡ n = omega arith in
    let parts : a / 2 ^ (n - 1) / 2 ≡ a / 2 ^ n = shr-shr a (n - 1) 1 ∙ ap (λ (q : ℕ). a / 2 ^ q) whole in
    omega arith

-- magnitudes of which the same is left have the same escapes: at the least number 2 or more is left of one of them
pub escapes-same : (a b x y : ℕ) → a < 65536 → b < 65536 → shifted x (escapes a b) ≡ shifted a (escapes a b) → shifted y (escapes a b) ≡ shifted b (escapes a b) → escapes x y ≡ escapes a b
escapes-same a b x y p q first second =
    let n = escapes a b in
    let law = escapes-law a b p q in
    escapes-are x y n
    (record {
      most = law.most;
      first = omega (arith, first, law.first);
      second = omega (arith, second, law.second);
      before = λ i h. not-passed (fits_symbol x y i)
          (λ fits.
          let both = fits-parts x y i fits in
          true≢false (sym (fits_both a b (n - 1)
          (halved-fits a n (omega arith) (omega (arith, first, fits-halved x i n h both.0)))
          (halved-fits b n (omega arith) (omega (arith, second, fits-halved y i n h both.1))))
          ∙ law.before (n - 1) (omega arith)));
    })

-- one place more that does not fit: it is not the fourteenth, which does
pub escapes-next : (a b n : ℕ) → a < 65536 → b < 65536 → n ≤ 14 → ((i : ℕ) → i < n → fits_symbol a b i ≡ false) → fits_symbol a b n ≡ false → (n + 1 ≤ 14) × ((i : ℕ) → i < n + 1 → fits_symbol a b i ≡ false)
escapes-next a b n p q most before e = (
  ⊎_elim
      (λ last. absurd (true≢false (sym (fits-14 a b p q) ∙ (rw last at e))))
      (λ less. omega arith)
      (eq-or-lt_of_le most),
  below_more (λ (i : ℕ). fits_symbol a b i ≡ false) n before e,
)

-- up to 32767 there is no fourteenth
pub escapes-most : (a b : ℕ) → a < 32768 → b < 32768 → escapes a b ≤ 13
escapes-most a b p q =
    let law = escapes-law a b (omega arith) (omega arith) in
    let fits : fits_symbol a b 13 ≡ true = fits_both a b 13 (omega arith) (omega arith) in
    by-test (leb (escapes a b) 13) (leb-true (escapes a b) 13)
    (λ more. absurd (true≢false (sym fits ∙ law.before 13 (leb-false (escapes a b) 13 more))))

pub symbol_low : (a b : ℕ) → a < 4 → b < 4 → symbol_from a b < escape_symbol
symbol_low a b p q = omega arith

-- the two parts of a symbol
pub first_back : (a b : ℕ) → a < 4 → first_part (symbol_from a b) ≡ a
first_back a b p = omega arith

pub second_back : (a b : ℕ) → a < 4 → second_part (symbol_from a b) ≡ b
second_back a b p = omega arith

-- any symbol up to the escape has parts that sum to 7 at most
pub parts_low : (symbol : ℕ) → symbol ≤ escape_symbol → first_part symbol + second_part symbol ≤ 7
parts_low symbol h = omega arith

-- the symbol of a pair of magnitudes is no escape
pub pair-symbol-low : (a b : ℕ) → a < 65536 → b < 65536 → pair_symbol a b < escape_symbol
pair-symbol-low a b p q =
    let law = escapes-law a b p q in
    symbol_low (shifted a (escapes a b)) (shifted b (escapes a b)) law.first law.second

-- whatever the magnitudes, there are no more than 14
pub escapes-few : (a b : ℕ) → escapes a b ≤ 14
escapes-few a b = omega (arith, first-most (fits_symbol a b) 0 14)
