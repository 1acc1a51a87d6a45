-- What one pair costs, test by test, and that an escape more adds one entry of the bits. Assumes nothing.
use Prim.Native.Nat.{ℕ, ◌+◌, ◌≤◌, ◌<◌}
use mathlib.Core.Path.{◌≡◌, refl}
use mathlib.Core.Bool.{Bool, true, false}
use mathlib.Core.List.{List}
use native.Mathlib.Numerals.{add-one}
use borrow.Author.Tests.{lt-ltb, le-ltb, eq-eqb, ne_eqb}
use lib.Dec.{eqb, leb}
use mir.Val.{bool_byte}
use Rattle.common.proofs.Bools.{by-test, and-first-fails, and-second-fails, and-first-holds}
use Rattle.contexts.specs.Contexts.{escapes, escape_symbol, pair_symbol}
use Rattle.spectral_quantization.specs.Estimate.{whole_bits, sum_below, is_zero, tail_cost, sign_cost, symbol_cost, escapes_cost, pair_cost, one_sign, least_bits}
use Rattle.spectral_quantization.specs.Private.{keeps}

-- a pair is all zero: the first line is judged before the second
pub zero-fails : (a b : ℕ) → (a ≡ 0 → ⊥) → is_zero a b ≡ false
zero-fails a b h = and-first-fails (eqb b 0) (ne_eqb a 0 h)

pub zero-decides : (a b : ℕ) → a ≡ 0 → is_zero a b ≡ eqb b 0
zero-decides a b h = and-first-holds (eqb b 0) (eq-eqb a 0 h)

-- the two tail bits of an escape
pub tail-first : (mode : Bool) (level : ℕ) → mode ≡ true → level ≡ 0 → tail_cost mode level ≡ 0
tail-first mode level m h = rw (m, eq-eqb level 0 h) refl

pub tail-later : (mode : Bool) (level : ℕ) → (level ≡ 0 → ⊥) → tail_cost mode level ≡ 4096
tail-later mode level h = rw (and-second-fails mode (ne_eqb level 0 h)) refl

pub tail-unset : (mode : Bool) (level : ℕ) → mode ≡ false → tail_cost mode level ≡ 4096
tail-unset mode level m = rw m refl

pub sign-none : (a : ℕ) → a ≡ 0 → sign_cost a ≡ 0
sign-none a h = rw (eq-eqb a 0 h) refl

pub sign-one : (a : ℕ) → (a ≡ 0 → ⊥) → sign_cost a ≡ 2048
sign-one a h = rw (ne_eqb a 0 h) refl

-- the sign of a magnitude 1
pub one-there : (a : ℕ) → a ≡ 1 → one_sign a ≡ 1
one-there a h = rw (eq-eqb a 1 h) refl

pub one-absent : (a : ℕ) → (a ≡ 1 → ⊥) → one_sign a ≡ 0
one-absent a h = rw (ne_eqb a 1 h) refl

-- and as the code has it: a test as a number
pub one-counted : (a : ℕ) → bool_byte (eqb a 1) ≡ one_sign a
one-counted a = by-test (eqb a 1) (λ e. rw e refl) (λ e. rw e refl)

-- least bits, of a pair with n escapes
module _ (mode : Bool) (a b n : ℕ) (e : n ≡ escapes a b) where
  pub least-there : mode ≡ true → 0 < n → least_bits mode a b ≡ 2 + one_sign a + one_sign b
  unfolding least_bits
  least-there m h = rw (m, lt-ltb 0 (escapes a b) (rw e at h)) refl

  pub least-level : n ≤ 0 → least_bits mode a b ≡ 0
  unfolding least_bits
  least-level h = rw (and-second-fails mode (le-ltb 0 (escapes a b) (rw e at h))) refl

  pub least-unset : mode ≡ false → least_bits mode a b ≡ 0
  unfolding least_bits
  least-unset m = rw m refl

-- whether the lines up to a pair are kept
pub keeps-not : (target a b sum : ℕ) → is_zero a b ≡ true → keeps target a b sum ≡ false
keeps-not target a b sum z = rw z refl

pub keeps-decides : (target a b sum : ℕ) → is_zero a b ≡ false → keeps target a b sum ≡ leb (whole_bits sum) target
keeps-decides target a b sum z = rw z refl

-- the escapes of a pair, one more at a time, and the pair
module _ (lookup bits : List ℕ) (mode : Bool) (t : ℕ) where
  pub escapes-none : escapes_cost lookup bits mode t 0 ≡ 0
  unfolding sum_below
  escapes-none = refl

  pub escapes-more : (n : ℕ) → escapes_cost lookup bits mode t (n + 1) ≡ escapes_cost lookup bits mode t n + (symbol_cost lookup bits t n escape_symbol + tail_cost mode n)
  unfolding sum_below
  escapes-more n = rw add-one refl

  -- a pair, by its number of escapes
  pub pair-by : (a b n : ℕ) → n ≡ escapes a b → pair_cost lookup bits mode t a b ≡ escapes_cost lookup bits mode t n + symbol_cost lookup bits t n (pair_symbol a b) + sign_cost a + sign_cost b
  unfolding pair_cost
  pair-by a b n e = rw e refl
