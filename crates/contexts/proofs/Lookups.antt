-- A context is made of two traces of at most 15, so with the rate flag and the 256 past half it stays below 1,024, a place in the
-- lookup below 4,096, and the row found there below 64. Assumes nothing.
use Prim.Native.Nat.{ℕ, ◌+◌, ◌*◌, ◌/◌, ◌≤◌, ◌<◌, min}
use mathlib.Core.Path.{◌≡◌, refl}
use mathlib.Core.Bool.{true}
use mathlib.Core.List.{List}
use native.Mathlib.Omega.{arith}
use native.Mathlib.Nat.{mul-le-mul, add-zero}
use borrow.Author.Tests.{lt-ltb, le-ltb, leb-true}
use lib.Dec.{leb, ltb, eqb}
use lib.ListN.{length}
use Rattle.common.specs.Tables.{all_at_most, lookup_passes}
use Rattle.common.proofs.Bools.{and_right, by-test}
use Rattle.common.proofs.Rows.{at_most}
use Rattle.contexts.specs.Contexts.{rate_flag, lookup_start, row_of, trace, next_context, shifted, escapes, context_behind}
use Rattle.contexts.proofs.Escapes.{escapes-law}

pub rate-high : (bits fs : ℕ) → 160 + 160 * fs < bits → rate_flag bits fs ≡ 512
rate-high bits fs h = rw (lt-ltb (160 + 160 * fs) bits h) refl

pub rate-low : (bits fs : ℕ) → bits ≤ 160 + 160 * fs → rate_flag bits fs ≡ 0
rate-low bits fs h = rw (le-ltb (160 + 160 * fs) bits h) refl

pub rate-most : (bits fs : ℕ) → rate_flag bits fs ≤ 512
rate-most bits fs =
    by-test (ltb (160 + 160 * fs) bits) (λ t. rw t (omega arith)) (λ f. rw f (omega arith))

-- the 256 is added from the first line above half on
module _ (c rate ne line : ℕ) where
  pub start-past : ne / 2 < line → lookup_start c rate ne line ≡ c + rate + 256
  start-past h = rw (lt-ltb (ne / 2) line h) refl

  pub start-half : line ≤ ne / 2 → lookup_start c rate ne line ≡ c + rate
  start-half h = rw (le-ltb (ne / 2) line h, add-zero) refl

  pub start-low : c ≤ 255 → rate ≤ 512 → lookup_start c rate ne line < 1024
  start-low p q =
      by-test (ltb (ne / 2) line) (λ t. rw t (omega arith)) (λ f. rw f (omega arith))

pub index-low : (t level : ℕ) → t < 1024 → t + 1024 * min level 3 < 4096
index-low t level h = omega arith

module _ (lookup : List ℕ) (passed : lookup_passes lookup ≡ true) where
  pub row_low : (t level : ℕ) → row_of lookup t level ≤ 63
  row_low t level = at_most 63 lookup (t + 1024 * min level 3) (and_right (eqb (length lookup) 4096) (all_at_most 63 lookup) passed)

-- the sum of the parts, once or twice
pub doubled-most : (a b level : ℕ) → a + b ≤ 7 → level ≤ 1 → (a + b) * (level + 1) ≤ 14
doubled-most a b level p q =
    let two : level + 1 ≤ 2 = omega arith in
    let m : (a + b) * (level + 1) ≤ 7 * 2 = mul-le-mul p two in
    omega arith

pub trace-most : (a b level : ℕ) → a + b ≤ 7 → level ≤ 3 → trace a b level ≤ 15
trace-most a b level p q =
    by-test (leb level 1)
    (λ t. rw t (omega (arith, doubled-most a b level p (leb-true level 1 t))))
    (λ f. rw f (omega arith))

-- every context is at most 255
pub context-most : (c a b level : ℕ) → a + b ≤ 7 → next_context c a b level ≤ 255
context-most c a b level h = omega (arith, trace-most a b (min level 3) h (omega arith))

pub behind-most : (c a b : ℕ) → a < 65536 → b < 65536 → context_behind c a b ≤ 255
behind-most c a b p q =
    let law = escapes-law a b p q in
    context-most c (shifted a (escapes a b)) (shifted b (escapes a b)) (escapes a b) (omega (arith, law.first, law.second))
