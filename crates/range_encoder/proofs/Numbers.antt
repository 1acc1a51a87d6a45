-- Bytes as digits: one byte more, one list behind another, and a carry that passes through 0xFFs. Assumes nothing.
use Prim.Native.Nat.{ℕ, zero, suc, ◌+◌, ◌*◌}
use mathlib.Core.Path.{◌≡◌, refl, ap, ◌∙◌}
use mathlib.Core.List.{List, [], ◌∷◌, ◌++◌}
use native.Mathlib.Omega.{arith}
use native.Mathlib.Numerals.{add-one}
use lib.ListN.{replicate, get_or}
use Rattle.range_encoder.specs.Digits.{number_from, head_number}

-- one list of digits behind another
pub from-append : (a : ℕ) (xs ys : List ℕ) → number_from a (xs ++ ys) ≡ number_from (number_from a xs) ys
unfolding number_from
from-append a [] ys = refl
from-append a (x ∷ xs) ys = from-append (a * 256 + x) xs ys

pub from-none : (a : ℕ) → number_from a [] ≡ a
unfolding number_from
from-none a = refl

pub from_one : (a b : ℕ) → number_from a (b ∷ []) ≡ a * 256 + b
unfolding number_from
from_one a b = refl

-- a carry into 0xFFs passes through them and leaves zeros
pub carry-through : (a n : ℕ) → number_from (a + 1) (replicate n 0) ≡ number_from a (replicate n 255) + 1
unfolding number_from
carry-through a zero = refl
carry-through a (suc n) =
    let e : (a + 1) * 256 + 0 ≡ a * 256 + 255 + 1 = omega arith in
    ap (λ (b : ℕ). number_from b (replicate n 0)) e ∙ carry-through (a * 256 + 255) n

pub head-none : (f : List ℕ) (h : ℕ) → head_number f h 0 ≡ 0
unfolding head_number
head-none f h = refl

pub head_more : (f : List ℕ) (h n : ℕ) → head_number f h (n + 1) ≡ head_number f h n * 256 + get_or f (h + n) 0
unfolding head_number
head_more f h n = rw (add-one n) refl
