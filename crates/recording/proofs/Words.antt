-- The numbers of a table's content: how many there are, and which two bytes each is made of.
-- Assumes nothing.
use Prim.Native.Nat.{ℕ, zero, suc, ◌+◌, ◌*◌, ◌/◌, ◌<◌, ◌≤◌, min}
use mathlib.Core.Path.{◌≡◌, refl}
use mathlib.Core.List.{List, [], ◌∷◌}
use native.Mathlib.Decide.{dec_lt}
use native.Mathlib.Omega.{arith}
use lib.ListN.{length, get_or, drop, set}
use lib.Seq.{sets}
use Rattle.common.proofs.Laid.{sets-turn, sets-past, sets_end}
use Rattle.recording.specs.Contents.{words_of}

pub words-length : (xs : List ℕ) → length (words_of xs) ≡ length xs / 2
unfolding words_of
words-length [] = refl
words-length (a ∷ []) = refl
words-length (a ∷ b ∷ rest) = let e = words-length rest in omega arith

pub word_at : (xs : List ℕ) (i : ℕ) → i < length xs / 2 → get_or (words_of xs) i 0 ≡ get_or xs (2 * i) 0 * 256 + get_or xs (2 * i + 1) 0
unfolding words_of
word_at [] i h = absurd (omega arith)
word_at (a ∷ []) i h = absurd (omega arith)
word_at (a ∷ b ∷ rest) zero h = refl
word_at (a ∷ b ∷ rest) (suc i) h =
    let even : 2 * suc i ≡ suc (suc (2 * i)) = omega arith in
    let odd : 2 * suc i + 1 ≡ suc (suc (2 * i + 1)) = omega arith in
    rw (odd, even) (word_at rest i (omega arith))

-- one word more, laid
pub words-turn : (out xs : List ℕ) (i v : ℕ) → i < length xs / 2 → v ≡ get_or xs (2 * i) 0 * 256 + get_or xs (2 * i + 1) 0 → sets out i (drop i (words_of xs)) ≡ sets (set out i v) (i + 1) (drop (i + 1) (words_of xs))
words-turn out xs i v h e =
    let there : i < length (words_of xs) = omega (arith, words-length xs) in
    rw (e, ← word_at xs i h) (sets-turn out (words_of xs) i there)

-- no word more: the slice or the list of words ends there
pub words-end : (out xs : List ℕ) (i : ℕ) → min (length out) (length xs / 2) ≤ i → sets out i (drop i (words_of xs)) ≡ out
words-end out xs i h = go (dec_lt i (length out))
  where
    go : Dec (i < length out) → sets out i (drop i (words_of xs)) ≡ out
    go (yes l) = sets_end out (words_of xs) i (omega (arith, words-length xs, h, l))
    go (no n) = sets-past (drop i (words_of xs)) out i (omega (arith, n))
