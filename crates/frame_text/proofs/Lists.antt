-- What the reader returns holds zeros behind its lists: the text of each list is that of the list alone.
-- Assumes nothing.
use Prim.Native.Nat.{ℕ, zero, suc, ◌+◌, ◌≤◌}
use mathlib.Core.Path.{◌≡◌, refl, ap, ◌∙◌}
use mathlib.Core.List.{List, [], ◌∷◌, ◌++◌}
use native.Mathlib.Omega.{arith}
use lib.ListN.{length, take, drop, replicate, length-take, length-append}
use lib.Seq.{take-append-le, take-take, take_at, drop_at}
use lib.IntN.{ℤ, pos}
use Rattle.residual_data.specs.Residual.{nonzero}
use Rattle.frame_text.specs.Text.{line_text, each_line, lines_line}

-- eight places of a filter's indices, and the indices at their front
eight-places : (xs : List ℕ) → length (take 8 (xs ++ replicate 8 0)) ≡ 8
eight-places xs =
    omega (arith, length-take 8 (xs ++ replicate 8 0), length-append xs (replicate 8 0))

front : (xs : List ℕ) (n : ℕ) → length xs ≡ n → n ≤ 8 → take n (take 8 (xs ++ replicate 8 0)) ≡ xs
front xs n e h = take-take n 8 (xs ++ replicate 8 0) h ∙ take_at xs (replicate 8 0) n e

module _ (xs ys : List ℕ) (n : ℕ) (h : n ≤ 8) where
  abbrev places : List ℕ
  places = take 8 (xs ++ replicate 8 0) ++ take 8 (ys ++ replicate 8 0)

  pub first-front : length xs ≡ n → take n places ≡ xs
  first-front e =
      take-append-le n (take 8 (xs ++ replicate 8 0)) (take 8 (ys ++ replicate 8 0)) (omega (arith, eight-places xs)) ∙ front xs n e h

  pub second-front : length ys ≡ n → take n (drop 8 places) ≡ ys
  second-front e =
      ap (λ (l : List ℕ). take n l) (drop_at (take 8 (xs ++ replicate 8 0)) (take 8 (ys ++ replicate 8 0)) 8 (eight-places xs)) ∙ front ys n e h

pub places-length : (xs ys : List ℕ) → length (take 8 (xs ++ replicate 8 0) ++ take 8 (ys ++ replicate 8 0)) ≡ 16
places-length xs ys =
    omega (arith, length-append (take 8 (xs ++ replicate 8 0)) (take 8 (ys ++ replicate 8 0)), eight-places xs, eight-places ys)

-- zeros behind lines count nothing and print nothing
nonzero-zeros : (n : ℕ) → nonzero (replicate n (pos 0)) ≡ 0
unfolding nonzero
nonzero-zeros zero = refl
nonzero-zeros (suc n) = rw (nonzero-zeros n) refl

nonzero-filled : (l : List ℤ) (n : ℕ) → nonzero (l ++ replicate n (pos 0)) ≡ nonzero l
unfolding nonzero
nonzero-filled [] n = nonzero-zeros n
nonzero-filled (x ∷ l) n = rw (nonzero-filled l n) refl

each-zeros : (k n : ℕ) → each_line k (replicate n (pos 0)) ≡ []
unfolding each_line line_text
each-zeros k zero = refl
each-zeros k (suc n) = each-zeros (k + 1) n

each-filled : (k : ℕ) (l : List ℤ) (n : ℕ) → each_line k (l ++ replicate n (pos 0)) ≡ each_line k l
unfolding each_line
each-filled k [] n = each-zeros k n
each-filled k (x ∷ l) n = rw (each-filled (k + 1) l n) refl

pub lines-filled : (l : List ℤ) (n : ℕ) → lines_line (l ++ replicate n (pos 0)) ≡ lines_line l
unfolding lines_line
lines-filled l n = rw (nonzero-filled l n, each-filled 0 l n) refl
