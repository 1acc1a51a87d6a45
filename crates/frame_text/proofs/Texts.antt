-- The texts that loops and branches lay: numbers behind spaces and lines one by one, and a number by its sign.
-- Assumes nothing.
use Prim.Native.Nat.{ℕ, ◌+◌, ◌≤◌, ◌<◌}
use mathlib.Core.Path.{◌≡◌, refl, sym, ap, ◌∙◌}
use mathlib.Core.Bool.{true, false, true≢false}
use mathlib.Core.List.{List, [], ◌++◌, map}
use Rattle.std.proofs.lemmas.List.{length-map, get_or-map, map-id}
use native.Mathlib.Omega.{arith}
use native.Mathlib.Numerals.{add-one}
use borrow.Author.Tests.{ltb-true, eq-eqb, ne_eqb}
use lib.ListN.{length, take, drop, get_or, drop_of_length-le}
use lib.Seq.{drop-cons, take-length}
use lib.IntN.{ℤ, pos, negsuc, nat_abs}
use lib.Signed.{lt_z}
use mir.Syntax.{w32}
use mir.Val.{SFits, of_z}
use Rattle.residual_data.specs.Residual.{nonzero}
use Rattle.residual_data.proofs.Lines.{zero-line}
use Rattle.frame_text.specs.Text.{ascii, decimal, signed, named, spaced, line_text, each_line}
use Rattle.frame_text.specs.Private.{Laid}

-- one number more, and no more
pub spaced-turn : (l : List ℕ) (i n : ℕ) → i < length l → n ≡ get_or l i 0 → spaced (drop i l) ≡ named " " n ++ spaced (drop (i + 1) l)
unfolding spaced
spaced-turn l i n h e = rw (add-one, drop-cons l i 0 h, e) refl

pub spaced-end : (l : List ℕ) (i : ℕ) → length l ≤ i → spaced (drop i l) ≡ []
unfolding spaced
spaced-end l i h = rw (drop_of_length-le l h) refl

-- the same of figures, by the numbers that they are
module _ {X : Type 0} (value : X → ℕ) (l : List X) (i : ℕ) where
  pub figures-turn : (x : X) → i < length l → x ≡ get_or l i x → spaced (drop i (map value l)) ≡ named " " (value x) ++ spaced (drop (i + 1) (map value l))
  figures-turn x h e = spaced-turn (map value l) i (value x) (omega (arith, h, length-map l value)) (ap value e ∙ sym (get_or-map value l i x 0 h))

  pub figures-end : length l ≤ i → spaced (drop i (map value l)) ≡ []
  figures-end h = spaced-end (map value l) i (omega (arith, h, length-map l value))

-- figures that are numbers already
pub laid-spaced : {b c : List ℕ} {at r : ℕ} (l : List ℕ) → Laid b at (spaced (map (λ (n : ℕ). n) l)) c r → Laid b at (spaced l) c r
laid-spaced l laid = rw (map-id l) at laid

-- a number below 0 has a minus sign before its magnitude, any other has none; w is what the code holds of it
module _ {b c : List ℕ} {at r : ℕ} (z : ℤ) {w : ℤ} (n : ℕ) (same : w ≡ z) (size : n ≡ nat_abs w) where
  pub laid-minus : lt_z w (pos 0) ≡ true → Laid b at (ascii "-" ++ decimal n) c r → Laid b at (signed z) c r
  unfolding signed
  laid-minus h l = rw (← same) (by w size h)
    where
      by : (w : ℤ) → n ≡ nat_abs w → lt_z w (pos 0) ≡ true → Laid b at (signed w) c r
      by (pos k) e h = absurd (omega (arith, ltb-true k 0 h))
      by (negsuc k) e h = rw (add-one, ← e) l

  pub laid-plus : lt_z w (pos 0) ≡ false → Laid b at (decimal n) c r → Laid b at (signed z) c r
  unfolding signed
  laid-plus h l = rw (← same) (by w size h)
    where
      by : (w : ℤ) → n ≡ nat_abs w → lt_z w (pos 0) ≡ false → Laid b at (signed w) c r
      by (pos k) e h = rw (← e) l
      by (negsuc k) e h = absurd (true≢false h)

-- nothing of a line whose bits are 0, and its place and value of any other
module _ (k : ℕ) (z : ℤ) (fits : SFits w32 z) where
  pub line-none : of_z w32 z ≡ 0 → line_text k z ≡ []
  unfolding line_text
  line-none h = rw (← (zero-line z fits), eq-eqb (of_z w32 z) 0 h) refl

  pub line-there : {w : ℤ} → w ≡ z → (of_z w32 z ≡ 0 → ⊥) → line_text k z ≡ named " " k ++ ascii ":" ++ signed w
  unfolding line_text
  line-there e h = rw (e, ← (zero-line z fits), ne_eqb (of_z w32 z) 0 h) refl

-- one line more, by what the code holds of it, and no more
pub each_turn : (l : List ℤ) (k : ℕ) {w : ℤ} → k < length l → w ≡ get_or l k (pos 0) → each_line k (drop k l) ≡ line_text k w ++ each_line (k + 1) (drop (k + 1) l)
unfolding each_line
each_turn l k {w} h e = rw (drop-cons l k (pos 0) h, ← e) (ap (λ (n : ℕ). line_text k w ++ each_line (k + 1) (drop n l)) (sym (add-one k)))

pub each-end : (l : List ℤ) (k : ℕ) → length l ≤ k → each_line k (drop k l) ≡ []
unfolding each_line
each-end l k h = rw (drop_of_length-le l h) refl

-- the count of all lines of a list
pub counted : (n : ℕ) (l : List ℤ) → n ≡ nonzero (take (length l) l) → n ≡ nonzero l
counted n l e = e ∙ ap nonzero (take-length l)
