-- Clearing, a line at a time: what is done stands in front, and what is left behind it is as it was. Assumes nothing.
use Prim.Native.Nat.{ℕ, suc, ◌+◌, ◌-◌, ◌≤◌, ◌<◌}
use mathlib.Core.Path.{◌≡◌, refl, sym, ap, ◌∙◌}
use mathlib.Core.List.{List, [], ◌∷◌, ◌++◌, append_assoc}
use native.Mathlib.Omega.{arith}
use native.Mathlib.Numerals.{add-one}
use lib.ListN.{length, take, drop, set, get_or, replicate, replicate-append-replicate}
use lib.Seq.{drop-cons, set_at}
use lib.IntN.{ℤ, pos}

-- one line more behind those in front
one_more : (front l l₀ : List ℤ) (k : ℕ) (v : ℤ) → length front ≡ k → k < length l₀ → l ≡ front ++ drop k l₀ → set l k v ≡ (front ++ (v ∷ [])) ++ drop (k + 1) l₀
one_more front l l₀ k v size there e =
    rw (e, drop-cons l₀ k (pos 0) there, set_at front (get_or l₀ k (pos 0)) (drop (suc k) l₀) v k size, add-one, append_assoc) refl

module _ (ne : ℕ) (l₀ : List ℤ) (low : ne ≤ length l₀) where
  -- the lines that stay, and zeros up to place k
  abbrev pub cleared_to : ℕ → List ℤ
  cleared_to k = take ne l₀ ++ replicate (k - ne) (pos 0)

  cleared_more : (k : ℕ) → ne ≤ k → cleared_to (k + 1) ≡ cleared_to k ++ (pos 0 ∷ [])
  cleared_more k h =
      let e : k + 1 - ne ≡ k - ne + 1 = omega arith in
      ap (λ n. take ne l₀ ++ replicate n (pos 0)) e
      ∙ ap (λ (ys : List ℤ). take ne l₀ ++ ys) (sym (replicate-append-replicate (k - ne) 1 (pos 0)))
      ∙ sym (append_assoc (take ne l₀) (replicate (k - ne) (pos 0)) (pos 0 ∷ []))
