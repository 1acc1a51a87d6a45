-- Copies of a byte laid from a head place on, one by one or at once, and lists of bytes one behind the other.
-- Assumes nothing.
use Prim.Native.Nat.{ℕ, zero, suc, ◌+◌, ◌-◌, ◌≤◌, ◌<◌}
use mathlib.Core.Path.{◌≡◌, refl, sym}
use mathlib.Core.List.{List, [], ◌∷◌, ◌++◌, append_assoc}
use native.Mathlib.Omega.{arith}
use native.Mathlib.Numerals.{add-one}
use native.Mathlib.Nat.{add-zero}
use lib.ListN.{length, set, replicate, take, drop, length-take, length-drop, length-replicate}
use lib.Seq.{sets, sets-eq}
use Rattle.std.proofs.lemmas.List.{drop-drop}
use borrow.Rule.Slice.PartMut.{put_mid}

pub copies-turn : (f : List ℕ) (at b n : ℕ) → 0 < n → sets f at (replicate n b) ≡ sets (set f at b) (at + 1) (replicate (n - 1) b)
copies-turn f at b zero some = absurd (omega arith)
copies-turn f at b (suc n) some =
    let e : suc n - 1 ≡ n = omega arith in
    rw (e, add-one at) refl

-- so many copies of a byte put in the place of a part
pub copies-laid : (f ys : List ℕ) (at b n k : ℕ) → k ≡ n → at + n ≤ length f → ys ≡ replicate (length (take k (drop at f))) b → put_mid at k f ys ≡ sets f at (replicate n b)
copies-laid f ys at b n k e room laid =
    let size : length (take k (drop at f)) ≡ n = rw e (omega (arith, length-take n (drop at f), length-drop at f)) in
    let long : length (replicate n b) ≡ n = length-replicate n b in
    rw (laid, size, e, drop-drop n at f, ← append_assoc (take at f) (replicate n b) (drop (at + n) f)) (sym (rw long at (sets-eq (replicate n b) f at (rw long room))))

-- one list of bytes behind another
pub sets-append : (f : List ℕ) (at : ℕ) (xs ys : List ℕ) → sets f at (xs ++ ys) ≡ sets (sets f at xs) (at + length xs) ys
sets-append f at [] ys = rw (add-zero at) refl
sets-append f at (x ∷ xs) ys =
    let e : at + suc (length xs) ≡ suc at + length xs = omega arith in
    rw e (sets-append (set f at x) (suc at) xs ys)
