-- Texts laid one behind the other are the whole text laid, and a loop that lays a text by parts ends with all of it laid.
-- Assumes nothing.
use Prim.Native.Nat.{ℕ, ◌+◌, ◌≤◌, ◌<◌}
use mathlib.Core.Path.{◌≡◌, refl, sym, ap, ◌∙◌}
use mathlib.Core.List.{List, [], ◌∷◌, ◌++◌}
use native.Mathlib.Omega.{arith}
use native.Mathlib.Nat.{add-zero}
use native.Mathlib.Numerals.{add-one}
use lib.ListN.{length, drop, get_or, set, length-append}
use lib.Seq.{sets, set_out, drop-cons}
use Rattle.buffer_writer.proofs.Copies.{sets-append}
use Rattle.frame_text.specs.Private.{Laid, Laying}

module _ {b : List ℕ} {at : ℕ} where
  pub laid_none : Laid b at [] b at
  laid_none = record { contents = refl; place = sym (add-zero at) }

  -- one character, in the buffer or past its end
  pub laid_one : (x : ℕ) → Laid b at (x ∷ []) (set b at x) (at + 1)
  laid_one x = record { contents = refl; place = refl }

  pub laid-past : (x : ℕ) → length b ≤ at → Laid b at (x ∷ []) b (at + 1)
  laid-past x h = record { contents = sym (set_out b at x h); place = refl }

  pub laid_then : {xs ys c d : List ℕ} {mid last : ℕ} → Laid b at xs c mid → Laid c mid ys d last → Laid b at (xs ++ ys) d last
  laid_then {xs} {ys} p q =
      record {
        contents = rw (q.contents, p.contents, p.place, sets-append b at xs ys) refl;
        place = omega (arith, p.place, q.place, length-append xs ys);
      }

-- a loop that lays a text part by part: its start, one turn, and its end, where nothing is left
module _ {rest : ℕ → List ℕ} {parts : ℕ} {b : List ℕ} {from : ℕ} where
  pub laying-start : Laying rest parts b from b from 0
  laying-start = record { within = omega arith; size = refl; contents = refl; place = refl }

  module _ {c : List ℕ} {at i : ℕ} where
    pub laying-turn : {xs d : List ℕ} {next : ℕ} → i < parts → rest i ≡ xs ++ rest (i + 1) → Laid c at xs d next → length d ≡ length c → Laying rest parts b from c at i → Laying rest parts b from d next (i + 1)
    laying-turn {xs} h e p s l =
        record {
          within = omega arith;
          size = s ∙ l.size;
          contents = rw (p.contents, p.place, ← (sets-append c at xs (rest (i + 1))), ← e) l.contents;
          place = omega (arith, p.place, l.place, length-append xs (rest (i + 1)), ap length e);
        }

    pub laying-end : rest i ≡ [] → Laying rest parts b from c at i → Laid b from (rest 0) c at
    laying-end e l =
        record { contents = ap (λ (r : List ℕ). sets c at r) (sym e) ∙ l.contents; place = omega (arith, l.place, ap length e) }

-- the next of a list's elements, and that there is none
pub next_one : (l : List ℕ) (i : ℕ) → i < length l → drop i l ≡ (get_or l i 0 ∷ []) ++ drop (i + 1) l
next_one l i h = rw (add-one, drop-cons l i 0 h) refl
