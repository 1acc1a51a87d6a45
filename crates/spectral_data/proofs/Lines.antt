-- What the frame's theorems take from the spectral stage: behind pairs that were read, the range, the cursors, the number of pairs
-- and the bounds of lines, levels and contexts; and what a refusal can be. From the bounds of each pair. Assumes nothing.
use Prim.Native.Nat.{ℕ, zero, suc, ◌+◌, ◌*◌, ◌≤◌, ◌<◌}
use mathlib.Core.Path.{◌≡◌, refl, ap}
use mathlib.Core.Bool.{Bool, true}
use mathlib.Core.List.{List, [], ◌∷◌}
use native.Mathlib.Omega.{arith}
use native.Mathlib.Nat.{add-zero}
use lib.ListN.{length, get_or}
use lib.IntN.{ℤ, pos, nat_abs}
use Rattle.common.specs.Reply.{Reply, accepted, refused}
use Rattle.common.specs.Tables.{lookup_passes, part_passes}
use Rattle.buffer_reader.specs.declared.Cursor.{Cursor}
use Rattle.contexts.specs.Contexts.{first_part, second_part, next_context}
use Rattle.contexts.specs.Lines.{escapes_at}
use Rattle.range_decoder.specs.Decoder.{range_passes}
use Rattle.range_decoder.specs.declared.DecoderState.{DecoderState}
use Rattle.coding.specs.Coding.{Coded}
use Rattle.coding.proofs.Keeps.{BothMoved, both-here, Behind, keeps-at, keeps-refused}
use Rattle.spectral_data.specs.Sent.{pairs_of}
use Rattle.spectral_data.specs.Spectral.{Pair, read_pairs, lines_of, levels_of}
use Rattle.spectral_data.proofs.Bounds.{Meets, Sized, All, none, more, Pairs, pairs-going}
use Rattle.spectral_data.proofs.Sizes.{context-low}

module _ (lookup frequencies : List ℕ) (looked : lookup_passes lookup ≡ true) (rows : part_passes 64 17 frequencies ≡ true)
    (standard lsb : Bool) (rate ne p n context : ℕ) (s : DecoderState) (f : List ℕ) (c : Cursor) (short : length f ≤ 65535) (within : range_passes s.range ≡ true) where
  -- accepted: the range passes again, neither cursor goes back or out of the frame, and there are n pairs, each within its bounds
  pub pairs-behind : (x : Coded (List Pair) × Cursor) → read_pairs lookup frequencies standard lsb rate ne p n context s f c ≡ accepted x → Behind BothMoved (Pairs (Sized standard) n) f c x
  pairs-behind x e = keeps-at (pairs-going lookup frequencies looked rows standard lsb rate ne p n context) s f c short within (both-here f c) e

  -- refused: 9 at a bit of level 14 at most, 10 or 11 at a symbol of level 13 at most, or in the standard reading 19
  pub pairs-refusal : (r : Reply) → read_pairs lookup frequencies standard lsb rate ne p n context s f c ≡ refused r → Meets standard r
  pairs-refusal r e = keeps-refused (pairs-going lookup frequencies looked rows standard lsb rate ne p n context) s f c short within (both-here f c) e

-- two lines and one level for each pair
pub lines-length : (xs : List Pair) → length (lines_of xs) ≡ 2 * length xs
unfolding lines_of
lines-length [] = refl
lines-length (x ∷ xs) = omega (arith, lines-length xs)

pub levels-length : (xs : List Pair) → length (levels_of xs) ≡ length xs
unfolding levels_of
levels-length [] = refl
levels-length (x ∷ xs) = ap suc (levels-length xs)

-- the levels of pairs that were written are the escapes of their lines
pub levels-written : (lsb : Bool) (lines : List ℤ) (p n q : ℕ) → q < n → get_or (levels_of (pairs_of lsb lines p n)) q 0 ≡ escapes_at lines (p + q)
unfolding levels_of pairs_of
levels-written lsb lines p zero q l = absurd (omega arith)
levels-written lsb lines p (suc n) zero l = rw (add-zero p) refl
levels-written lsb lines p (suc n) (suc q) l =
    let e : p + suc q ≡ p + 1 + q = omega arith in
    rw e (levels-written lsb lines (p + 1) n q (omega arith))

-- the first line of a pair, at an even place, is at most 32,767, and the second at most 81,919
pub even-most : {standard : Bool} (xs : List Pair) → All (Sized standard) xs → (k : ℕ) → nat_abs (get_or (lines_of xs) (2 * k) (pos 0)) ≤ 32767
unfolding lines_of
even-most [] none k = omega arith
even-most (x ∷ xs) (more h t) zero = h.first
even-most (x ∷ xs) (more h t) (suc k) =
    let two : 2 * suc k ≡ suc (suc (2 * k)) = omega arith in
    rw two (even-most xs t k)

pub odd-most : {standard : Bool} (xs : List Pair) → All (Sized standard) xs → (k : ℕ) → nat_abs (get_or (lines_of xs) (2 * k + 1) (pos 0)) ≤ 81919
unfolding lines_of
odd-most [] none k = omega arith
odd-most (x ∷ xs) (more h t) zero = h.second
odd-most (x ∷ xs) (more h t) (suc k) =
    let two : 2 * suc k + 1 ≡ suc (suc (2 * k + 1)) = omega arith in
    rw two (odd-most xs t k)

-- behind fewer than fourteen escapes it too is at most 32,767
pub odd-few : {standard : Bool} (xs : List Pair) → All (Sized standard) xs → (k : ℕ) → get_or (levels_of xs) k 0 < 14 → nat_abs (get_or (lines_of xs) (2 * k + 1) (pos 0)) ≤ 32767
unfolding lines_of levels_of
odd-few [] none k few = omega arith
odd-few (x ∷ xs) (more h t) zero few = h.second_few few
odd-few (x ∷ xs) (more h t) (suc k) few =
    let two : 2 * suc k + 1 ≡ suc (suc (2 * k + 1)) = omega arith in
    rw two (odd-few xs t k few)

-- a level is at most 14
pub level-most : {standard : Bool} (xs : List Pair) → All (Sized standard) xs → (k : ℕ) → get_or (levels_of xs) k 0 ≤ 14
unfolding levels_of
level-most [] none k = omega arith
level-most (x ∷ xs) (more h t) zero = h.few
level-most (x ∷ xs) (more h t) (suc k) = level-most xs t k

-- in the standard reading it is less
pub level-few : (xs : List Pair) → All (Sized true) xs → (k : ℕ) → get_or (levels_of xs) k 0 < 14
unfolding levels_of
level-few [] none k = omega arith
level-few (x ∷ xs) (more h t) zero = h.fewer refl
level-few (x ∷ xs) (more h t) (suc k) = level-few xs t k

-- the context behind the pairs
unfoldable pub context_after : ℕ → List Pair → ℕ
context_after context [] = context
context_after context (x ∷ xs) = context_after (next_context context (first_part x.last) (second_part x.last) x.escapes) xs

pub contexts-most : {standard : Bool} (xs : List Pair) (context : ℕ) → All (Sized standard) xs → context ≤ 255 → context_after context xs ≤ 255
unfolding context_after
contexts-most [] context none h = h
contexts-most (x ∷ xs) context (more q t) h = contexts-most xs _ t (context-low context x.last x.escapes q.symbol_most)
