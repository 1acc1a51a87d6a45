-- The pairs of a frame, one at a time, with the two arrays that they are laid into: what is read from here, behind what is laid
-- already, is what is read from the start. Assumes nothing.
use Prim.Native.Nat.{ℕ, suc, ◌+◌, ◌-◌, ◌*◌, ◌≤◌, ◌<◌}
use mathlib.Core.Path.{◌≡◌, refl, sym, ◌∙◌}
use mathlib.Core.Bool.{Bool}
use mathlib.Core.List.{List, ◌∷◌, ◌++◌, append_assoc}
use native.Mathlib.Omega.{arith}
use native.Mathlib.Nat.{sub-zero, sub_self}
use native.Mathlib.Numerals.{add-one}
use lib.ListN.{length, take, drop, set, length-set, take-append-drop}
use lib.Seq.{take-suc-set, drop-set-lt}
use lib.IntN.{ℤ}
use Rattle.common.specs.Reply.{Reply, Answer, accepted, refused}
use Rattle.contexts.specs.Contexts.{first_part, second_part, lookup_start, next_context}
use Rattle.buffer_reader.specs.declared.Cursor.{Cursor}
use Rattle.range_decoder.specs.declared.DecoderState.{DecoderState}
use Rattle.coding.specs.Coding.{Coded, Coding, done, onward}
use Rattle.spectral_data.specs.Spectral.{Pair, read_pair, read_pairs, lines_of, levels_of}
use Rattle.spectral_data.specs.Private.{filling}
use Rattle.spectral_data.proofs.Turns.{then-assoc, then_same}

-- one store more at the end of what is laid
laid : {A : Type 0} (l : List A) (i n : ℕ) (a : A) (xs : List A) → i < length l → i < n →
    take (i + 1) (set l i a) ++ (xs ++ drop n (set l i a)) ≡ take i l ++ ((a ∷ xs) ++ drop n l)
laid l i n a xs there below =
    rw (add-one i, take-suc-set l i a there, drop-set-lt n l i a below, append_assoc) refl

-- an answer by its two lists
both-same : {a b : List ℤ} {d e : List ℕ} {s : DecoderState} {c : Cursor} → a ≡ b → d ≡ e →
    ◌≡◌ {A = Answer (Coded (List ℤ × List ℕ) × Cursor)} (accepted (record { value = (a, d); state = s }, c)) (accepted (record { value = (b, e); state = s }, c))
both-same p q = rw (p, q) refl

module _ (lookup frequencies : List ℕ) (standard lsb : Bool) (rate ne : ℕ) where
  -- the pairs from p on, behind what the arrays hold before them
  unfoldable pub fill_from : ℕ → ℕ → ℕ → List ℤ → List ℕ → Coding (List ℤ × List ℕ)
  fill_from p n context lines levels =
      onward (read_pairs lookup frequencies standard lsb rate ne p (n - p) context)
      (λ read. done (take (2 * p) lines ++ (lines_of read ++ drop (2 * n) lines), take p levels ++ (levels_of read ++ drop n levels)))

  pub fill_start : (n : ℕ) (lines : List ℤ) (levels : List ℕ) (s : DecoderState) (f : List ℕ) (c : Cursor) →
      fill_from 0 n 0 lines levels s f c ≡ filling n lines levels (read_pairs lookup frequencies standard lsb rate ne 0 n 0) s f c
  unfolding fill_from
  fill_start n lines levels s f c = rw sub-zero refl

  -- past the last pair the arrays are as they should be
  pub fill_end : (p n context : ℕ) (lines : List ℤ) (levels : List ℕ) (s : DecoderState) (f : List ℕ) (c : Cursor) → p ≡ n →
      fill_from p n context lines levels s f c ≡ accepted (record { value = (lines, levels); state = s }, c)
  unfolding fill_from read_pairs lines_of levels_of
  fill_end p n context lines levels s f c e =
      rw (e, sub_self) (both-same (take-append-drop (2 * n) lines) (take-append-drop n levels))

  module _ (p n context : ℕ) (lines : List ℤ) (levels : List ℕ) (s : DecoderState) (f : List ℕ) (c : Cursor) (more : p < n) where
    one : n - p ≡ suc (n - (p + 1))
    one = omega arith

    pub fill-refused : (r : Reply) → read_pair lookup frequencies standard lsb p (lookup_start context rate ne (2 * p)) s f c ≡ refused r → fill_from p n context lines levels s f c ≡ refused r
    unfolding fill_from read_pairs
    fill-refused r e = rw (one, e) refl

    -- two stores more
    lines-laid : (xs : List ℤ) → 2 * n ≤ length lines → (x : Pair) →
        take (2 * (p + 1)) (set (set lines (2 * p) x.first) (2 * p + 1) x.second) ++ (xs ++ drop (2 * n) (set (set lines (2 * p) x.first) (2 * p + 1) x.second))
        ≡ take (2 * p) lines ++ ((x.first ∷ x.second ∷ xs) ++ drop (2 * n) lines)
    lines-laid xs room x =
        let two : 2 * (p + 1) ≡ 2 * p + 1 + 1 = omega arith in
        rw two
        (laid (set lines (2 * p) x.first) (2 * p + 1) (2 * n) x.second xs (simp length-set (omega arith)) (omega arith)
        ∙ laid lines (2 * p) (2 * n) x.first (x.second ∷ xs) (omega arith) (omega arith))

    -- a pair that was read, and stored at its places
    pub fill-turn : 2 * n ≤ length lines → n ≤ length levels → (x : Pair) (s' : DecoderState) (c' : Cursor) →
        read_pair lookup frequencies standard lsb p (lookup_start context rate ne (2 * p)) s f c ≡ accepted (record { value = x; state = s' }, c') →
        fill_from (p + 1) n (next_context context (first_part x.last) (second_part x.last) x.escapes) (set (set lines (2 * p) x.first) (2 * p + 1) x.second) (set levels p x.escapes) s' f c'
        ≡ fill_from p n context lines levels s f c
    unfolding fill_from read_pairs lines_of levels_of
    fill-turn room level_room x s' c' e =
        let rest : Answer (Coded (List Pair) × Cursor) =
        read_pairs lookup frequencies standard lsb rate ne (p + 1) (n - (p + 1)) (next_context context (first_part x.last) (second_part x.last) x.escapes) s' f c' in
        rw (one, e)
        (then_same rest _ _ (λ (r : Coded (List Pair) × Cursor). both-same (lines-laid (lines_of r.0.value) room x) (laid levels p n x.escapes (levels_of r.0.value) (omega arith) more))
        ∙ sym (then-assoc rest (λ r. accepted (record { value = x ∷ r.0.value; state = r.0.state }, r.1)) _))
