-- One turn of the loop that reads a filter's indices, and the two filters put together: what was laid into the sixteen places is
-- what the definition reads. Assumes nothing.
use Prim.Native.Nat.{ℕ, suc, ◌+◌, ◌-◌, ◌≤◌, ◌<◌}
use mathlib.Core.Path.{◌≡◌, refl}
use mathlib.Core.List.{List, ◌∷◌}
use native.Mathlib.Omega.{arith}
use native.Mathlib.Nat.{add-zero, sub-zero}
use lib.ListN.{set}
use Rattle.common.specs.Reply.{Reply, Answer, accepted, refused, and_then, in_step, coef}
use Rattle.common.specs.Tables.{row_at}
use Rattle.buffer_reader.specs.declared.Cursor.{Cursor}
use Rattle.range_decoder.specs.declared.DecoderState.{DecoderState}
use Rattle.coding.specs.Coding.{Coded, symbol_by}
use Rattle.tns_data.specs.Tns.{read_indices}
use Rattle.tns_data.specs.Private.{indices_laid}

-- an index put before the rest is laid before the rest
index-before : (l : List ℕ) (at n i : ℕ) (a : Answer (Coded (List ℕ) × Cursor)) →
    indices_laid l at n (and_then a (λ r. accepted (record { value = i ∷ r.0.value; state = r.0.state }, r.1))) ≡ indices_laid (set l at i) (suc at) n a
index-before l at n i (accepted r) = refl
index-before l at n i (refused r) = refl

module _ (coefficients : List ℕ) (f : ℕ) (frame : List ℕ) (first n : ℕ) where
  pub indices-start : (l : List ℕ) (s : DecoderState) (c : Cursor) →
      indices_laid l (first + 0) n (read_indices coefficients f 0 (n - 0) s frame c) ≡ indices_laid l first n (read_indices coefficients f 0 n s frame c)
  indices-start l s c = rw (add-zero first, sub-zero n) refl

  module _ (k : ℕ) (s : DecoderState) (c : Cursor) (l : List ℕ) where
    pub indices-turn : {i : ℕ} {t : DecoderState} {d : Cursor} → k < n →
        symbol_by (row_at 17 k coefficients) s frame c ≡ accepted (record { value = i; state = t }, d) →
        indices_laid l (first + k) n (read_indices coefficients f k (n - k) s frame c) ≡ indices_laid (set l (first + k) i) (first + (k + 1)) n (read_indices coefficients f (k + 1) (n - (k + 1)) t frame d)
    unfolding read_indices
    indices-turn {i} {t} {d} some e =
        let more : n - k ≡ suc (n - (k + 1)) = omega arith in
        let on : first + (k + 1) ≡ suc (first + k) = omega arith in
        rw (more, on, e) (index-before l (first + k) n i (read_indices coefficients f (k + 1) (n - (k + 1)) t frame d))

    pub indices-refused : {r : Reply} → k < n → symbol_by (row_at 17 k coefficients) s frame c ≡ refused r →
        indices_laid l (first + k) n (read_indices coefficients f k (n - k) s frame c) ≡ refused (in_step (coef f k) r)
    unfolding read_indices
    indices-refused some e =
        let more : n - k ≡ suc (n - (k + 1)) = omega arith in
        rw (more, e) refl

    pub indices-end : n ≤ k →
        indices_laid l (first + k) n (read_indices coefficients f k (n - k) s frame c) ≡ accepted (record { order = n; places = l; state = s; cursor = c })
    unfolding read_indices
    indices-end none = let nothing : n - k ≡ 0 = omega arith in rw nothing refl
