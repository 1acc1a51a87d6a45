-- The crate reading is untouched by request P4: level by level and pair by pair `read_pairs` at the crate reading is its definition from
-- before, since no test stands before the tail bits there. Assumes nothing.
use Prim.Native.Nat.{ℕ, zero, suc, ◌+◌, ◌*◌, ◌^◌}
use mathlib.Core.Path.{◌≡◌, refl, ap, ◌∙◌}
use mathlib.Core.Bool.{Bool, true, false, cond}
use mathlib.Core.List.{List, ◌∷◌}
use lib.Dec.{ltb}
use Rattle.common.specs.Reply.{and_then}
use Rattle.buffer_reader.specs.declared.Cursor.{Cursor}
use Rattle.contexts.specs.Contexts.{escape_symbol, first_part, second_part, lookup_start, next_context}
use Rattle.range_decoder.specs.declared.DecoderState.{DecoderState}
use Rattle.coding.specs.Coding.{Coded, done, onward}
use Rattle.spectral_data.specs.Spectral.{Pair, Levels, low_bits, read_levels, read_pair, read_pairs}
use Rattle.spectral_data.specs.InCrate.{crate_levels, crate_pair, crate_pairs}
use Rattle.spectral_data.specs.Private.{signs_by}
use Rattle.spectral_data.proofs.Symbols.{symbol_at}
use Rattle.spectral_data.proofs.Turns.{then_same}

module _ (lookup frequencies : List ℕ) (lsb : Bool) (f : List ℕ) where
  -- what follows a symbol
  symbol-untouched : (p t left level a b : ℕ) →
      ((u v : ℕ) (s : DecoderState) (c : Cursor) → read_levels lookup frequencies false lsb p t left (level + 1) u v s f c ≡ crate_levels lookup frequencies lsb p t left (level + 1) u v s f c) →
      (k : ℕ) (s : DecoderState) (c : Cursor) (small : Bool) →
      cond small (done (record { escapes = level; last = k; low_first = a; low_second = b })) (onward (low_bits lsb p level) (λ low. read_levels lookup frequencies false lsb p t left (level + 1) (a + low.0 * 2 ^ level) (b + low.1 * 2 ^ level))) s f c
      ≡ cond small (done (record { escapes = level; last = k; low_first = a; low_second = b })) (onward (low_bits lsb p level) (λ low. crate_levels lookup frequencies lsb p t left (level + 1) (a + low.0 * 2 ^ level) (b + low.1 * 2 ^ level))) s f c
  symbol-untouched p t left level a b rest k s c true = refl
  symbol-untouched p t left level a b rest k s c false =
      then_same (low_bits lsb p level s f c) _ _ (λ (low : Coded (ℕ × ℕ) × Cursor). rest _ _ low.0.state low.1)

  levels-untouched : (p t left level a b : ℕ) (s : DecoderState) (c : Cursor) → read_levels lookup frequencies false lsb p t left level a b s f c ≡ crate_levels lookup frequencies lsb p t left level a b s f c
  unfolding read_levels crate_levels
  levels-untouched p t zero level a b s c = refl
  levels-untouched p t (suc left) level a b s c =
      then_same (symbol_at lookup frequencies false lsb p t level s f c) _ _
      (λ (r : Coded ℕ × Cursor). symbol-untouched p t left level a b (levels-untouched p t left (level + 1)) r.0.value r.0.state r.1 (ltb r.0.value escape_symbol))

  pair-untouched : (p t : ℕ) (s : DecoderState) (c : Cursor) → read_pair lookup frequencies false lsb p t s f c ≡ crate_pair lookup frequencies lsb p t s f c
  pair-untouched p t s c =
      ap (λ a. and_then a (λ (l : Coded Levels × Cursor). signs_by p l.0.value l.0.state f l.1)) (levels-untouched p t 14 0 0 0 s c)

  pub crate-untouched : (rate ne p n context : ℕ) (s : DecoderState) (c : Cursor) → read_pairs lookup frequencies false lsb rate ne p n context s f c ≡ crate_pairs lookup frequencies lsb rate ne p n context s f c
  unfolding read_pairs crate_pairs
  crate-untouched rate ne p zero context s c = refl
  crate-untouched rate ne p (suc n) context s c =
      let t = lookup_start context rate ne (2 * p) in
      then_same (read_pair lookup frequencies false lsb p t s f c) _ _
      (λ (x : Coded Pair × Cursor).
      let after = next_context context (first_part x.0.value.last) (second_part x.0.value.last) x.0.value.escapes in
      ap (λ a. and_then a (λ (rest : Coded (List Pair) × Cursor). done (x.0.value ∷ rest.0.value) rest.0.state f rest.1)) (crate-untouched rate ne (p + 1) n after x.0.state x.1))
      ∙ ap (λ a. and_then a (λ (x : Coded Pair × Cursor).
      let after = next_context context (first_part x.0.value.last) (second_part x.0.value.last) x.0.value.escapes in
      onward (crate_pairs lookup frequencies lsb rate ne (p + 1) n after) (λ rest. done (x.0.value ∷ rest)) x.0.state f x.1)) (pair-untouched p t s c)
