-- The levels of a pair and the pairs of a frame, one turn at a time: the definition from here is the turn, then the definition from
-- behind it. Assumes nothing.
use Prim.Native.Nat.{ℕ, suc, ◌+◌, ◌-◌, ◌*◌, ◌^◌, ◌<◌}
use mathlib.Core.Path.{◌≡◌, refl, sym, ap, ◌∙◌}
use mathlib.Core.Bool.{Bool, true, false, cond}
use mathlib.Core.List.{List}
use native.Mathlib.Omega.{arith}
use lib.Dec.{ltb}
use Rattle.common.specs.Reply.{symbol, Reply, Answer, accepted, refused, and_then}
use Rattle.common.specs.Tables.{row_at}
use Rattle.contexts.specs.Contexts.{row_of, escape_symbol}
use Rattle.buffer_reader.specs.declared.Cursor.{Cursor}
use Rattle.range_decoder.specs.declared.DecoderState.{DecoderState}
use Rattle.coding.specs.Coding.{Coded, Coding, done, onward, met, symbol_by}
use Rattle.spectral_data.specs.Spectral.{Levels, behind_escape, read_levels}
use Rattle.spectral_data.specs.Private.{Turned, last, escape, turn_by}

-- chains of answers
pub then-assoc : {A B C : Type 0} (a : Answer A) (k : A → Answer B) (l : B → Answer C) → and_then (and_then a k) l ≡ and_then a (λ x. and_then (k x) l)
then-assoc (accepted x) k l = refl
then-assoc (refused r) k l = refl

pub then_same : {A B : Type 0} (a : Answer A) (k l : A → Answer B) → ((x : A) → k x ≡ l x) → and_then a k ≡ and_then a l
then_same (accepted x) k l h = h x
then_same (refused r) k l h = refl

module _ (lookup frequencies : List ℕ) (standard lsb : Bool) (p t : ℕ) where
  -- what follows a turn
  abbrev levels_behind : ℕ → ℕ → ℕ → ℕ → Turned → Coding Levels
  levels_behind left level a b (last k) = done (record { escapes = level; last = k; low_first = a; low_second = b })
  levels_behind left level a b (escape x y) =
      read_levels lookup frequencies standard lsb p t left (level + 1) (a + x * 2 ^ level) (b + y * 2 ^ level)

  module _ (left level a b : ℕ) (f : List ℕ) where
    by-symbol : (small : Bool) (k : ℕ) (s : DecoderState) (c : Cursor) →
        cond small (done (record { escapes = level; last = k; low_first = a; low_second = b }))
        (onward (behind_escape standard lsb p level)
        (λ low. read_levels lookup frequencies standard lsb p t left (level + 1) (a + low.0 * 2 ^ level) (b + low.1 * 2 ^ level))) s f c
        ≡ and_then (cond small (done (last k)) (onward (behind_escape standard lsb p level) (λ low. done (escape low.0 low.1))) s f c)
        (λ r. levels_behind left level a b r.0.value r.0.state f r.1)
    by-symbol true k s c = refl
    by-symbol false k s c = sym (then-assoc (behind_escape standard lsb p level s f c) _ _)

    levels-turn : (s : DecoderState) (c : Cursor) →
        read_levels lookup frequencies standard lsb p t (suc left) level a b s f c ≡ onward (turn_by lookup frequencies standard lsb p t level) (levels_behind left level a b) s f c
    unfolding read_levels
    levels-turn s c =
        let m : Answer (Coded ℕ × Cursor) = met (symbol p level) (symbol_by (row_at 17 (row_of lookup t level) frequencies)) s f c in
        let first : Coded ℕ × Cursor → Answer (Coded Turned × Cursor) = λ r.
        cond (ltb r.0.value escape_symbol) (done (last r.0.value)) (onward (behind_escape standard lsb p level) (λ low. done (escape low.0 low.1))) r.0.state f r.1 in
        let rest : Coded Turned × Cursor → Answer (Coded Levels × Cursor) = λ r. levels_behind left level a b r.0.value r.0.state f r.1 in
        then_same m _ (λ r. and_then (first r) rest)
        (λ (r : Coded ℕ × Cursor). by-symbol (ltb r.0.value escape_symbol) r.0.value r.0.state r.1)
        ∙ sym (then-assoc m first rest)

  module _ (level a b : ℕ) (s : DecoderState) (f : List ℕ) (c : Cursor) (more : level < 14) where
    levels-more : read_levels lookup frequencies standard lsb p t (14 - level) level a b s f c ≡ onward (turn_by lookup frequencies standard lsb p t level) (levels_behind (14 - (level + 1)) level a b) s f c
    levels-more =
        let one : 14 - level ≡ suc (14 - (level + 1)) = omega arith in
        rw one (levels-turn (14 - (level + 1)) level a b f s c)

    pub levels-last : (k : ℕ) (s' : DecoderState) (c' : Cursor) → turn_by lookup frequencies standard lsb p t level s f c ≡ accepted (record { value = last k; state = s' }, c') →
        read_levels lookup frequencies standard lsb p t (14 - level) level a b s f c ≡ accepted (record { value = record { escapes = level; last = k; low_first = a; low_second = b }; state = s' }, c')
    levels-last k s' c' e = levels-more ∙ ap (λ q. and_then q (λ r. levels_behind (14 - (level + 1)) level a b r.0.value r.0.state f r.1)) e

    pub levels-escape : (x y : ℕ) (s' : DecoderState) (c' : Cursor) → turn_by lookup frequencies standard lsb p t level s f c ≡ accepted (record { value = escape x y; state = s' }, c') →
        read_levels lookup frequencies standard lsb p t (14 - level) level a b s f c ≡ read_levels lookup frequencies standard lsb p t (14 - (level + 1)) (level + 1) (a + x * 2 ^ level) (b + y * 2 ^ level) s' f c'
    levels-escape x y s' c' e = levels-more ∙ ap (λ q. and_then q (λ r. levels_behind (14 - (level + 1)) level a b r.0.value r.0.state f r.1)) e

    pub levels-refused : (r : Reply) → turn_by lookup frequencies standard lsb p t level s f c ≡ refused r → read_levels lookup frequencies standard lsb p t (14 - level) level a b s f c ≡ refused r
    levels-refused r e = levels-more ∙ ap (λ q. and_then q (λ r. levels_behind (14 - (level + 1)) level a b r.0.value r.0.state f r.1)) e

  -- behind fourteen escapes
  pub levels-end : (level a b : ℕ) (s : DecoderState) (f : List ℕ) (c : Cursor) → level ≡ 14 →
      read_levels lookup frequencies standard lsb p t (14 - level) level a b s f c ≡ accepted (record { value = record { escapes = 14; last = 16; low_first = a; low_second = b }; state = s }, c)
  unfolding read_levels
  levels-end level a b s f c e = rw e refl
