-- The spectral stage goes forward at the head: a symbol does, and tail bits and signs leave the head as it is. And what it is for two
-- pairs to have the same symbols. By the forms of codings. Assumes nothing.
use Prim.Native.Nat.{ℕ, zero, suc, ◌+◌, ◌*◌, ◌^◌}
use mathlib.Core.Path.{◌≡◌}
use mathlib.Core.Bool.{Bool, cond, ◌&&◌}
use mathlib.Core.List.{List, [], ◌∷◌}
use lib.Dec.{ltb, eqb}
use lib.IntN.{pos, neg_ℤ}
use Rattle.common.specs.Reply.{symbol, bit, fourteen_escapes}
use Rattle.common.specs.Tables.{row_at}
use Rattle.contexts.specs.Contexts.{row_of, escape_symbol, first_part, second_part, lookup_start}
use Rattle.coding.specs.Coding.{Coding, done, onward, met, tail_bit_by}
use Rattle.spectral_data.specs.Spectral.{Pair, Levels, low_bits, behind_escape, read_levels, read_sign, read_pair, read_pairs}
use Rattle.spectral_data.specs.Private.{read_symbol, signs_by}
use Rattle.spectral_data.proofs.Heads.{Forward, Still, still-done, still-onward, still-if, still-refusing, still-bit, forward-still, forward-onward, forward-if, forward-symbol}

still-low : (lsb : Bool) (p level : ℕ) → Still (low_bits lsb p level)
still-low lsb p level =
    still-if (lsb && eqb level 0) _ _ (still-done (0, 0))
    (still-onward (met (bit p level) tail_bit_by) _ (still-bit (bit p level))
    (λ a. still-onward (met (bit p level) tail_bit_by) _ (still-bit (bit p level)) (λ b. still-done (a, b))))

pub still-behind : (standard lsb : Bool) (p level : ℕ) → Still (behind_escape standard lsb p level)
still-behind standard lsb p level = still-refusing (standard && eqb level 13) (fourteen_escapes p) (low_bits lsb p level) (still-low lsb p level)

still-sign : (p level magnitude : ℕ) → Still (read_sign p level magnitude)
still-sign p level magnitude =
    still-if (ltb 0 magnitude) _ _
    (still-onward (met (bit p level) tail_bit_by) _ (still-bit (bit p level)) (λ minus. still-done (cond (eqb minus 1) (neg_ℤ (pos magnitude)) (pos magnitude))))
    (still-done (pos 0))

-- the two magnitudes of a pair
abbrev pub first_in : Levels → ℕ
first_in l = l.low_first + first_part l.last * 2 ^ l.escapes

abbrev pub second_in : Levels → ℕ
second_in l = l.low_second + second_part l.last * 2 ^ l.escapes

still-signs : (p : ℕ) (l : Levels) → Still (signs_by p l)
still-signs p l =
    still-onward (read_sign p l.escapes (first_in l)) _ (still-sign p l.escapes (first_in l))
    (λ first. still-onward (read_sign p l.escapes (second_in l)) _ (still-sign p l.escapes (second_in l))
    (λ second. still-done (record { escapes = l.escapes; last = l.last; first = first; second = second })))

-- the same escapes and the same last symbol
pub record SameLevels (l m : Levels) : Type 0 where
  pub escapes : l.escapes ≡ m.escapes
  pub last : l.last ≡ m.last

pub record SamePair (x y : Pair) : Type 0 where
  pub escapes : x.escapes ≡ y.escapes
  pub last : x.last ≡ y.last

module _ (lookup frequencies : List ℕ) (standard lsb : Bool) where
  abbrev pub symbol_at : ℕ → ℕ → ℕ → Coding ℕ
  symbol_at = read_symbol lookup frequencies

  -- what follows a symbol
  abbrev pub levels_on : ℕ → ℕ → ℕ → ℕ → ℕ → ℕ → ℕ → Coding Levels
  levels_on p t left level a b k =
      cond (ltb k escape_symbol) (done (record { escapes = level; last = k; low_first = a; low_second = b }))
      (onward (behind_escape standard lsb p level) (λ low. read_levels lookup frequencies standard lsb p t left (level + 1) (a + low.0 * 2 ^ level) (b + low.1 * 2 ^ level)))

  pub forward-on : (p t left level a b k : ℕ) → ((u v : ℕ) → Forward (read_levels lookup frequencies standard lsb p t left (level + 1) u v)) → Forward (levels_on p t left level a b k)
  forward-on p t left level a b k rest =
      forward-if (ltb k escape_symbol) _ _ (forward-still _ (still-done (record { escapes = level; last = k; low_first = a; low_second = b })))
      (forward-onward (behind_escape standard lsb p level) _ (forward-still _ (still-behind standard lsb p level)) (λ low. rest (a + low.0 * 2 ^ level) (b + low.1 * 2 ^ level)))

  pub forward-levels : (p t left level a b : ℕ) → Forward (read_levels lookup frequencies standard lsb p t left level a b)
  unfolding read_levels
  forward-levels p t zero level a b = forward-still _ (still-done (record { escapes = level; last = escape_symbol; low_first = a; low_second = b }))
  forward-levels p t (suc left) level a b =
      forward-onward (symbol_at p t level) (levels_on p t left level a b) (forward-symbol (symbol p level) (row_at 17 (row_of lookup t level) frequencies))
      (λ k. forward-on p t left level a b k (forward-levels p t left (level + 1)))

  pub forward-pair : (p t : ℕ) → Forward (read_pair lookup frequencies standard lsb p t)
  forward-pair p t =
      forward-onward (read_levels lookup frequencies standard lsb p t 14 0 0 0) (signs_by p) (forward-levels p t 14 0 0 0) (λ l. forward-still _ (still-signs p l))

  module _ (rate ne : ℕ) where
    pub forward-pairs : (p n context : ℕ) → Forward (read_pairs lookup frequencies standard lsb rate ne p n context)
    unfolding read_pairs
    forward-pairs p zero context = forward-still _ (still-done [])
    forward-pairs p (suc n) context =
        forward-onward (read_pair lookup frequencies standard lsb p (lookup_start context rate ne (2 * p))) _ (forward-pair p (lookup_start context rate ne (2 * p)))
        (λ x. forward-onward (read_pairs lookup frequencies standard lsb rate ne (p + 1) n _) _ (forward-pairs (p + 1) n _)
        (λ rest. forward-still _ (still-done (x ∷ rest))))
