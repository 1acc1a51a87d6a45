-- Document 01, "The coder": the spectral lines, pair by pair. "Spectral context as in the source (rate flag N > 160+160*fs_ind; +256 past
-- ne/2; at most 14 escapes)." By request P4 the fourteenth is damage in the standard reading.
use Rattle.std.specs.Prelude.{ℕ, zero, suc, ◌+◌, ◌*◌, ◌^◌, Bool, cond, ◌&&◌, List, [], ◌∷◌, ltb, eqb, ℤ, pos, neg_ℤ}
use Rattle.common.specs.Reply.{symbol, bit, fourteen_escapes}
use Rattle.common.specs.Tables.{row_at}
use Rattle.buffer_reader.specs.Steps.{refusing}
use Rattle.contexts.specs.Contexts.{lookup_start, row_of, escape_symbol, first_part, second_part, next_context}
use Rattle.coding.specs.Coding.{Coding, done, onward, met, symbol_by, tail_bit_by}

-- what is read of a pair: its escapes, its last symbol, its two lines
pub record Pair : Type 0 where
  pub escapes : ℕ
  pub last : ℕ
  pub first : ℤ
  pub second : ℤ

-- what is read of it before the signs: the low bits of both lines, one of each for a level
pub record Levels : Type 0 where
  pub escapes : ℕ
  pub last : ℕ
  pub low_first : ℕ
  pub low_second : ℕ

-- the two tail bits of pair p behind an escape at a level; in least-bit mode there are none at level 0
abbrev pub low_bits : Bool → ℕ → ℕ → Coding (ℕ × ℕ)
low_bits lsb p level =
    cond (lsb && eqb level 0)
    (done (0, 0))
    (onward (met (bit p level) tail_bit_by) (λ a. onward (met (bit p level) tail_bit_by) (λ b. done (a, b))))

-- behind an escape of pair p come its tail bits; in the standard reading the fourteenth, at level 13, is refused before them
abbrev pub behind_escape : Bool → Bool → ℕ → ℕ → Coding (ℕ × ℕ)
behind_escape standard lsb p level s = refusing (standard && eqb level 13) (fourteen_escapes p) (low_bits lsb p level s)

-- the symbols of pair p from a level on, at most so many, with the low bits so far; t is where its lookup begins
unfoldable pub read_levels : List ℕ → List ℕ → Bool → Bool → ℕ → ℕ → ℕ → ℕ → ℕ → ℕ → Coding Levels
-- behind fourteen escapes, in the crate reading, no further symbol is read: the last is the escape itself
read_levels lookup frequencies standard lsb p t zero level a b =
    done (record { escapes = level; last = escape_symbol; low_first = a; low_second = b })
read_levels lookup frequencies standard lsb p t (suc left) level a b =
    onward (met (symbol p level) (symbol_by (row_at 17 (row_of lookup t level) frequencies)))
    (λ k. cond (ltb k escape_symbol)
    (done (record { escapes = level; last = k; low_first = a; low_second = b }))
    (onward (behind_escape standard lsb p level)
    (λ low. read_levels lookup frequencies standard lsb p t left (level + 1) (a + low.0 * 2 ^ level) (b + low.1 * 2 ^ level))))

-- a line of a magnitude: a sign for what is above 0, 1 for minus
abbrev pub read_sign : ℕ → ℕ → ℕ → Coding ℤ
read_sign p level magnitude =
    cond (ltb 0 magnitude)
    (onward (met (bit p level) tail_bit_by) (λ minus. done (cond (eqb minus 1) (neg_ℤ (pos magnitude)) (pos magnitude))))
    (done (pos 0))

-- pair p, whose lookup begins at t
abbrev pub read_pair : List ℕ → List ℕ → Bool → Bool → ℕ → ℕ → Coding Pair
read_pair lookup frequencies standard lsb p t =
    onward (read_levels lookup frequencies standard lsb p t 14 0 0 0)
    (λ l. onward (read_sign p l.escapes (l.low_first + first_part l.last * 2 ^ l.escapes))
    (λ first. onward (read_sign p l.escapes (l.low_second + second_part l.last * 2 ^ l.escapes))
    (λ second. done (record { escapes = l.escapes; last = l.last; first = first; second = second }))))

-- n pairs from pair p on, by the context before them
unfoldable pub read_pairs : List ℕ → List ℕ → Bool → Bool → ℕ → ℕ → ℕ → ℕ → ℕ → Coding (List Pair)
read_pairs lookup frequencies standard lsb rate ne p zero context = done []
read_pairs lookup frequencies standard lsb rate ne p (suc n) context =
    onward (read_pair lookup frequencies standard lsb p (lookup_start context rate ne (2 * p)))
    (λ pair. onward (read_pairs lookup frequencies standard lsb rate ne (p + 1) n (next_context context (first_part pair.last) (second_part pair.last) pair.escapes))
    (λ rest. done (pair ∷ rest)))

-- the lines of the pairs, in order
unfoldable pub lines_of : List Pair → List ℤ
lines_of [] = []
lines_of (pair ∷ rest) = pair.first ∷ pair.second ∷ lines_of rest

-- and their escapes
unfoldable pub levels_of : List Pair → List ℕ
levels_of [] = []
levels_of (pair ∷ rest) = pair.escapes ∷ levels_of rest
