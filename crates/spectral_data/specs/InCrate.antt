-- The pairs in the crate reading, word for word as they were defined before request P4, which leaves that reading as it was.
-- `crate-untouched` of proofs/InCrate.antt proves that `read_pairs` of Spectral.antt, at the crate reading, is this on every frame.
use Rattle.std.specs.Prelude.{ℕ, zero, suc, ◌+◌, ◌*◌, ◌^◌, Bool, cond, List, [], ◌∷◌, ltb}
use Rattle.common.specs.Reply.{symbol}
use Rattle.common.specs.Tables.{row_at}
use Rattle.contexts.specs.Contexts.{lookup_start, row_of, escape_symbol, first_part, second_part, next_context}
use Rattle.coding.specs.Coding.{Coding, done, onward, met, symbol_by}
use Rattle.spectral_data.specs.Spectral.{Pair, Levels, low_bits, read_sign}

-- the symbols of pair p from a level on, at most so many, with the low bits so far; t is where its lookup begins
unfoldable pub crate_levels : List ℕ → List ℕ → Bool → ℕ → ℕ → ℕ → ℕ → ℕ → ℕ → Coding Levels
-- behind fourteen escapes no further symbol is read: the last is the escape itself
crate_levels lookup frequencies lsb p t zero level a b =
    done (record { escapes = level; last = escape_symbol; low_first = a; low_second = b })
crate_levels lookup frequencies lsb p t (suc left) level a b =
    onward (met (symbol p level) (symbol_by (row_at 17 (row_of lookup t level) frequencies)))
    (λ k. cond (ltb k escape_symbol)
    (done (record { escapes = level; last = k; low_first = a; low_second = b }))
    (onward (low_bits lsb p level)
    (λ low. crate_levels lookup frequencies lsb p t left (level + 1) (a + low.0 * 2 ^ level) (b + low.1 * 2 ^ level))))

-- pair p, whose lookup begins at t
abbrev pub crate_pair : List ℕ → List ℕ → Bool → ℕ → ℕ → Coding Pair
crate_pair lookup frequencies lsb p t =
    onward (crate_levels lookup frequencies lsb p t 14 0 0 0)
    (λ l. onward (read_sign p l.escapes (l.low_first + first_part l.last * 2 ^ l.escapes))
    (λ first. onward (read_sign p l.escapes (l.low_second + second_part l.last * 2 ^ l.escapes))
    (λ second. done (record { escapes = l.escapes; last = l.last; first = first; second = second }))))

-- n pairs from pair p on, by the context before them
unfoldable pub crate_pairs : List ℕ → List ℕ → Bool → ℕ → ℕ → ℕ → ℕ → ℕ → Coding (List Pair)
crate_pairs lookup frequencies lsb rate ne p zero context = done []
crate_pairs lookup frequencies lsb rate ne p (suc n) context =
    onward (crate_pair lookup frequencies lsb p (lookup_start context rate ne (2 * p)))
    (λ pair. onward (crate_pairs lookup frequencies lsb rate ne (p + 1) n (next_context context (first_part pair.last) (second_part pair.last) pair.escapes))
    (λ rest. done (pair ∷ rest)))
