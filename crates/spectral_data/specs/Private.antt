-- Not needed to believe anything: what private contracts and proofs here speak by. No public contract cites it.
use Rattle.std.specs.Prelude.{Result, Ok, Err, ℕ, ◌+◌, ◌*◌, ◌^◌, ◌≤◌, ◌<◌, ◌≡◌, Bool, true, cond, List, ◌++◌, ◌⊎◌, ltb, ℤ, length, drop}
use Rattle.common.specs.Reply.{Answer, accepted, refused, symbol}
use Rattle.common.specs.Tables.{row_at}
use Rattle.contexts.specs.Contexts.{row_of, escape_symbol, first_part, second_part}
use Rattle.contexts.specs.Lines.{magnitude_at}
use Rattle.buffer_reader.specs.declared.Cursor.{Cursor}
use Rattle.range_decoder.specs.Decoder.{range_passes}
use Rattle.range_decoder.specs.declared.DecoderState.{DecoderState}
use Rattle.sending.specs.Sending.{Bit}
use Rattle.sending.specs.Private.{put_all}
use Rattle.coding.specs.Coding.{Coded, Coding, done, onward, met, symbol_by, met_of}
use Rattle.coding.specs.declared.Met.{Met}
use Rattle.spectral_data.specs.Spectral.{Pair, Levels, behind_escape, read_sign, lines_of}
use Rattle.spectral_data.specs.Spectral.{levels_of as levels_in·pairs}
use Rattle.spectral_data.specs.Returned.{error_of}
use Rattle.spectral_data.specs.declared.inner.PairsError.{PairsError}
use Rattle.spectral_data.specs.declared.inner.Turn.{Turn}
use Rattle.spectral_data.specs.declared.inner.Turn.TheVariants.{Last, Escape}
use Rattle.spectral_data.specs.declared.inner.Levels.{Levels as LevelsHeld}
use Rattle.spectral_data.specs.declared.inner.Pair.{Pair as PairHeld}

-- what the frame's reader has judged before this stage
pub record Judged (f : List ℕ) (s : DecoderState) : Type 0 where
  pub short : length f ≤ 65535
  pub range : range_passes s.range ≡ true

-- what the frame's writer has judged: no line is -32768
abbrev pub Modest : List ℤ → Type 0
Modest lines = (k : ℕ) → magnitude_at lines k ≤ 32767

-- one level of a pair: its last symbol, or an escape with its two low bits
pub data Turned : Type 0 where
  last : ℕ → Turned
  escape : ℕ → ℕ → Turned

-- a symbol of pair p at a level; t is where its lookup begins
abbrev pub read_symbol : List ℕ → List ℕ → ℕ → ℕ → ℕ → Coding ℕ
read_symbol lookup frequencies p t level = met (symbol p level) (symbol_by (row_at 17 (row_of lookup t level) frequencies))

abbrev pub turn_by : List ℕ → List ℕ → Bool → Bool → ℕ → ℕ → ℕ → Coding Turned
turn_by lookup frequencies standard lsb p t level =
    onward (read_symbol lookup frequencies p t level)
    (λ k. cond (ltb k escape_symbol)
    (done (last k))
    (onward (behind_escape standard lsb p level) (λ low. done (escape low.0 low.1))))

-- what is known of a pair's levels where all are read
pub record Bounded (l : Levels) : Type 0 where
  pub few : l.escapes ≤ 14
  pub symbol_most : l.last ≤ 16
  pub first_low : l.low_first < 2 ^ l.escapes
  pub second_low : l.low_second < 2 ^ l.escapes
  pub ended : ((l.escapes < 14) × (l.last < 16)) ⊎ ((l.escapes ≡ 14) × (l.last ≡ 16))

-- the signs of a pair, behind its levels
abbrev pub signs_by : ℕ → Levels → Coding Pair
signs_by p l =
    onward (read_sign p l.escapes (l.low_first + first_part l.last * 2 ^ l.escapes))
    (λ first. onward (read_sign p l.escapes (l.low_second + second_part l.last * 2 ^ l.escapes))
    (λ second. done (record { escapes = l.escapes; last = l.last; first = first; second = second })))

-- n pairs laid into the front of two arrays; what lies behind is as it was
abbrev pub filling : ℕ → List ℤ → List ℕ → Coding (List Pair) → Coding (List ℤ × List ℕ)
filling n lines levels pairs =
    onward pairs (λ read. done (lines_of read ++ drop (2 * n) lines, levels_in·pairs read ++ drop n levels))

-- what each enum and struct of the code says
abbrev pub low_of : DecoderState → Result (ℕ × ℕ × Cursor) PairsError → Answer (Coded (ℕ × ℕ) × Cursor)
low_of s (Ok (a, b, c)) = accepted (record { value = (a, b); state = s }, c)
low_of s (Err e) = refused (error_of e)

abbrev pub symbol_of : Result (ℕ × DecoderState × Cursor) Met → Answer (Coded ℕ × Cursor)
symbol_of (Ok (k, s, c)) = accepted (record { value = k; state = s }, c)
symbol_of (Err m) = refused (met_of m)

abbrev pub turned_of : Turn → Coded Turned × Cursor
turned_of (Last k s c) = (record { value = last k; state = s }, c)
turned_of (Escape a b s c) = (record { value = escape a b; state = s }, c)

abbrev pub turn_of : Result Turn PairsError → Answer (Coded Turned × Cursor)
turn_of (Ok t) = accepted (turned_of t)
turn_of (Err e) = refused (error_of e)

abbrev pub levels_in : LevelsHeld → Levels
levels_in l = record { escapes = l.escapes; last = l.last; low_first = l.low_first; low_second = l.low_second }

abbrev pub levels_of : Result (LevelsHeld × DecoderState × Cursor) PairsError → Answer (Coded Levels × Cursor)
levels_of (Ok (l, s, c)) = accepted (record { value = levels_in l; state = s }, c)
levels_of (Err e) = refused (error_of e)

abbrev pub line_of : DecoderState → Result (ℤ × Cursor) PairsError → Answer (Coded ℤ × Cursor)
line_of s (Ok (x, c)) = accepted (record { value = x; state = s }, c)
line_of s (Err e) = refused (error_of e)

abbrev pub pair_in : PairHeld → Pair
pair_in x = record { escapes = x.escapes; last = x.last; first = x.first; second = x.second }

abbrev pub pair_of : Result (PairHeld × DecoderState × Cursor) PairsError → Answer (Coded Pair × Cursor)
pair_of (Ok (x, s, c)) = accepted (record { value = pair_in x; state = s }, c)
pair_of (Err e) = refused (error_of e)

-- the answer, with what the two arrays hold behind it where it is accepted
abbrev pub pairs_of : Result (DecoderState × Cursor) PairsError → List ℤ → List ℕ → Answer (Coded (List ℤ × List ℕ) × Cursor)
pairs_of (Ok (s, c)) lines levels = accepted (record { value = (lines, levels); state = s }, c)
pairs_of (Err e) lines levels = refused (error_of e)

-- bits put, or counted alone, from a place on, with the place behind them
pub record Put (writing : Bool) (f : List ℕ) (place : ℕ) (bits : List Bit) (next : ℕ) (g : List ℕ) : Type 0 where
  pub behind : next ≡ place + length bits
  pub lent : g ≡ put_all writing f place bits
