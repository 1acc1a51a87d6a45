-- Document 01, "The coder": "a second form that alters a lent decoder state". The answer is the step's without the state; the state behind is
-- the step's, and refused, as it was.
use Rattle.std.specs.Prelude.{ℕ}
use Rattle.common.specs.Reply.{Answer, accepted, refused}
use Rattle.buffer_reader.specs.declared.Cursor.{Cursor}
use Rattle.range_decoder.specs.Decoder.{Decoded}
use Rattle.range_decoder.specs.declared.DecoderState.{DecoderState}

-- the symbol and the next cursor, or the refusal
abbrev pub symbol_alone : Answer (Decoded × Cursor) → Answer (ℕ × Cursor)
symbol_alone (accepted v) = accepted (v.0.symbol, v.1)
symbol_alone (refused r) = refused r

-- the state behind a step, by the state before it
abbrev pub state_behind : DecoderState → Answer (Decoded × Cursor) → DecoderState
state_behind before (accepted v) = v.0.state
state_behind before (refused r) = before
