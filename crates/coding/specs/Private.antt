-- Not needed to believe anything: what private contracts and proofs here speak by. No public contract cites it.
use Rattle.std.specs.Prelude.{ℕ, ◌≡◌, true, ◌&&◌, leb, Result, Ok, Err}
use Rattle.common.specs.Reply.{Reply, Answer, accepted, refused}
use Rattle.buffer_reader.specs.declared.Cursor.{Cursor}
use Rattle.coding.specs.Coding.{Coded, refusal_of}
use Rattle.coding.specs.declared.Refusal.{Refusal}
use Rattle.range_decoder.specs.declared.DecoderState.{DecoderState}

-- a refusal 9 to 11
abbrev pub InStep : Reply → Type 0
InStep r = (leb 9 r.number && leb r.number 11) ≡ true

-- what the result of a symbol says
abbrev pub symbol_met_of : Result (ℕ × DecoderState × Cursor) Refusal → Answer (Coded ℕ × Cursor)
symbol_met_of (Ok (k, s, c)) = accepted (record { value = k; state = s }, c)
symbol_met_of (Err e) = refused (refusal_of e)
