-- What an answer of the decoder says decides the answer: each refusal is found again by its number. Assumes nothing.
use Prim.Native.Nat.{ℕ}
use mathlib.Core.Path.{◌≡◌, refl, ap}
use mathlib.Core.Bool.{cond}
use Rattle.std.specs.Prelude.{Result, Ok, Err}
use lib.Dec.{eqb}
use lib.ListN.{get_or}
use Rattle.common.specs.Reply.{Reply, Answer, accepted, refused, answer_by}
use Rattle.common.proofs.Unique.{from_back, result-unique}
use Rattle.buffer_reader.specs.declared.Cursor.{Cursor}
use Rattle.buffer_reader.specs.declared.BufferError.TheVariants.{WrongLength, WidthNotListed, NoTailRoom, PastEnd}
use Rattle.buffer_reader.proofs.Unique.{error_back}
use Rattle.range_decoder.specs.Decoder.{Decoded, reply_of, symbol_of}
use Rattle.range_decoder.specs.declared.DecoderState.{DecoderState}
use Rattle.range_decoder.specs.declared.CodecError.{CodecError}
use Rattle.range_decoder.specs.declared.CodecError.TheVariants.{OutsideLimits, RowFails, LowBeyondLimit, Buffer}

unfoldable pub codec_back : Reply → CodecError
codec_back r =
    cond (eqb r.number 1) OutsideLimits
    (cond (eqb r.number 3) RowFails
    (cond (eqb r.number 11) (LowBeyondLimit (get_or r.values 0 0) (get_or r.values 1 0)) (Buffer (error_back r))))

pub codec-back : (e : CodecError) → codec_back (reply_of e) ≡ e
unfolding codec_back error_back
codec-back OutsideLimits = refl
codec-back RowFails = refl
codec-back (LowBeyondLimit low limit) = refl
codec-back (Buffer (WrongLength n)) = refl
codec-back (Buffer (WidthNotListed n)) = refl
codec-back (Buffer (NoTailRoom n b)) = refl
codec-back (Buffer (PastEnd h)) = refl

pub codec-unique : (a b : CodecError) → reply_of a ≡ reply_of b → a ≡ b
codec-unique = from_back reply_of codec_back codec-back

-- the start, and the step on a lent state
pub coder-unique : {A : Type 0} (a b : Result A CodecError) → answer_by reply_of a ≡ answer_by reply_of b → a ≡ b
coder-unique = result-unique reply_of codec_back codec-back

-- the step by value
abbrev symbol_back : Answer (Decoded × Cursor) → Result (ℕ × DecoderState × Cursor) CodecError
symbol_back (accepted v) = Ok (v.0.symbol, v.0.state, v.1)
symbol_back (refused r) = Err (codec_back r)

pub symbol-unique : (a b : Result (ℕ × DecoderState × Cursor) CodecError) → symbol_of a ≡ symbol_of b → a ≡ b
symbol-unique = from_back symbol_of symbol_back (elim [ Ok v ↦ refl | Err e ↦ ap Err (codec-back e) ])
