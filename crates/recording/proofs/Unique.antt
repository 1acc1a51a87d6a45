-- What an answer says decides the answer: the enum is found again from its reply.
-- Assumes nothing.
use mathlib.Core.Path.{◌≡◌, refl}
use mathlib.Core.Bool.{cond}
use lib.Dec.{eqb}
use Prim.Native.Nat.{ℕ}
use lib.ListN.{get_or}
use Rattle.common.specs.Reply.{Answer, accepted, refused}
use Rattle.common.proofs.Unique.{from_back}
use Rattle.frame_writer.specs.declared.WriteError.TheVariants.{OutsideLimits, WrongLength, TablesFail, WrongCount, FieldOutside, LineOutside, ResidualTooLong, NoRoom}
use Rattle.frame_writer.proofs.Unique.{error_back}
use Rattle.recording.specs.Tagged.{Next, found, ends, answer_of}
use Rattle.recording.specs.Writer.{written_of}
use Rattle.recording.specs.declared.reader.Field.{Field}
use Rattle.recording.specs.declared.reader.Malformed.{Malformed}
use Rattle.recording.specs.declared.writer.FieldWriteError.{FieldWriteError}
use Rattle.recording.specs.declared.writer.FieldWriteError.TheVariants.{NoPlace, Frame}
use Rattle.std.specs.Prelude.{Result, Ok, Err, Option, None, Some}

answer_back : Answer Next → Result (Option Field) Malformed
answer_back (accepted (found x)) = Ok (Some x)
answer_back (accepted ends) = Ok None
answer_back (refused r) = Err (record { 0 = get_or r.values 0 0 })

pub field-at-unique : (a b : Result (Option Field) Malformed) → answer_of a ≡ answer_of b → a ≡ b
unfolding answer_back
field-at-unique = from_back answer_of answer_back back
  where
    back : (r : Result (Option Field) Malformed) → answer_back (answer_of r) ≡ r
    back (Ok (Some x)) = refl
    back (Ok None) = refl
    back (Err e) = refl

written_back : Answer ℕ → Result ℕ FieldWriteError
written_back (accepted end) = Ok end
written_back (refused r) =
    Err (cond (eqb r.number 18) (NoPlace (get_or r.values 0 0)) (Frame (error_back r)))

pub field-written-unique : (a b : Result ℕ FieldWriteError) → written_of a ≡ written_of b → a ≡ b
unfolding written_back error_back
field-written-unique = from_back written_of written_back back
  where
    back : (r : Result ℕ FieldWriteError) → written_back (written_of r) ≡ r
    back (Ok end) = refl
    back (Err (NoPlace offset)) = refl
    back (Err (Frame OutsideLimits)) = refl
    back (Err (Frame (WrongLength len))) = refl
    back (Err (Frame TablesFail)) = refl
    back (Err (Frame (WrongCount count))) = refl
    back (Err (Frame FieldOutside)) = refl
    back (Err (Frame (LineOutside place))) = refl
    back (Err (Frame ResidualTooLong)) = refl
    back (Err (Frame NoRoom)) = refl
