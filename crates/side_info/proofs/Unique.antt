-- What an answer of the side information's reader or writer says decides the answer: every refusal by its number and values.
-- Assumes nothing.
use mathlib.Core.Path.{◌≡◌, refl}
use mathlib.Core.Bool.{cond}
use Rattle.std.specs.Prelude.{Result}
use lib.Dec.{eqb}
use lib.ListN.{get_or}
use Rattle.common.specs.Reply.{Reply, answer_by}
use Rattle.common.proofs.Unique.{result-unique}
use Rattle.buffer_reader.specs.declared.BufferError.TheVariants.{WrongLength, WidthNotListed, NoTailRoom, PastEnd}
use Rattle.buffer_reader.specs.declared.Cursor.{Cursor}
use Rattle.buffer_reader.proofs.Unique.{error_back}
use Rattle.side_info.specs.Reader
use Rattle.side_info.specs.Writer
use Rattle.side_info.specs.declared.SideInfo.{SideInfo}
use Rattle.side_info.specs.declared.fields.SideInfoError.{SideInfoError}
use Rattle.side_info.specs.declared.fields.SideInfoError.TheVariants.{OutsideLimits, BandwidthIdxOutOfRange, LastNonZeroTupleGreaterThanYLen, PlcTriggerSns1OutOfRange, PlcTriggerSns2OutOfRange, Buffer}
use Rattle.side_info.specs.declared.writer.SideWriteError.{SideWriteError}
use Rattle.side_info.specs.declared.writer.SideWriteError.TheVariants.{OutsideLimits as WriteOutside, FieldOutside, Buffer as WriteBuffer}

side_error_back : Reply → SideInfoError
side_error_back r =
    cond (eqb r.number 1) OutsideLimits
    (cond (eqb r.number 5) (BandwidthIdxOutOfRange (get_or r.values 0 0))
    (cond (eqb r.number 6) (LastNonZeroTupleGreaterThanYLen (get_or r.values 0 0) (get_or r.values 1 0))
    (cond (eqb r.number 7) (PlcTriggerSns1OutOfRange (get_or r.values 0 0))
    (cond (eqb r.number 8) (PlcTriggerSns2OutOfRange (get_or r.values 0 0)) (Buffer (error_back r))))))

side-found : (e : SideInfoError) → side_error_back (Reader.reply_of e) ≡ e
unfolding side_error_back error_back
side-found OutsideLimits = refl
side-found (BandwidthIdxOutOfRange b) = refl
side-found (LastNonZeroTupleGreaterThanYLen l n) = refl
side-found (PlcTriggerSns1OutOfRange j) = refl
side-found (PlcTriggerSns2OutOfRange j) = refl
side-found (Buffer (WrongLength n)) = refl
side-found (Buffer (WidthNotListed n)) = refl
side-found (Buffer (NoTailRoom n b)) = refl
side-found (Buffer (PastEnd h)) = refl

pub side-unique : (a b : Result (SideInfo × Cursor) SideInfoError) → answer_by Reader.reply_of a ≡ answer_by Reader.reply_of b → a ≡ b
side-unique = result-unique Reader.reply_of side_error_back side-found

write_error_back : Reply → SideWriteError
write_error_back r =
    cond (eqb r.number 1) WriteOutside (cond (eqb r.number 13) FieldOutside (WriteBuffer (error_back r)))

written-found : (e : SideWriteError) → write_error_back (Writer.reply_of e) ≡ e
unfolding write_error_back error_back
written-found WriteOutside = refl
written-found FieldOutside = refl
written-found (WriteBuffer (WrongLength n)) = refl
written-found (WriteBuffer (WidthNotListed n)) = refl
written-found (WriteBuffer (NoTailRoom n b)) = refl
written-found (WriteBuffer (PastEnd h)) = refl

pub written-unique : (a b : Result Cursor SideWriteError) → answer_by Writer.reply_of a ≡ answer_by Writer.reply_of b → a ≡ b
written-unique = result-unique Writer.reply_of write_error_back written-found
