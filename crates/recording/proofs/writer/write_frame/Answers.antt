-- `writer::write_frame` meets its contract: 18 is judged before anything else, a refused frame leaves the part behind the header as it
-- was, and the header is laid only before a frame that is written. Assumes nothing.
use Prim.Native.Nat.{ℕ, ◌+◌, ◌-◌}
use mathlib.Core.Path.{◌≡◌, refl, ap, ◌∙◌}
use mathlib.Core.Bool.{true}
use mathlib.Core.List.{List}
use native.Mathlib.Omega.{arith}
use lib.Dec.{leb}
use lib.ListN.{length}
use borrow.Author.Tests.{le-leb, leb-true}
use borrow.Rule.Slice.PartMut.{mid_of, mid_len}
use Rattle.common.proofs.Bools.{confirmed}
use Rattle.common.specs.TableSets.{set_of}
use Rattle.std.proofs.lemmas.Result.{err_from_is_err_and}
use Rattle.frame_writer.specs.Returned.{content_of}
use Rattle.recording.specs.Tagged.{field_most}
use Rattle.recording.proofs.Fields.{frame_refused, frame-written}
use mathlib.Core.Bool.{not}
use Rattle.recording.proofs.writer.write_frame.Goals as goal
use Rattle.recording.proofs.writer.write_frame.Goals.{Else-not-within, Start}

-- behind both tests the frame is not longer than a field may be, and the field lies within the buffer
short : (c : Else-not-within) → leb c.args.bytes field_most ≡ true
short c = le-leb _ field_most c.if-bytes-gt-FIELD_MOST.false

within : (c : Else-not-within) → leb (c.args.offset + (3 + c.args.bytes)) (length c.args.buffer.now) ≡ true
within c = confirmed c.within.ensures (ap not c.if-not-within.false)

-- the part behind the header, and its size
abbrev part : Else-not-within → List ℕ
part c =
    let a = c.args in
    mid_of (a.offset + 3) (a.offset + 3 + a.bytes - (a.offset + 3)) a.buffer.now

size : (c : Else-not-within) → length (part c) ≡ c.args.bytes
size c =
    let a = c.args in
    mid_len (a.offset + 3) (a.offset + 3 + a.bytes) a.buffer.now (omega (arith, leb-true _ _ (within c))) ∙ omega arith

pub returns-in_err-write : goal.returns-in_err-write
returns-in_err-write c =
    let a = c.args in
    let at = (goal.at.returns-in_err-write c).Else-not-within in
    let x = frame_refused a.configuration (set_of a.tables.now) (content_of a.content.now) a.bytes a.offset a.buffer.now (short at) (within at) (part at) _ _ refl (size at) c.in_err-write.ensures.answer c.write.ensures.lent in
    let p = err_from_is_err_and c.from_residual.result c.from_residual.ensures.1 in
    rw (p.1, p.2) (record { answer = x.told_is; lent = x.lent_is })

pub returns : goal.returns
returns c =
    let a = c.args in
    let at = (goal.at.returns c).Else-not-within in
    let x = frame-written a.configuration (set_of a.tables.now) (content_of a.content.now) a.bytes a.offset a.buffer.now (short at) (within at) (part at) _ _ (size at) c.in_ok-write.ensures.answer c.write.ensures.lent c.put_header.ensures in
    record { answer = x.told_is; lent = x.lent_is }
