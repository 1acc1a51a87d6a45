-- `inner::put_early` meets its contract: the fields, and the pairs' bits behind them, which are few. Assumes nothing.
use mathlib.Core.Path.{◌≡◌, refl, ◌∙◌}
use native.Mathlib.Omega.{arith}
use Rattle.frame_writer.specs.Returned.{content_of}
use Rattle.frame_writer.proofs.Streams.{pairs-there, early-length}
use Rattle.frame_writer.proofs.Fills.{fields_by, early-counted, early-put, early-puts}
use Rattle.frame_writer.proofs.inner.put_early.Goals as goal
use Rattle.frame_writer.proofs.inner.put_early.Goals.{Joined-writing, then-writing, else-writing}

-- the fields are put where it writes
fields : (c : Joined-writing) → let a = c.args in c.if-writing.buf ≡ fields_by a.writing a.configuration.fs_ind a.ne a.content.now.side a.buf.now
fields c = elim c.if-writing.branch [
  | then-writing w ↦ w.buf-is ∙ rw w.if-writing.true w.put.ensures
  | else-writing w ↦ w.buf-is ∙ rw w.if-writing.false refl
]

pub put-requires : goal.put-requires
put-requires c =
    let a = c.args in
    let (j, p, room) = c.requires in
    (j.fs-low, j.least, j.most, p.sides, j.short, omega (arith, room c.if-writing.true, early-length a.configuration.fs_ind a.ne (content_of a.content.now)))

pub put_pairs-requires : goal.put_pairs-requires
put_pairs-requires c =
    let a = c.args in
    let (j, p, room) = c.requires in
    (omega (arith, (pairs-there a.configuration.fs_ind a.ne a.content.now.side j.most p.sides).0, p.count), early-puts a.writing a.configuration a.ne (content_of a.content.now) c.side_length-place.result a.buf.now c.if-writing.buf j p c.side_length-place.ensures c.if-writing.auto.buf room)

pub returns : goal.returns
returns c =
    let a = c.args in
    let w = content_of a.content.now in
    record {
      count = early-counted a.configuration.fs_ind a.ne w c.side_length-place.result c.put_pairs.result c.side_length-place.ensures c.put_pairs.ensures.next;
      lent = early-put a.writing a.configuration.fs_ind a.ne w c.side_length-place.result a.buf.now c.if-writing.buf c.put_pairs.new.buf c.side_length-place.ensures (fields (goal.at.returns c).Joined-writing) c.put_pairs.ensures.lent;
    }
