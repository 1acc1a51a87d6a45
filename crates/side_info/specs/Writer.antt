-- What the side information's writer answers, and the frame behind it: refusals 1, 2, 13, then 9 for the first field that
-- passes the frame's start.
use Rattle.std.specs.Prelude.{ℕ, ◌*◌, not, List, length}
use Rattle.common.specs.Reply.{Reply, Answer, accepted, given, and_then as ◌>>=◌, unless_refused, outside_limits, field_outside}
use Rattle.common.specs.Configuration.{ne, frame_lines}
use Rattle.common.specs.declared.configuration.Configuration.{Configuration}
use Rattle.buffer_reader.specs.Reads
use Rattle.buffer_reader.specs.declared.Cursor.{Cursor}
use Rattle.side_info.specs.Record.{side_passes}
use Rattle.side_info.specs.Layout.{side_fields, room_for, put_fields}
use Rattle.side_info.specs.declared.SideInfo.{SideInfo}
use Rattle.side_info.specs.declared.writer.SideWriteError.{SideWriteError}
use Rattle.side_info.specs.declared.writer.SideWriteError.TheVariants.{OutsideLimits, FieldOutside, Buffer}

-- a record: the answer
abbrev pub write_side : Configuration → SideInfo → List ℕ → Cursor → Answer Cursor
write_side k s f c = do
  ne ← frame_lines k (length f)  -- 1, 2
  tail ← given (not (side_passes k.fs_ind ne s)) field_outside (room_for (8 * length f) c.tail (side_fields k.fs_ind ne s))  -- 13, then 9
  accepted (record { head = c.head; tail = tail })

-- and the frame behind it
abbrev pub side_written : Configuration → SideInfo → List ℕ → Cursor → List ℕ
side_written k s f c =
    unless_refused (write_side k s f c) f
    (put_fields f c.tail (side_fields k.fs_ind (ne k.duration k.fs_ind) s))

abbrev pub reply_of : SideWriteError → Reply
reply_of OutsideLimits = outside_limits
reply_of FieldOutside = field_outside
reply_of (Buffer e) = Reads.reply_of e
