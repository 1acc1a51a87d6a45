-- `writer::write_fields` meets its contract: where the fields have room they end within the frame.
-- Assumes nothing.
use Prim.Native.Nat.{◌*◌}
use mathlib.Core.Path.{sym}
use lib.ListN.{length}
use Rattle.side_info.proofs.Layouts.{room_fits}
use Rattle.side_info.proofs.writer.write_fields.Goals as goal

pub put_fields-requires : goal.put_fields-requires
put_fields-requires c =
    let a = c.args in
    let p = c.requires in
    (p.0, room_fits (8 * length a.buf.now) a.at.tail a.fields.now p.1 (sym c.in_ok-tail.ensures))
