-- What is accepted so far and what is left make the whole count, and the lines that are left to read into make the whole's lines.
-- Assumes nothing.
use Prim.Native.Nat.{◌+◌, ◌/◌, ◌≤◌}
use mathlib.Core.Path.{◌≡◌}
use lib.ListN.{length}
use Rattle.host.specs.Many.{accepted_of, lines_after}
use Rattle.common.specs.TableSets.{passed_of}
use Rattle.frame_reader.specs.Frame.{read_frame}
use Rattle.host.proofs.many.read_each.Given as goal

abbrev pub invariant-loop-frame : goal.invariant-loop-frame
invariant-loop-frame l =
    let each = read_frame l.configuration (passed_of l.tables) (length l.initial.lines) in
    let rest = l.frame-iterator.rest.now in
    (l.frame-iterator.size ≡ l.bytes) ×
    (length l.lines ≡ length l.initial.lines) ×
    (l.read + length rest / l.bytes ≤ length l.frames / l.bytes) ×
    (l.read + accepted_of each (length rest / l.bytes) l.bytes rest ≡ accepted_of each (length l.frames / l.bytes) l.bytes l.frames) ×
    (lines_after each (length rest / l.bytes) l.bytes rest l.lines ≡ lines_after each (length l.frames / l.bytes) l.bytes l.frames l.initial.lines)
