-- What is accepted so far and what is left make the whole count, and the lines that are left to read into make the whole's lines.
-- Assumes nothing.
use Prim.Native.Nat.{ℕ, ◌+◌, ◌/◌, ◌<◌}
use mathlib.Core.Path.{◌≡◌, sym, ap, ◌∙◌}
use mathlib.Core.List.{◌++◌}
use native.Mathlib.Omega.{arith}
use lib.ListN.{length}
use Rattle.common.proofs.Configurations.{frame-ranges}
use Rattle.common.specs.TableSets.{passed_of}
use Rattle.frame_reader.specs.Frame.{read_frame}
use Rattle.frame_reader.specs.Returned.{lines_behind}
use Rattle.host.specs.Many.{one_if_read, lines_after}
use Rattle.host.proofs.Frames.{one_more, accepted-more, accepted-rest, lines_more, lines_rest}
use Rattle.host.proofs.many.read_each.Goals as goal
use Rattle.host.proofs.many.read_each.Goals.{Start, In-Some}

-- a frame that the configuration takes is not empty
some : (c : Start) → 0 < c.args.bytes
some c = omega (arith, (frame-ranges c.args.configuration c.args.bytes c.requires.0).3)

-- the part that comes has a frame's length, and the rest is behind it
parted : (c : In-Some) → (length c.in-Some.frame.now ≡ c.args.bytes) × (c.loop-frame.frame-iterator.rest.now ≡ c.in-Some.frame.now ++ c.next.new.self.rest.now)
parted c = (c.in-Some.ensures.steps.1.1 ∙ c.loop-frame.invariant.0, c.in-Some.ensures.steps.1.0)

-- so one more of those that fit is left
left_more : (c : In-Some) → length c.loop-frame.frame-iterator.rest.now / c.args.bytes ≡ length c.next.new.self.rest.now / c.args.bytes + 1
left_more c =
    rw ((parted c).1, one_more (read_frame c.args.configuration (passed_of c.args.tables.now) 0) c.args.bytes c.in-Some.frame.now c.next.new.self.rest.now (some (goal.at.In-Some c).Start) (parted c).0)
    (omega arith)

pub loop-frame-preserved : goal.loop-frame-preserved
loop-frame-preserved c =
    let a = c.args in
    let i = (goal.at.loop-frame-preserved c).In-Some in
    let p = parted i in
    let x = c.in-Some.frame.now in
    let rest = c.next.new.self.rest.now in
    let each = read_frame a.configuration (passed_of a.tables.now) in
    let read = each (length a.lines.now) in
    let n = some (goal.at.In-Some i).Start in
    let number = c.read_one-read.ensures.number ∙ ap (λ (n : ℕ). one_if_read (each n x)) c.loop-frame.invariant.1 in
    let lent = c.read_one-read.ensures.lent ∙ ap (λ (n : ℕ). lines_behind (each n x) c.loop-frame.lines) c.loop-frame.invariant.1 in
    let turned = rw (← p.1) at (accepted-more read a.bytes x rest n p.0) in
    let lined = rw (← p.1) at (lines_more read a.bytes x rest n p.0 c.loop-frame.lines) in (
      c.in-Some.ensures.steps.0 ∙ c.loop-frame.invariant.0,
      omega arith,
      omega (arith, left_more i, c.read_one-read.ensures.low, c.loop-frame.invariant.2),
      omega (arith, number, turned, c.loop-frame.invariant.3),
      ap (λ ls. lines_after read (length rest / a.bytes) a.bytes rest ls) lent ∙ sym lined ∙ c.loop-frame.invariant.4,
    )

pub returns : goal.returns
returns c =
    let a = c.args in
    let read = read_frame a.configuration (passed_of a.tables.now) (length a.lines.now) in
    let rest = c.loop-frame.frame-iterator.rest.now in
    let few : length rest < a.bytes = omega (arith, c.in-None.ensures.steps.1.0, c.loop-frame.invariant.0) in record {
      number = omega (arith, accepted-rest read a.bytes rest few, c.loop-frame.invariant.3);
      lent = sym (lines_rest read a.bytes rest c.loop-frame.lines few) ∙ c.loop-frame.invariant.4;
    }
