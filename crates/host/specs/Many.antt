-- Frames of one length that stand one behind the other, each read into the same lines.
use Rattle.std.specs.Prelude.{ℕ, zero, suc, ◌+◌, List, take, drop, ℤ}
use Rattle.common.specs.Reply.{Answer, accepted, refused}
use Rattle.frame_reader.specs.Frame.{Frame}
use Rattle.frame_reader.specs.Returned.{lines_behind}

abbrev pub one_if_read : {A : Type 0} → Answer A → ℕ
one_if_read (accepted a) = 1
one_if_read (refused r) = 0

-- how many of n frames are accepted
unfoldable pub accepted_of : (List ℕ → Answer Frame) → ℕ → ℕ → List ℕ → ℕ
accepted_of read zero bytes frames = 0
accepted_of read (suc n) bytes frames = one_if_read (read (take bytes frames)) + accepted_of read n bytes (drop bytes frames)

-- the lines behind all n
unfoldable pub lines_after : (List ℕ → Answer Frame) → ℕ → ℕ → List ℕ → List ℤ → List ℤ
lines_after read zero bytes frames before = before
lines_after read (suc n) bytes frames before =
    lines_after read n bytes (drop bytes frames) (lines_behind (read (take bytes frames)) before)
