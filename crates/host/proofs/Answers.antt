-- What is told of a frame follows from what the reader or the writer returned of it, accepted or refused.
-- Assumes nothing.
use Prim.Native.Nat.{ℕ}
use mathlib.Core.Path.{◌≡◌, refl}
use mathlib.Core.List.{List}
use Rattle.common.specs.Reply.{Answer, accepted, refused}
use Rattle.frame_writer.specs.Returned.{told as Written·told}
use Rattle.host.specs.Told.{number_of, place_behind}
use Rattle.recording.specs.Writer.{end_behind}

-- of a frame that is written
pub number-written : (a : Answer (List ℕ)) → number_of (Written·told a) ≡ number_of a
number-written (accepted f) = refl
number-written (refused r) = refl

pub place-written : (a : Answer (List ℕ)) (before : List ℕ) → place_behind (Written·told a) before ≡ place_behind a before
place-written (accepted f) before = refl
place-written (refused r) before = refl

-- of a frame's field
pub number-field : (a : Answer (List ℕ)) (offset : ℕ) → number_of (end_behind a offset) ≡ number_of a
number-field (accepted f) offset = refl
number-field (refused r) offset = refl
