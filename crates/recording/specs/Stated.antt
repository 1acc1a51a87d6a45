-- What is stated of a walk: its fields lie behind one another without gap or overlap, and 18 names the first malformed one. And of a
-- field that was written: it is found.
use Rattle.std.specs.Prelude.{ℕ, ◌+◌, ◌≡◌, List, [], ◌∷◌, ◌++◌, length}
use Rattle.common.specs.Reply.{accepted, refused, field_malformed}
use Rattle.common.specs.Tables.{Tables}
use Rattle.common.specs.declared.configuration.Configuration.{Configuration}
use Rattle.frame_writer.specs.Frame.{Content, write_frame}
use Rattle.recording.specs.Tagged.{tag_frame, found, field_at, after, end_of}
use Rattle.recording.specs.Contents.{content_of}
use Rattle.recording.specs.Walk.{Ending, whole, malformed, Walk}
use Rattle.recording.specs.declared.reader.Before.{Before}
use Rattle.recording.specs.declared.reader.Field.{Field}

-- fields from one offset to another: each begins where the one before it ends
abbrev pub Behind : ℕ → List Field → ℕ → Type 0
Behind from [] to = from ≡ to
Behind from (x ∷ xs) to = (x.at ≡ from) × (x.content ≡ from + 3) × Behind (end_of x) xs to

abbrev pub after_all : Before → List Field → Before
after_all b [] = b
after_all b (x ∷ xs) = after_all (after b x.tag) xs

-- each is what stands at its offset behind those before it
abbrev pub Each : ℕ → Before → List ℕ → ℕ → List Field → Type 0
Each most b input at [] = Unit {0}
Each most b input at (x ∷ xs) =
    (field_at most b input at ≡ accepted (found x)) × Each most (after b x.tag) input (end_of x) xs

-- how it ends at an offset: that is the input's end, or the field there is refused 18 with that very offset
abbrev pub EndsAt : ℕ → Before → List ℕ → ℕ → Ending → Type 0
EndsAt most b input to whole = to ≡ length input
EndsAt most b input to (malformed r) = (r ≡ field_malformed to) × (field_at most b input to ≡ refused r)

pub record Walked (most : ℕ) (b : Before) (input : List ℕ) (at : ℕ) (w : Walk) : Type 0 where
  pub to : ℕ
  pub behind : Behind at w.fields to
  pub each : Each most b input at w.fields
  pub last : EndsAt most (after_all b w.fields) input to w.ending

-- a walk with fields before it
abbrev pub ahead : List Field → Walk → Walk
ahead xs w = record { fields = xs ++ w.fields; ending = w.ending }

-- a frame's field at an offset
abbrev pub frame_field : ℕ → ℕ → Field
frame_field offset bytes = record { tag = tag_frame; at = offset; content = offset + 3; size = bytes }

-- what stands at an offset is the field of a frame of so many bytes, and its content is the frame that is written of k, t and w
pub record FrameFound (k : Configuration) (t : Tables) (w : Content) (bytes offset most : ℕ) (b : Before) (input : List ℕ) : Type 0 where
  pub field : field_at most b input offset ≡ accepted (found (frame_field offset bytes))
  pub frame : write_frame k t w bytes ≡ accepted (content_of input (frame_field offset bytes))
