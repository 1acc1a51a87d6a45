-- Document 01, "Dump": "Writing such a field, the frame goes straight into the part behind its three header bytes." "The field writer gives
-- 18, with the offset where the field would begin, before the frame's own refusals."
use Rattle.std.specs.Prelude.{ℕ, ◌+◌, ◌/◌, ◌%◌, not, ◌&&◌, List, ◌∷◌, leb, length, Result, Ok, Err}
use Rattle.std.proofs.lemmas.List.Edits.{sets}
use Rattle.common.specs.Reply.{Reply, Answer, accepted, refused, given, and_then, field_malformed}
use Rattle.common.specs.Tables.{Tables}
use Rattle.common.specs.declared.configuration.Configuration.{Configuration}
use Rattle.frame_writer.specs.Frame.{Content, write_frame}
use Rattle.frame_writer.specs.Returned
use Rattle.recording.specs.Tagged.{field_most, tag_frame}
use Rattle.recording.specs.declared.writer.FieldWriteError.{FieldWriteError}
use Rattle.recording.specs.declared.writer.FieldWriteError.TheVariants.{NoPlace, Frame}

-- a frame's field: "tag byte, two-byte big-endian length", and the frame
abbrev pub field_of : List ℕ → List ℕ
field_of frame = tag_frame ∷ length frame / 256 ∷ length frame % 256 ∷ frame

-- "tagged field malformed, or no room for it": longer than a field may be, or not complete within the buffer
abbrev pub write_field : Configuration → Tables → Content → ℕ → ℕ → ℕ → Answer (List ℕ)
write_field k t w bytes room offset =
    given (not (leb bytes field_most && leb (offset + (3 + bytes)) room)) (field_malformed offset)
    (and_then (write_frame k t w bytes) (λ frame. accepted (field_of frame)))

-- the buffer behind it: refused, it is as it was, its header bytes too
abbrev pub buffer_behind : Answer (List ℕ) → ℕ → List ℕ → List ℕ
buffer_behind (accepted field) offset before = sets before offset field
buffer_behind (refused r) offset before = before

-- document 01's number and values of each refusal
abbrev pub reply_of : FieldWriteError → Reply
reply_of (NoPlace offset) = field_malformed offset
reply_of (Frame e) = Returned.reply_of e

-- where the next field begins, or the refusal
abbrev pub written_of : Result ℕ FieldWriteError → Answer ℕ
written_of (Ok end) = accepted end
written_of (Err e) = refused (reply_of e)

abbrev pub end_behind : Answer (List ℕ) → ℕ → Answer ℕ
end_behind a offset = and_then a (λ field. accepted (offset + length field))
