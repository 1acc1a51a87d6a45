-- `writer::put_header` meets its contract: the part with the header in it is the header laid.
-- Assumes nothing.
use mathlib.Core.Path.{◌≡◌, refl, ap, ◌∙◌}
use mathlib.Core.List.{List, [], ◌∷◌}
use Prim.Native.Nat.{ℕ, ◌+◌, ◌-◌, ◌/◌, ◌%◌}
use native.Mathlib.Omega.{arith}
use borrow.Rule.Slice.PartMut.{put_mid}
use Rattle.recording.specs.Tagged.{tag_frame}
use Rattle.recording.proofs.Fields.{part-laid}
use Rattle.recording.proofs.writer.put_header.Goals as goal

pub returns : goal.returns
returns c =
    let a = c.args in
    let high : a.bytes / 256 % 256 ≡ a.bytes / 256 = omega (arith, c.requires.0) in
    let is : c.copy_from_slice.new.self ≡ tag_frame ∷ a.bytes / 256 ∷ a.bytes % 256 ∷ [] = rw (c.copy_from_slice.ensures.after, c.to_be_bytes.ensures, high) refl in
    ap (λ (l : List ℕ). put_mid a.offset (a.offset + 3 - a.offset) a.buffer.now l) is ∙
    part-laid a.offset (a.offset + 3) a.buffer.now (tag_frame ∷ a.bytes / 256 ∷ a.bytes % 256 ∷ []) (omega arith) (omega (arith, c.requires.1)) (omega arith)
