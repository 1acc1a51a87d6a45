-- The part of the input that is handed on as a field's content is its content, and a field that was found lies within the input.
-- Assumes nothing.
use Prim.Native.Nat.{ℕ, ◌+◌, ◌-◌, ◌≤◌}
use mathlib.Core.Path.{◌≡◌, refl}
use mathlib.Core.List.{List}
use native.Mathlib.Nat.{add-sub_cancel_left}
use native.Mathlib.Omega.{arith}
use lib.ListN.{length, take, drop}
use Rattle.common.specs.Reply.{accepted}
use Rattle.recording.specs.Tagged.{field_at, found, end_of}
use Rattle.recording.specs.declared.reader.Field.{Field}
use Rattle.recording.proofs.Answers.{field-known}
use Rattle.dumping.specs.Dump.{Held, dump_most}
use Rattle.dumping.specs.Steps.{step_on, step_at}

module _ (h : Held) (input : List ℕ) (at : ℕ) (x : Field) (e : field_at dump_most h.state.before input at ≡ accepted (found x)) where
  pub field-lies : (at + 3 ≤ end_of x) × (end_of x ≤ length input)
  field-lies = let k = field-known dump_most h.state.before input at x e in (omega (arith, k.content), k.there)

  pub step-found : step_on h x.tag (take (x.content + x.size - x.content) (drop x.content input)) (x.content + x.size) ≡ step_at h input at
  step-found =
      let size : x.content + x.size - x.content ≡ x.size = add-sub_cancel_left x.content x.size in
      rw (e, size) refl
