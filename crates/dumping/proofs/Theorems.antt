-- The steps' texts one behind the other are the dump's text; a step goes forward; and no byte behind the first 65,537 is looked at.
-- Assumes nothing.
use Prim.Native.Nat.{ℕ, zero, suc, ◌+◌, ◌-◌, ◌≤◌, ◌<◌}
use mathlib.Core.Path.{◌≡◌, refl, sym, ap, ◌∙◌}
use mathlib.Core.Bool.{cond}
use mathlib.Core.List.{List, [], ◌∷◌, ◌++◌, append_assoc, append-nil}
use native.Mathlib.Omega.{arith}
use lib.Dec.{eqb}
use lib.ListN.{length, take}
use Rattle.common.specs.Reply.{Answer, accepted, refused}
use Rattle.common.proofs.Bools.{by-test}
use Rattle.recording.specs.Tagged.{Next, found, ends, field_at, end_of, after, nothing}
use Rattle.recording.specs.Contents.{content_of}
use Rattle.recording.specs.Walk.{on_next, walk_from, walk_of}
use Rattle.recording.specs.Stated.{Each}
use Rattle.recording.specs.declared.reader.Before.{Before}
use Rattle.recording.specs.declared.reader.Field.{Field}
use Rattle.recording.proofs.Answers.{field-known}
use Rattle.recording.proofs.Theorems.{walk-of, walk-within, content-within}
use Rattle.dumping.specs.Dump.{Held, start, dump_most, held_with, printed, fields_text, held_behind, walk_text, dump_text}
use Rattle.dumping.specs.Steps.{step_by, step_at, onward, steps_text}
use Rattle.dumping.specs.declared.Onward.TheVariants.{At}

-- from any offset, with steps enough
pub steps-walk : (n : ℕ) (h : Held) (input : List ℕ) (at : ℕ) → length input - at < n → steps_text n h input at ≡ walk_text h input (walk_from n dump_most h.state.before input at)
unfolding steps_text walk_from fields_text held_behind
steps-walk zero h input at less = absurd (omega arith)
steps-walk (suc n) h input at less =
    same (field_at dump_most h.state.before input at) refl (λ g to l. steps-walk n g input to l)
  where
    same : (a : Answer Next) → field_at dump_most h.state.before input at ≡ a → ((g : Held) (to : ℕ) → length input - to < n → steps_text n g input to ≡ walk_text g input (walk_from n dump_most g.state.before input to)) → (step_by h input a).text ++ onward (step_by h input a).next (λ to. steps_text n (step_by h input a).held input to) ≡ walk_text h input (on_next a (λ x. walk_from n dump_most (after h.state.before x.tag) input (end_of x)))
    same (accepted (found x)) e rest =
        let k = field-known dump_most h.state.before input at x e in
        let g = held_with h x.tag (content_of input x) in
        let t = printed h x.tag (content_of input x) in
        ap (λ (r : List ℕ). t ++ r) (rest g (end_of x) (omega (arith, k.there, k.content))) ∙ sym (append_assoc t _ _)
    same (accepted ends) e rest = append-nil _
    same (refused r) e rest = append-nil _

-- the steps' texts one behind the other are the dump's text
pub steps-dump : (input : List ℕ) → steps_text (suc (length input)) start input 0 ≡ dump_text input
steps-dump input = steps-walk (suc (length input)) start input 0 (omega arith)

-- a step goes forward, within the input, and there are never more frames than bytes
pub step-onward : (h : Held) (input : List ℕ) (at to : ℕ) → h.state.frames ≤ at → (step_at h input at).next ≡ At to → (at < to) × (to ≤ length input) × ((step_at h input at).held.state.frames ≤ to)
step-onward h input at to low e = onward-by (field_at dump_most h.state.before input at) refl e
  where
    onward-by : (a : Answer Next) → field_at dump_most h.state.before input at ≡ a → (step_by h input a).next ≡ At to → (at < to) × (to ≤ length input) × ((step_by h input a).held.state.frames ≤ to)
    onward-by (accepted (found x)) f g =
        let k = field-known dump_most h.state.before input at x f in
        let there : end_of x ≡ to = cc in
        let one : cond (eqb x.tag 2) 1 0 ≤ 1 = by-test (eqb x.tag 2) (λ t. rw t (omega arith)) (λ t. rw t (omega arith)) in
        (omega (arith, k.content), omega (arith, k.there), omega (arith, k.content))
    onward-by (accepted ends) f g = let z : ◌≡◌ {A = ℕ} 0 1 = cc in absurd (omega arith)
    onward-by (refused r) f g = let z : ◌≡◌ {A = ℕ} 0 1 = cc in absurd (omega arith)

-- fields that were found print the same of the first bytes alone
module _ (input : List ℕ) where
  abbrev first : List ℕ
  first = take (suc dump_most) input

  content-first : (b : Before) (at : ℕ) (x : Field) → field_at dump_most b input at ≡ accepted (found x) → content_of input x ≡ content_of first x
  content-first b at x e =
      let k = field-known dump_most b input at x e in
      sym (content-within input (suc dump_most) x (omega (arith, k.bound)) k.there)

  text-first : (xs : List Field) (b : Before) (at : ℕ) (h : Held) → Each dump_most b input at xs → fields_text h input xs ≡ fields_text h first xs
  unfolding fields_text
  text-first [] b at h each = refl
  text-first (x ∷ xs) b at h each =
      rw (content-first b at x each.0) (ap (λ (r : List ℕ). printed h x.tag (content_of first x) ++ r) (text-first xs (after b x.tag) (end_of x) (held_with h x.tag (content_of first x)) each.1))

  held_first : (xs : List Field) (b : Before) (at : ℕ) (h : Held) → Each dump_most b input at xs → held_behind h input xs ≡ held_behind h first xs
  unfolding held_behind
  held_first [] b at h each = refl
  held_first (x ∷ xs) b at h each =
      rw (content-first b at x each.0) (held_first xs (after b x.tag) (end_of x) (held_with h x.tag (content_of first x)) each.1)

  -- so the program reads no more than 65,537 bytes
  pub dump-first : dump_text input ≡ dump_text (take (dump_most + 1) input)
  dump-first =
      let w = walk-of dump_most input in
      let fields = (walk_of dump_most input).fields in
      let walks : walk_of dump_most input ≡ walk_of dump_most first = walk-within (suc (length input)) (suc (length first)) dump_most nothing input 0 (omega arith) (omega arith) (omega arith) in
      let text : fields_text start input fields ≡ fields_text start first fields = text-first fields nothing 0 start w.each in
      let held : held_behind start input fields ≡ held_behind start first fields = held_first fields nothing 0 start w.each in
      let here : walk_text start input (walk_of dump_most input) ≡ walk_text start first (walk_of dump_most input) = rw (text, held) refl in
      here ∙ ap (walk_text start first) walks
