-- The same text by the steps that the code makes: what stands at an offset, what it prints, and what is held behind it.
use Rattle.std.specs.Prelude.{ℕ, zero, suc, List, [], ◌++◌, get_or}
use Rattle.common.specs.Reply.{Answer, accepted, refused}
use Rattle.recording.specs.Tagged.{Next, found, ends, field_at, end_of}
use Rattle.recording.specs.Contents.{content_of}
use Rattle.frame_text.specs.Text.{end_text, stop_text}
use Rattle.dumping.specs.Dump.{Held, dump_most, held_with, printed}
use Rattle.dumping.specs.declared.Onward.{Onward}
use Rattle.dumping.specs.declared.Onward.TheVariants.{At, End, Stop}

-- a step: its text, where the next one is, and what is held behind it
pub record Step : Type 0 where
  pub text : List ℕ
  pub next : Onward
  pub held : Held

-- on a field, by its tag, its content and where it ends
abbrev pub step_on : Held → ℕ → List ℕ → ℕ → Step
step_on h tag content end = record { text = printed h tag content; next = At end; held = held_with h tag content }

abbrev pub step_by : Held → List ℕ → Answer Next → Step
step_by h input (accepted (found x)) = step_on h x.tag (content_of input x) (end_of x)
step_by h input (accepted ends) = record { text = end_text h.state.frames; next = End; held = h }
step_by h input (refused r) = record { text = stop_text (get_or r.values 0 0); next = Stop; held = h }

abbrev pub step_at : Held → List ℕ → ℕ → Step
step_at h input at = step_by h input (field_at dump_most h.state.before input at)

-- the texts of at most n steps, one behind the other
abbrev pub onward : Onward → (ℕ → List ℕ) → List ℕ
onward (At to) go = go to
onward End go = []
onward Stop go = []

unfoldable pub steps_text : ℕ → Held → List ℕ → ℕ → List ℕ
steps_text zero h input at = []
steps_text (suc n) h input at =
    let s = step_at h input at in
    s.text ++ onward s.next (λ to. steps_text n s.held input to)
