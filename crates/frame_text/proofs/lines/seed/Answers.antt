-- Each part behind the one before it, the flag as a number.
-- Assumes nothing.
use mathlib.Core.Path.{◌≡◌, refl, ◌∙◌}
use mathlib.Core.Bool.{Bool, true, false, cond}
use mir.Val.{bool_byte}
use Rattle.frame_text.proofs.Laid.{laid_then}
use Rattle.frame_text.specs.Text.{seed_line}
use Rattle.frame_text.proofs.lines.seed.Goals as goal

flag : (b : Bool) → bool_byte b ≡ cond b 1 0
flag true = refl
flag false = refl

pub returns-clause-text : goal.returns-clause-text
unfolding seed_line
returns-clause-text c = rw (← (c.from.ensures ∙ flag c.args.zero)) (laid_then (laid_then c.named-a.ensures.text c.named-b.ensures.text) c.word.ensures.text)
