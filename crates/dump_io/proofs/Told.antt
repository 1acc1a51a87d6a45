-- What was written so far, and what is still to come of the steps' texts. Assumes nothing.
use Rattle.std.proofs.Common.{◌≡◌, refl, sym, ap, ◌∙◌, subst, ℕ, zero, suc, ◌+◌, ◌-◌, ◌≤◌, ◌<◌, List, [], ◌++◌, length, take, drop, arith, append-nil, append_assoc, Option, None, Some}
use lib.Seq.{sets, sets-eq, length-sets, take_at}
use Rattle.std.specs.Io.KnownBytes.{Appends}
use Rattle.std.proofs.KnownBytes.{Appends-nil, Appends-trans}
use Rattle.common.specs.Tables.{Tables}
use Rattle.dumping.specs.Dump.{started}
use Rattle.dumping.specs.Steps.{Step, step_at, onward, steps_text}
use Rattle.dumping.specs.declared.Onward.{Onward}
use Rattle.dumping.specs.declared.Onward.TheVariants.{At, End, Stop}
use Rattle.dumping.specs.declared.State.{State}
use Rattle.dumping.proofs.Theorems.{step-onward}
use Rattle.std.specs.Option.{IfSome}
use Rattle.dump_io.specs.Private.{Place, Leads, Standing, Further, held}

-- a text that has room stands at the front of its buffer
pub text_there : (old text : List ℕ) → length text ≤ length (sets old 0 text) → take (length text) (sets old 0 text) ≡ text
text_there old text room =
    let long : length (sets old 0 text) ≡ length old = length-sets old 0 text in
    ap (take (length text)) (sets-eq text old 0 (omega (arith, room, long))) ∙ take_at text (drop (0 + length text) old) (length text) refl

-- the front of the buffer that was written is the text
pub text_written : (a b : Option (List ℕ)) {n : ℕ} {now : List ℕ} (old text : List ℕ) → n ≡ length text → now ≡ sets old 0 text → n ≤ length now → Appends a b (take n now) → Appends a b text
text_written a b {n} {now} old text long laid room wrote =
    let there : take n now ≡ text = rw (long, laid) (text_there old text (rw (long, laid) at room)) in
    subst (Appends a b) there wrote

-- a step goes forward, within the input
pub goes_on : (p : Place) (tables : Tables) (input : List ℕ) (next : Onward) (state : State) (to : ℕ) → Standing p → next ≡ (step_at (held p tables) input p.0).next → next ≡ At to → state ≡ (step_at (held p tables) input p.0).held.state → Further p (to, state) (length input)
goes_on p tables input next state to low stepped e is =
    let on = step-onward (held p tables) input p.0 to low (sym stepped ∙ e) in
    record { standing = rw is on.2; forward = on.0; within = on.1 }

pub stands_on : (p : Place) (q : Option Place) (len : ℕ) → IfSome q (λ r. Further p r len) → IfSome q Standing
stands_on p None len f = tt
stands_on p (Some r) len f = f.standing

-- the texts of as many steps as are left
abbrev pub to_come : ℕ → Option Place → Tables → List ℕ → List ℕ
to_come fuel None tables input = []
to_come fuel (Some p) tables input = steps_text fuel (held p tables) input p.0

pub record Told (old new : Option (List ℕ)) (p : Option Place) (tables : Tables) (input whole : List ℕ) : Type 0 where
  pub fuel : ℕ
  pub said : List ℕ
  pub enough : IfSome p (λ q. length input - q.0 < fuel)
  pub written : Appends old new said
  pub rest : whole ≡ said ++ to_come fuel p tables input

pub told_start : (known : Option (List ℕ)) (state : State) (tables : Tables) (input : List ℕ) → state ≡ started → Told known known (Some (0, state)) tables input (steps_text (suc (length input)) (record { state = started; tables = tables }) input 0)
told_start known state tables input e =
    record { fuel = suc (length input); said = []; enough = omega arith; written = Appends-nil known; rest = rw e refl }

pub told_end : (old new : Option (List ℕ)) (p : Option Place) (tables : Tables) (input whole : List ℕ) → p ≡ None → Told old new p tables input whole → Appends old new whole
told_end old new p tables input whole over t =
    let all : whole ≡ t.said = t.rest ∙ ap (λ (q : Option Place). t.said ++ to_come t.fuel q tables input) over ∙ append-nil t.said in
    subst (Appends old new) (sym all) t.written

module _ (old mid new : Option (List ℕ)) (p : Place) (before after : Tables) (input whole : List ℕ) where
  abbrev step : Step
  step = step_at (held p before) input p.0

  pub told_more : (q : Option Place) → Told old mid (Some p) before input whole → Appends mid new step.text → Leads step.next step.held q after → IfSome q (λ r. Further p r (length input)) → Told old new q after input whole
  unfolding steps_text
  told_more q t wrote leads further = on t.fuel refl
    where
      over : (q : Option Place) → q ≡ None → (said : List ℕ) → Appends old new said → whole ≡ said ++ [] → Told old new q after input whole
      over q e said written rest =
          rw e (record { fuel = 0; said = said; enough = tt; written = written; rest = rest })

      last : (next : Onward) (m : ℕ) (q : Option Place) → IfSome q (λ r. Further p r (length input)) → Leads next step.held q after → (said : List ℕ) → Appends old new said → length input - p.0 < suc m → whole ≡ said ++ onward next (λ to. steps_text m step.held input to) → Told old new q after input whole
      last (At to) m None f l said written enough rest = absurd l
      last (At to) m (Some r) f l said written enough rest =
          record { fuel = m; said = said; enough = omega (arith, f.forward, f.within, enough); written = written; rest = rest ∙ rw (l.0, l.1) refl }
      last End m q f l said written enough rest = over q l said written rest
      last Stop m q f l said written enough rest = over q l said written rest

      on : (fuel : ℕ) → t.fuel ≡ fuel → Told old new q after input whole
      on zero e = absurd (omega (arith, e, t.enough))
      on (suc m) e =
          let rest : whole ≡ t.said ++ (step.text ++ onward step.next (λ to. steps_text m step.held input to)) = t.rest ∙ ap (λ (k : ℕ). t.said ++ steps_text k (held p before) input p.0) e in
          last step.next m q further leads (t.said ++ step.text) (Appends-trans old mid new t.said step.text t.written wrote) (omega (arith, e, t.enough)) (rest ∙ sym (append_assoc t.said step.text _))
