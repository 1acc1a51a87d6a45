-- Not needed to believe anything: what private contracts and proofs here speak by. No public contract cites it.
use Rattle.std.specs.Prelude.{ℕ, ◌≤◌, ◌<◌, ◌≡◌, Option, None, Some}
use Rattle.common.specs.Tables.{Tables}
use Rattle.dumping.specs.Dump.{Held}
use Rattle.dumping.specs.declared.State.{State}
use Rattle.dumping.specs.declared.Onward.{Onward}
use Rattle.dumping.specs.declared.Onward.TheVariants.{At, End, Stop}

-- where a dump stands: the next offset, and what is held there
abbrev pub Place : Type 0
Place = ℕ × State

-- there are never more frames than bytes
abbrev pub Standing : Place → Type 0
Standing p = p.1.frames ≤ p.0

-- it goes forward, within the input
pub record Further (p q : Place) (len : ℕ) : Type 0 where
  pub standing : Standing q
  pub forward : p.0 < q.0
  pub within : q.0 ≤ len

-- what is held at a place, beside the tables
abbrev pub held : Place → Tables → Held
held p tables = record { state = p.1; tables = tables }

-- where a step leads: to a place where the dump goes on with what the step holds, or to its end
abbrev pub Leads : Onward → Held → Option Place → Tables → Type 0
Leads (At to) next None tables = ⊥
Leads (At to) next (Some q) tables = (q.0 ≡ to) × (held q tables ≡ next)
Leads End next q tables = q ≡ None
Leads Stop next q tables = q ≡ None
