-- Where the parts of a record stand in the buffer.
use Rattle.std.specs.Prelude.{ℕ, ◌≤◌}
use Rattle.vectors.specs.declared.record.Record.{Record}
use Rattle.vectors.specs.declared.record.Taken.{Taken}
use Rattle.vectors.specs.declared.record.Taken.TheVariants.{Whole, Lent, Ended, Cut}

-- a record's parts follow each other behind its first eight bytes, and stand before `to`
pub record Parts (r : Record) (to : ℕ) : Type 0 where
  pub started : 8 ≤ r.bytes
  pub called : r.bytes ≤ r.want
  pub wanted : r.want ≤ r.left
  pub ended : r.left ≤ r.end
  pub within : r.end ≤ to

-- what is taken stands before `to`
abbrev pub Placed : Taken → ℕ → Type 0
Placed (Whole r) to = Parts r to
Placed (Lent count) to = count ≤ to
Placed Ended to = Unit {0}
Placed Cut to = Unit {0}
