-- A recording from one offset on: its fields in order, and how it ends.
use Rattle.std.specs.Prelude.{ℕ, zero, suc, List, [], ◌∷◌, length}
use Rattle.common.specs.Reply.{Reply, Answer, accepted, refused}
use Rattle.recording.specs.Tagged.{Next, found, ends, field_at, nothing, after, end_of}
use Rattle.recording.specs.declared.reader.Before.{Before}
use Rattle.recording.specs.declared.reader.Field.{Field}

-- with the input, or at the first malformed field
pub data Ending : Type 0 where
  whole : Ending
  malformed : Reply → Ending

pub record Walk : Type 0 where
  pub fields : List Field
  pub ending : Ending

abbrev pub on_next : Answer Next → (Field → Walk) → Walk
on_next (accepted (found x)) go = record { fields = x ∷ (go x).fields; ending = (go x).ending }
on_next (accepted ends) go = record { fields = []; ending = whole }
on_next (refused r) go = record { fields = []; ending = malformed r }

-- n turns at most, each a field: more than bytes are left is always enough, since a field has three bytes or more
unfoldable pub walk_from : ℕ → ℕ → Before → List ℕ → ℕ → Walk
walk_from zero most b input at = record { fields = []; ending = whole }
walk_from (suc n) most b input at =
    on_next (field_at most b input at) (λ x. walk_from n most (after b x.tag) input (end_of x))

-- the whole recording, from its first byte on
abbrev pub walk_of : ℕ → List ℕ → Walk
walk_of most input = walk_from (suc (length input)) most nothing input 0
