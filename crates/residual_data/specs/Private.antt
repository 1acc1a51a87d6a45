-- Not needed to believe anything: what private contracts and proofs here speak by. No public contract cites it.
use Rattle.std.specs.Prelude.{Option, Some, None, ◌≡◌, ℕ, ◌+◌, ◌-◌, ◌≤◌, List, length, take, ℤ, pos, slice_index_or, unsigned_abs}
use Rattle.common.specs.Reply.{Answer, accepted, refused, residual_negative}
use Rattle.sending.specs.Sending.{Bit, put_bits}
use Rattle.residual_data.specs.Residual.{Late}
use Rattle.residual_data.specs.declared.LateLine.{LateLine}

-- the bits that are left, if no more than all are used, and what the struct says
abbrev pub available_of : Option ℕ → Answer ℕ
available_of (Some n) = accepted n
available_of None = refused residual_negative

abbrev pub late_of : LateLine → Late
late_of r = record { line = r.line; tail = r.tail; room = r.room }

-- a line with the tail and the room behind it
abbrev pub held : ℤ → ℕ → ℕ → Late
held x tail room = record { line = x; tail = tail; room = room }

-- each line's magnitude is at most m
abbrev pub AtMost : ℕ → List ℤ → Type 0
AtMost m lines = (k : ℕ) → unsigned_abs (slice_index_or lines k (pos 0)) ≤ m

-- bits put from a place on as far as there is room before an end, with the place behind them
pub record Cut (f : List ℕ) (at end : ℕ) (bits : List Bit) (next : ℕ) (g : List ℕ) : Type 0 where
  pub place : next ≡ at + length (take (end - at) bits)
  pub lent : g ≡ put_bits f at (take (end - at) bits)
