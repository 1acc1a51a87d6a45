-- A symbol of a list that passes has a share of its row. Assumes nothing.
use Prim.Native.Nat.{ℕ, ◌≤◌}
use Rattle.common.proofs.Cumulatives.{Shares, row-shares}
use Rattle.range_decoder.proofs.Shares.{Given, shares-given}
use Rattle.range_encoder.specs.Interval.{Sent, cumulative_of, frequency_of}
use Rattle.range_encoder.specs.Runs.{Passes}

pub symbol-shares : (x : Sent) → Passes x → Shares (cumulative_of x) (frequency_of x)
symbol-shares x p = row-shares x.row p.row-passes x.symbol p.symbol-there

-- and of a range
pub symbol-given : (range : ℕ) (x : Sent) → 0x10000 ≤ range → Passes x → Given range (cumulative_of x) (frequency_of x)
symbol-given range x least p = shares-given range (cumulative_of x) (frequency_of x) least (symbol-shares x p)
