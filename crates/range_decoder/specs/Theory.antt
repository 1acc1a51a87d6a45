-- What the decoder's theorems say beyond its contracts: `owner_owns`, `owns-unique` and `owns-owner`, exactly one symbol qualifies.
use Rattle.std.specs.Prelude.{ℕ, ◌+◌, ◌*◌, ◌≤◌, ◌<◌, List, length, get_or}
use Rattle.common.specs.Tables.{cumulative}

-- symbol k owns low: its part of the range is from r*cumulative up to below the next one's
pub record Owns (r low : ℕ) (row : List ℕ) (k : ℕ) : Type 0 where
  pub there : k < length row
  pub starts : r * cumulative row k ≤ low
  pub ends : low < r * cumulative row k + r * get_or row k 0
