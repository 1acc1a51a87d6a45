-- The coder in exact numbers: what a list of symbols makes of the first interval.
use Rattle.std.specs.Prelude.{ℕ, ◌+◌, ◌*◌, cond, List, [], ◌∷◌, ltb, get_or}
use Rattle.common.specs.Tables.{cumulative}
use Rattle.range_decoder.specs.Decoder.{unit_of}

-- a symbol that is sent: the row that it is coded by, and its place there
pub record Sent : Type 0 where
  pub row : List ℕ
  pub symbol : ℕ

abbrev pub cumulative_of : Sent → ℕ
cumulative_of x = cumulative x.row x.symbol

abbrev pub frequency_of : Sent → ℕ
frequency_of x = get_or x.row x.symbol 0

-- the numbers from base up to below base + range, of 24 bits and a byte for each shift
pub record Interval : Type 0 where
  pub base : ℕ
  pub range : ℕ
  pub shifts : ℕ

abbrev pub whole : Interval
whole = record { base = 0; range = 0xFFFFFF; shifts = 0 }

-- the part of the interval that is a symbol's own
abbrev pub part : Interval → Sent → Interval
part i x =
    record {
      base = i.base + unit_of i.range * cumulative_of x;
      range = unit_of i.range * frequency_of x;
      shifts = i.shifts;
    }

-- a byte more, where the range has fallen below 0x10000
abbrev pub widened : Interval → Interval
widened i =
    cond (ltb i.range 0x10000) (record { base = i.base * 256; range = i.range * 256; shifts = i.shifts + 1 }) i

-- a symbol's own, with two turns, as many as the coder makes
abbrev pub narrowed_by : Interval → Sent → Interval
narrowed_by i x = widened (widened (part i x))

-- behind a list of symbols
unfoldable pub behind : Interval → List Sent → Interval
behind i [] = i
behind i (x ∷ xs) = behind (narrowed_by i x) xs
