-- Not needed to believe anything: what private contracts and proofs here speak by. No public contract cites it.
use Rattle.std.specs.Prelude.{ℕ, ◌+◌, ◌*◌, ◌≤◌, max, Bool, cond, not, ◌&&◌, List, leb, Float}
use Rattle.contexts.specs.Contexts.{rate_flag, lookup_start, context_behind}
use Rattle.spectral_quantization.specs.Estimate.{whole_bits, mode_flag, pair_cost, least_bits, is_zero, context_at, least_of, cost_of, kept_of}
use Rattle.spectral_quantization.specs.Gain.{below, with_energy, all_below, cost_at}
use Rattle.spectral_quantization.specs.declared.estimate.Frame.{Frame}
use Rattle.spectral_quantization.specs.declared.estimate.Running.{Running}
use Rattle.spectral_quantization.specs.declared.gain.Cost.{Cost}

-- ---- the estimate

-- what a frame of so many bytes is estimated by
abbrev pub frame_of : ℕ → ℕ → ℕ → ℕ → Frame
frame_of fs bytes ne target =
    record { ne = ne; rate = rate_flag (8 * bytes) fs; mode = mode_flag (8 * bytes) fs; target = target }

-- a pair is kept, by the sum behind it
abbrev pub keeps : ℕ → ℕ → ℕ → ℕ → Bool
keeps target a b sum = not (is_zero a b) && leb (whole_bits sum) target

module _ (lookup bits : List ℕ) (f : Frame) where
  -- the running numbers behind the first n pairs
  abbrev pub running_at : List ℕ → ℕ → Running
  running_at xs n =
      record {
        sum = cost_of xs lookup bits f.ne f.rate f.mode n;
        least = least_of xs f.mode n;
        place = 2 * max 1 (kept_of xs lookup bits f.ne f.rate f.mode f.target n);
        kept = cost_of xs lookup bits f.ne f.rate f.mode (kept_of xs lookup bits f.ne f.rate f.mode f.target n);
        context = context_at xs n;
      }

  -- and behind one pair more, the p-th
  abbrev pub grown : ℕ → ℕ → ℕ → Running → ℕ
  grown p a b s =
      s.sum + pair_cost lookup bits f.mode (lookup_start s.context f.rate f.ne (2 * p)) a b

  unfoldable pub on_pair : ℕ → ℕ → ℕ → Running → Running
  on_pair p a b s =
      record {
        sum = grown p a b s;
        least = s.least + least_bits f.mode a b;
        place = cond (keeps f.target a b (grown p a b s)) (2 * p + 2) s.place;
        kept = cond (keeps f.target a b (grown p a b s)) (grown p a b s) s.kept;
        context = context_behind s.context a b;
      }

-- how far the running numbers are behind so many pairs: 15 entries, 14 pairs of tail bits and two signs to a pair
pub record Bounded (pairs : ℕ) (s : Running) : Type 0 where
  pub sum : s.sum ≤ 1044465 * pairs
  pub kept : s.kept ≤ 1044465 * pairs
  pub least : s.least ≤ 4 * pairs
  pub context : s.context ≤ 255

-- ---- the gain search

-- what the energies cost and whether all of them lay below the level; and the same with an energy more
abbrev pub cost_of_all : Float → List Float → Cost
cost_of_all level energies = record { bits = cost_at level energies; zero = all_below level energies }

abbrev pub cost_with : Float → Float → Cost → Cost
cost_with level energy cost =
    record { bits = with_energy level energy cost.zero cost.bits; zero = below level energy && cost.zero }
