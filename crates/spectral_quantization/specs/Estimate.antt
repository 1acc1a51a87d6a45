-- Document 01, "Floats" and "Numbered replies": the bit estimate, by the source's sums over the pairs of lines.
-- Costs are in 2,048ths of a bit. Context, escapes and symbol are those that the frame is read and written by.
use Rattle.std.specs.Prelude.{ℕ, zero, suc, ◌+◌, ◌*◌, ◌/◌, max, Bool, cond, not, ◌&&◌, List, leb, ltb, eqb, length, get_or, ℤ}
use Rattle.common.specs.Configuration.{frame_lines}
use Rattle.common.specs.Reply.{Reply, Answer, accepted, given, and_then, outside_limits, wrong_length, tables_fail, wrong_count}
use Rattle.common.specs.Tables.{Tables, tables_pass}
use Rattle.common.specs.declared.configuration.Configuration.{Configuration}
use Rattle.common.specs.declared.configuration.ConfigurationError.{ConfigurationError}
use Rattle.common.specs.declared.configuration.ConfigurationError.TheVariants.{OutsideLimits as ConfigurationOutside, WrongLength as ConfigurationLength}
use Rattle.contexts.specs.Contexts.{rate_flag, lookup_start, row_of, magnitudes, escapes, escape_symbol, pair_symbol, context_behind}
use Rattle.spectral_quantization.specs.declared.estimate.BitConsumption.{BitConsumption}
use Rattle.spectral_quantization.specs.declared.estimate.EstimateError.{EstimateError}
use Rattle.spectral_quantization.specs.declared.estimate.EstimateError.TheVariants.{OutsideLimits, WrongLength, TablesFail, WrongCount}

-- "exact ceilings": whole bits of a sum
abbrev pub whole_bits : ℕ → ℕ
whole_bits sum = (sum + 2047) / 2048

-- the source's `mode_flag`: the frame is long enough for least-bit mode
abbrev pub mode_flag : ℕ → ℕ → Bool
mode_flag bits fs = leb (480 + 160 * fs) bits

-- the sum of the first n numbers
unfoldable pub sum_below : (ℕ → ℕ) → ℕ → ℕ
sum_below number zero = 0
sum_below number (suc n) = sum_below number n + number n

-- how many of the first n there are up to the last at which the test holds; 0 if it holds at none
unfoldable pub up_to_last : (ℕ → Bool) → ℕ → ℕ
up_to_last holds zero = 0
up_to_last holds (suc n) = cond (holds n) (suc n) (up_to_last holds n)

-- ---- one pair of magnitudes

-- the two tail bits of an escape; where the mode flag is set, the first escape's are least bits
abbrev pub tail_cost : Bool → ℕ → ℕ
tail_cost mode level = cond (mode && eqb level 0) 0 4096

-- a sign for each line that is not 0
abbrev pub sign_cost : ℕ → ℕ
sign_cost a = cond (eqb a 0) 0 2048

module _ (lookup bits : List ℕ) where
  -- a symbol at a level, by the row that codes it there
  abbrev pub symbol_cost : ℕ → ℕ → ℕ → ℕ
  symbol_cost t level symbol = get_or bits (17 * row_of lookup t level + symbol) 0

  -- the first n levels, each escaped
  abbrev pub escapes_cost : Bool → ℕ → ℕ → ℕ
  escapes_cost mode t n = sum_below (λ level. symbol_cost t level escape_symbol + tail_cost mode level) n

  -- its escapes, its symbol, its signs
  unfoldable pub pair_cost : Bool → ℕ → ℕ → ℕ → ℕ
  pair_cost mode t a b =
      escapes_cost mode t (escapes a b) + symbol_cost t (escapes a b) (pair_symbol a b) + sign_cost a + sign_cost b

-- the least bits of an escaped pair where the mode flag is set: two lowest bits, and the sign of a magnitude 1, which
-- `sign_cost` has counted already
abbrev pub one_sign : ℕ → ℕ
one_sign a = cond (eqb a 1) 1 0

unfoldable pub least_bits : Bool → ℕ → ℕ → ℕ
least_bits mode a b = cond (mode && ltb 0 (escapes a b)) (2 + one_sign a + one_sign b) 0

abbrev pub is_zero : ℕ → ℕ → Bool
is_zero a b = eqb a 0 && eqb b 0

-- ---- the pairs of all magnitudes

module _ (xs : List ℕ) where
  abbrev pub first : ℕ → ℕ
  first p = get_or xs (2 * p) 0

  abbrev pub second : ℕ → ℕ
  second p = get_or xs (2 * p + 1) 0

  abbrev pub zero_at : ℕ → Bool
  zero_at p = is_zero (first p) (second p)

  -- how many pairs there are up to the last that is not all zero, at least one
  abbrev pub pairs_of : ℕ
  pairs_of = max 1 (up_to_last (λ p. not (zero_at p)) (length xs / 2))

  -- the source's `c` before a pair
  unfoldable pub context_at : ℕ → ℕ
  context_at zero = 0
  context_at (suc p) = context_behind (context_at p) (first p) (second p)

  -- `nbits_lsb` behind the first n pairs
  abbrev pub least_of : Bool → ℕ → ℕ
  least_of mode n = sum_below (λ p. least_bits mode (first p) (second p)) n

  module _ (lookup bits : List ℕ) (ne rate : ℕ) (mode : Bool) where
    -- `nbits_est_local` behind them: what they cost
    abbrev pub cost_of : ℕ → ℕ
    cost_of n =
        sum_below (λ p. pair_cost lookup bits mode (lookup_start (context_at p) rate ne (2 * p)) (first p) (second p)) n

    module _ (target : ℕ) where
      -- a pair is kept if it is not all zero and the target is not passed behind it
      abbrev pub kept : ℕ → Bool
      kept p = not (zero_at p) && leb (whole_bits (cost_of (suc p))) target

      -- how many of the first n pairs there are up to the last that is kept
      abbrev pub kept_of : ℕ → ℕ
      kept_of n = up_to_last kept n

      -- the numbers that the source returns
      abbrev pub consumption : BitConsumption
      consumption =
          record {
            rate_flag = rate;
            mode_flag = mode;
            lastnz = 2 * pairs_of;
            lastnz_trunc = 2 * max 1 (kept_of pairs_of);
            nbits_est = whole_bits (cost_of pairs_of) + least_of mode pairs_of;
            nbits_trunc = whole_bits (cost_of (kept_of pairs_of));
            nbits_lsb = least_of mode pairs_of;
          }

-- ---- the call

-- "N is 8 times the frame length"; "estimate and gain search 1, 2, 3, 4, as far as they take each"; "target, here and in the
-- estimate, 0..65535 (else 1)"
abbrev pub estimate : Configuration → ℕ → Tables → ℕ → List ℤ → Answer BitConsumption
estimate c bytes set target lines =
    given (ltb 65535 target) outside_limits
    (and_then (frame_lines c bytes) (λ ne.
    given (not (tables_pass set)) tables_fail
    (given (not (eqb (length lines) ne)) (wrong_count (length lines))
    (accepted (consumption (magnitudes lines) set.lookup set.bits ne (rate_flag (8 * bytes) c.fs_ind) (mode_flag (8 * bytes) c.fs_ind) target)))))

-- document 01's number and values of each refusal
abbrev pub reply_of : EstimateError → Reply
reply_of OutsideLimits = outside_limits
reply_of (WrongLength bytes) = wrong_length bytes
reply_of TablesFail = tables_fail
reply_of (WrongCount count) = wrong_count count

-- what each error from below says here
abbrev pub of_configuration : ConfigurationError → EstimateError
of_configuration ConfigurationOutside = OutsideLimits
of_configuration (ConfigurationLength length) = WrongLength length
