-- The first place at which a test holds.
use Rattle.std.specs.Prelude.{ℕ, zero, suc, Bool, cond}

-- the first of the n places from k on at which the test holds; the place behind them if it holds at none
unfoldable pub first_from : (ℕ → Bool) → ℕ → ℕ → ℕ
first_from holds k zero = k
first_from holds k (suc n) = cond (holds k) k (first_from holds (suc k) n)
