-- `inner::below` meets its contract: the library's sum of the entries before the symbol is the cumulative, at most 1,024.
-- Assumes nothing.
use Rattle.std.proofs.Common.{rules, ◌≡◌, ℕ, ◌<◌, ◌^◌, List, take, sum, refl, arith}
use Rattle.std.proofs.lemmas.List.Recursion.{is_sum_by}
use Rattle.common.specs.Tables.{total}
use Rattle.common.proofs.Cumulatives.{cumulative-bound}
use Rattle.sending.proofs.inner.below.Goals as goal

total-sum : (xs : List ℕ) → total xs ≡ sum xs
unfolding total
total-sum = is_sum_by total (λ x. x) refl (λ _ _. refl)

pub sum-requires-clause-fits : goal.sum-requires-clause-fits
sum-requires-clause-fits c =
    let front = take c.args.symbol c.args.row.now in
    let fits : sum front < 2 ^ 32 = omega (arith, total-sum front, cumulative-bound c.args.row.now c.requires.1 c.args.symbol c.requires.0) in
    search (rules, fits)

pub returns : goal.returns
returns c = search (rules, total-sum)
