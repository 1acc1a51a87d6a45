-- The seed is a sum over the lines, so one line more adds its magnitude times its index; and cut to 32 bits on the way it is the same
-- behind them. Assumes nothing.
use Rattle.std.proofs.Common.{◌≡◌, ℕ, suc, ◌+◌, ◌*◌, ◌%◌, ◌^◌, ◌<◌, List, [], ◌∷◌, ◌++◌, length, get_or, take, ℤ, pos, nat_abs, refl, add-zero, zero-add, add-one, arith, length-take-le, take-suc}
use Rattle.residual_data.specs.Sums.{weighted}

weighted-append : (j : ℕ) (xs : List ℤ) (x : ℤ) → weighted j (xs ++ (x ∷ [])) ≡ weighted j xs + nat_abs x * (j + length xs)
unfolding weighted
weighted-append j [] x = rw (add-zero j) (omega arith)
weighted-append j (y ∷ ys) x =
    let at : j + 1 + length ys ≡ j + suc (length ys) = omega arith in
    rw (weighted-append (j + 1) ys x, at) (omega arith)

weighted-turn : (lines : List ℤ) (k : ℕ) → k < length lines → weighted 0 (take (k + 1) lines) ≡ weighted 0 (take k lines) + nat_abs (get_or lines k (pos 0)) * k
weighted-turn lines k h =
    let size : length (take k lines) ≡ k = length-take-le k lines (omega arith) in
    rw (add-one, take-suc lines k (pos 0) h, weighted-append 0 (take k lines) (get_or lines k (pos 0)), size, zero-add) refl

-- nothing is summed yet; one line more
pub sum-none : (lines : List ℤ) → 0 ≡ weighted 0 (take 0 lines) % 2 ^ 32
unfolding weighted
sum-none lines = refl

pub sum_one : (lines : List ℤ) (k sum : ℕ) → k < length lines → sum ≡ weighted 0 (take k lines) % 2 ^ 32 → (sum + nat_abs (get_or lines k (pos 0)) * k) % 2 ^ 32 ≡ weighted 0 (take (k + 1) lines) % 2 ^ 32
sum_one lines k sum h e = rw (weighted-turn lines k h) (omega arith)
