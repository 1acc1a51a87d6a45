-- The two readings part in which pairs count as escaped, and in the zero flag. Where no pair is escaped nothing is late, and where the noise
-- field is 7 the flags agree. Assumes nothing.
use Rattle.std.proofs.Common.{◌≡◌, ℕ, ◌+◌, ◌*◌, ◌<◌, ◌≤◌, Bool, false, cond, eqb, ltb, List, [], ◌∷◌, length, get_or, take, ℤ, refl, arith, length-take-le, get_or-take, le-ltb, eq-eqb}
use lib.ListN.{get_or-eq_default}
use Rattle.common.proofs.Bools.{by-test, or-second}
use Rattle.residual_data.specs.Residual.{escaped_by, late_from}
use Rattle.residual_data.specs.Sums.{zero_flag}

-- a pair by the place at which its level is looked up: among the pairs' own, and behind them
module _ (reading : ℕ) (levels : List ℕ) (pairs p place : ℕ) (e : place ≡ cond (eqb reading 0) (2 * p) p) where
  pub escaped-there : place < pairs → escaped_by reading (take pairs levels) p ≡ ltb 0 (get_or levels place 0)
  escaped-there h = rw (← e, get_or-take pairs levels place 0 h) refl

  pub escaped-past : pairs ≤ length levels → pairs ≤ place → escaped_by reading (take pairs levels) p ≡ false
  escaped-past enough h =
      let size : length (take pairs levels) ≤ place = omega (arith, length-take-le pairs levels enough) in
      rw (← e, get_or-eq_default (take pairs levels) 0 size) refl

-- where every level is 0 no pair is escaped, in either reading
pub none-escaped : (levels : List ℕ) → ((k : ℕ) → get_or levels k 0 ≡ 0) → (reading p : ℕ) → escaped_by reading levels p ≡ false
none-escaped levels none reading p =
    let place = cond (eqb reading 0) (2 * p) p in
    le-ltb 0 (get_or levels place 0) (omega (arith, none place))

-- the first pair counts alike in both
pub first_alike : (levels : List ℕ) (reading : ℕ) → escaped_by reading levels 0 ≡ escaped_by 0 levels 0
first_alike levels reading = by-test (eqb reading 0) (λ e. rw e refl) (λ e. rw e refl)

module _ (f : List ℕ) where
  -- where no pair is escaped nothing is late
  pub none-late : (escaped : ℕ → Bool) → ((q : ℕ) → escaped q ≡ false) → (p : ℕ) (xs : List ℤ) (tail room : ℕ) → late_from f escaped p xs tail room ≡ record { lines = xs; tail = tail; room = room }
  unfolding late_from
  none-late escaped none p [] tail room = refl
  none-late escaped none p (x ∷ []) tail room = refl
  none-late escaped none p (x ∷ y ∷ rest) tail room = rw (none p, none-late escaped none (p + 1) rest tail room) refl

  -- what is late depends on the reading by the escaped pairs alone
  pub late-alike : (one other : ℕ → Bool) → ((q : ℕ) → one q ≡ other q) → (p : ℕ) (xs : List ℤ) (tail room : ℕ) → late_from f one p xs tail room ≡ late_from f other p xs tail room
  unfolding late_from
  late-alike one other same p [] tail room = refl
  late-alike one other same p (x ∷ []) tail room = refl
  late-alike one other same p (x ∷ y ∷ rest) tail room =
      by-test (other p)
      (λ e. rw (same p, e, late-alike one other same (p + 1) rest) refl)
      (λ e. rw (same p, e, late-alike one other same (p + 1) rest) refl)

-- the zero flag: the same in both readings where the noise field is 7
pub flag-alike : (reading lastnz gain noise : ℕ) (first second : ℤ) → noise ≡ 7 → zero_flag reading lastnz gain noise first second ≡ zero_flag 0 lastnz gain noise first second
flag-alike reading lastnz gain noise first second e = rw (or-second (eqb reading 0) (eq-eqb noise 7 e)) refl
