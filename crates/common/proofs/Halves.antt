-- A search that halves a row that passes: where it stands, and what each product tells. The owner of low is never lost, and of n
-- symbols at most ceil(log2 n) products are made. Assumes nothing.
use Prim.Native.Nat.{ℕ, zero, suc, ◌+◌, ◌-◌, ◌*◌, ◌/◌, ◌^◌, ◌≤◌, ◌<◌}
use mathlib.Core.Path.{◌≡◌, refl, sym, ◌∙◌}
use mathlib.Core.Bool.{true}
use mathlib.Core.List.{List}
use native.Mathlib.Omega.{arith}
use native.Mathlib.Numerals.{add-one}
use native.Mathlib.Nat.{mul_comm, mul_assoc, mul-zero, mul-le-mul_left, mul-le-mul_right, le_trans, lt_of_not-le, not-le_of_lt, pow-suc}
use lib.ListN.{length, get_or}
use lib.Pow.{pow_mono}
use Rattle.common.specs.Tables.{row_passes, cumulative}
use Rattle.common.proofs.Cumulatives.{cumulative-start, cumulative-next, cumulative-total, cumulative-order, row-filled}
use Rattle.common.proofs.Lasts.{power_below}

-- of n symbols so many products were made and so many symbols are left: within any k with n at most 2^k, the ceiling of the logarithm
-- being the least such k
abbrev pub Spent : ℕ → ℕ → ℕ → Type 0
Spent n products left = (k : ℕ) → n ≤ 2 ^ k → (products ≤ k) × (left ≤ 2 ^ (k - products))

-- and they are no fewer than so many symbols need, where each product at most halves what is left
abbrev pub Needed : ℕ → ℕ → ℕ → Type 0
Needed n products left = n ≤ left * 2 ^ products

-- the owner of low is among so many symbols from one on: their parts begin at or below low, and those up to a place end above it
pub record Among (row : List ℕ) (r low symbol left sum base end products : ℕ) : Type 0 where
  pub place : ℕ
  pub later : symbol < place
  pub near : place ≤ symbol + left
  pub there : symbol + left ≤ length row
  pub sum_is : sum ≡ cumulative row symbol
  pub base-is : base ≡ r * sum
  pub starts : base ≤ low
  pub end_is : end ≡ r * cumulative row place
  pub ends : low < end
  pub spent : Spent (length row) products left
  pub needed : symbol + 1 < length row → Needed (length row) products left
  pub some : left < length row → 1 ≤ products

-- of 17 symbols one product was made, and at most sixteen are left
seventeen-spent : (left : ℕ) → left ≤ 16 → Spent 17 1 left
seventeen-spent left few k holds =
    let less : 4 < k = power_below 4 k (omega arith) in
    let four : 4 ≤ k - 1 = omega arith in
    (omega arith, le_trans few (pow_mono four))

-- one product more, and the larger half of what was left
pub half-spent : (n left products : ℕ) → 1 < left → Spent n products left → Spent n (products + 1) (left - left / 2)
half-spent n left products more spent k holds = go (k - products) refl
  where
    go : (m : ℕ) → k - products ≡ m → (products + 1 ≤ k) × (left - left / 2 ≤ 2 ^ (k - (products + 1)))
    go zero e =
        let one : left ≤ 2 ^ 0 = rw e at (spent k holds).1 in
        absurd (omega arith)
    go (suc m) e =
        let fits : left ≤ 2 ^ suc m = rw e at (spent k holds).1 in
        let double : 2 ^ suc m ≡ 2 * 2 ^ m = pow-suc 2 m ∙ mul_comm (2 ^ m) 2 in
        let same : k - (products + 1) ≡ m = omega arith in
        (omega (arith, (spent k holds).0), rw same (omega arith))

-- what is left is at least half of what was
half-needed : (n left left' products : ℕ) → left ≤ 2 * left' → Needed n products left → Needed n (products + 1) left'
half-needed n left left' products half needed =
    let power : 2 ^ (products + 1) ≡ 2 * 2 ^ products = rw (add-one, pow-suc, mul_comm (2 ^ products) 2) refl in
    let same : left' * (2 * 2 ^ products) ≡ 2 * left' * 2 ^ products = rw (← mul_assoc, mul_comm left' 2) refl in
    rw (power, same) (le_trans needed (mul-le-mul_right (2 ^ products) half))

module _ (row : List ℕ) (passed : row_passes row ≡ true) (r low : ℕ) where
  -- a part that begins at or below low lies before one that ends above it
  before-place : (j p : ℕ) → j ≤ length row → r * cumulative row j ≤ low → low < r * cumulative row p → j < p
  before-place j p there starts ends =
      lt_of_not-le (λ h. not-le_of_lt ends (le_trans (mul-le-mul_left r (cumulative-order row passed p j h there)) starts))

  -- all of the row is left
  pub among-all : (limit : ℕ) → limit ≡ 1024 * r → low < limit → Among row r low 0 (length row) 0 0 limit 0
  among-all limit e below =
      record {
        place = length row;
        later = row-filled row passed;
        near = omega arith;
        there = omega arith;
        sum_is = sym (cumulative-start row);
        base-is = sym (mul-zero r);
        starts = omega arith;
        end_is = rw (cumulative-total row passed, mul_comm r 1024) e;
        ends = below;
        spent = λ k holds. let e : k - 0 ≡ k = omega arith in (omega arith, rw e holds);
        needed = λ h. omega arith;
        some = λ h. absurd (omega arith);
      }

  module _ (symbol left sum base end products half sum' value : ℕ) (a : Among row r low symbol left sum base end products) (within : half ≤ left) (s : sum' ≡ cumulative row (symbol + half)) (v : value ≡ r * sum') where
    -- the product is at or below low: the upper half
    upper : value ≤ low → Spent (length row) (products + 1) (left - half) → (symbol + half + 1 < length row → Needed (length row) (products + 1) (left - half)) → Among row r low (symbol + half) (left - half) sum' value end (products + 1)
    upper starts spent needed =
        let begins : r * cumulative row (symbol + half) ≤ low = rw (← s, ← v) starts in
        let ends : low < r * cumulative row a.place = rw (← a.end_is) a.ends in
        record {
          place = a.place;
          later = before-place (symbol + half) a.place (omega (arith, a.there)) begins ends;
          near = omega (arith, a.near);
          there = omega (arith, a.there);
          sum_is = s;
          base-is = v;
          starts = starts;
          end_is = a.end_is;
          ends = a.ends;
          spent = spent;
          needed = needed;
          some = λ h. omega arith;
        }

    -- it is above low: the lower half, and perhaps symbols behind it that are not meant
    lower : (left' : ℕ) → 1 ≤ half → half ≤ left' → left' ≤ left → low < value → Spent (length row) (products + 1) left' → (symbol + 1 < length row → Needed (length row) (products + 1) left') → Among row r low symbol left' sum base value (products + 1)
    lower left' some held fewer ends spent needed =
        record {
          place = symbol + half;
          later = omega arith;
          near = omega arith;
          there = omega (arith, a.there);
          sum_is = a.sum_is;
          base-is = a.base-is;
          starts = a.starts;
          end_is = rw (← s) v;
          ends = ends;
          spent = spent;
          needed = needed;
          some = λ h. omega arith;
        }

  -- of 17 symbols the first product tells the last from the sixteen before it, whose sum is what the last one leaves
  module _ (limit last value made : ℕ) (e : limit ≡ 1024 * r) (below : low < limit) (n : length row ≡ 17) (l : last ≡ get_or row 16 0) (v : value ≡ r * (1024 - last)) (m : made ≡ 1) where
    sixteen : 1024 - last ≡ cumulative row (0 + 16)
    sixteen =
        let all : cumulative row 17 ≡ 1024 = rw n at (cumulative-total row passed) in
        let next : cumulative row 17 ≡ cumulative row 16 + get_or row 16 0 = cumulative-next row 16 (omega arith) in
        omega arith

    spent-17 : (left : ℕ) → left ≤ 16 → Spent (length row) 1 left
    spent-17 left few = rw n (seventeen-spent left few)

    all-17 : Among row r low 0 17 0 0 limit 0
    all-17 = rw n at (among-all limit e below)

    pub last-of-17 : value ≤ low → Among row r low 16 1 (1024 - last) value limit made
    last-of-17 starts = rw m (upper 0 17 0 0 limit 0 16 (1024 - last) value all-17 (omega arith) sixteen v starts (spent-17 1 (omega arith)) (λ h. absurd (omega arith)))

    pub sixteen-of-17 : low < value → Among row r low 0 16 0 0 value made
    sixteen-of-17 ends = rw m (lower 0 17 0 0 limit 0 16 (1024 - last) value all-17 (omega arith) sixteen v 16 (omega arith) (omega arith) (omega arith) ends (spent-17 16 (omega arith)) (λ h. omega arith))

  -- a turn: what is left is halved, and summed up to its middle
  module _ (symbol left sum base end products half before value made : ℕ) (a : Among row r low symbol left sum base end products) (more : 1 < left) (h : half ≡ left / 2) (s : cumulative row symbol + before ≡ cumulative row (symbol + half)) (v : value ≡ r * (sum + before)) (m : made ≡ products + 1) where
    middle : sum + before ≡ cumulative row (symbol + half)
    middle = omega (arith, a.sum_is)

    spent : Spent (length row) (products + 1) (left - half)
    spent = rw h (half-spent (length row) left products more a.spent)

    needed : symbol + 1 < length row → Needed (length row) (products + 1) (left - half)
    needed behind = half-needed (length row) left (left - half) products (omega arith) (a.needed behind)

    pub turn-upper : value ≤ low → Among row r low (symbol + half) (left - half) (sum + before) value end made
    turn-upper starts = rw m (upper symbol left sum base end products half (sum + before) value a (omega arith) middle v starts spent (λ behind. needed (omega arith)))

    pub turn-lower : low < value → Among row r low symbol (left - half) sum base value made
    turn-lower ends = rw m (lower symbol left sum base end products half (sum + before) value a (omega arith) middle v (left - half) (omega arith) (omega arith) (omega arith) ends spent needed)
