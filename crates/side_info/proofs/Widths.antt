-- The widths of the bandwidth, of the last nonzero pair, of the gain's part and of J, as the code finds them, and their limits.
-- Assumes nothing.
use Prim.Native.Nat.{ℕ, zero, suc, ◌+◌, ◌-◌, ◌/◌, ◌≤◌, ◌<◌, ◌^◌}
use mathlib.Core.Path.{◌≡◌, refl, ◌∙◌}
use mathlib.Core.Bool.{true}
use native.Mathlib.Omega.{arith}
use native.Mathlib.Decide.{dec_le}
use borrow.Author.Tests.{le-leb, lt-leb}
use lib.Dec.{eqb}
use Rattle.common.proofs.Bools.{by-test}
use Rattle.buffer_reader.specs.Reads.{listed}
use Rattle.side_info.specs.Reader.{bandwidth_bits, least_width, lastnz_bits, part_bits, joint_bits}

pub bandwidth-low : (fs : ℕ) → fs < 3 → bandwidth_bits fs ≡ fs
bandwidth-low zero h = refl
bandwidth-low (suc zero) h = refl
bandwidth-low (suc (suc zero)) h = refl
bandwidth-low (suc (suc (suc n))) h = absurd (omega arith)

pub bandwidth-high : (fs : ℕ) → 3 ≤ fs → fs ≤ 4 → bandwidth_bits fs ≡ fs - 1
bandwidth-high zero h l = absurd (omega arith)
bandwidth-high (suc zero) h l = absurd (omega arith)
bandwidth-high (suc (suc zero)) h l = absurd (omega arith)
bandwidth-high (suc (suc (suc zero))) h l = refl
bandwidth-high (suc (suc (suc (suc zero)))) h l = refl
bandwidth-high (suc (suc (suc (suc (suc n))))) h l = absurd (omega arith)

-- one step of the search for the least width
least-found : (k w n : ℕ) → n ≤ 2 ^ w → least_width (suc k) w n ≡ w
unfolding least_width
least-found k w n h = rw (le-leb n (2 ^ w) h) refl

least_more : (k w n : ℕ) → 2 ^ w < n → least_width (suc k) w n ≡ least_width k (w + 1) n
unfolding least_width
least_more k w n h = rw (lt-leb n (2 ^ w) h) refl

-- more than 16: the search passes five widths
past-four : (n : ℕ) → 16 < n → least_width 9 0 n ≡ least_width 4 5 n
past-four n h =
    least_more 8 0 n (omega arith) ∙ least_more 7 1 n (omega arith) ∙ least_more 6 2 n (omega arith) ∙ least_more 5 3 n (omega arith) ∙ least_more 4 4 n (omega arith)

module _ (ne : ℕ) (least : 60 ≤ ne) where
  pub lastnz-five : ne / 2 ≤ 32 → lastnz_bits ne ≡ 5
  lastnz-five h = past-four (ne / 2) (omega arith) ∙ least-found 3 5 (ne / 2) h

  pub lastnz-six : 32 < ne / 2 → ne / 2 ≤ 64 → lastnz_bits ne ≡ 6
  lastnz-six l h = past-four (ne / 2) (omega arith) ∙ least_more 3 5 (ne / 2) l ∙ least-found 2 6 (ne / 2) h

  pub lastnz-seven : 64 < ne / 2 → ne / 2 ≤ 128 → lastnz_bits ne ≡ 7
  lastnz-seven l h =
      past-four (ne / 2) (omega arith) ∙ least_more 3 5 (ne / 2) (omega arith) ∙ least_more 2 6 (ne / 2) l ∙ least-found 1 7 (ne / 2) h

  pub lastnz-eight : 128 < ne / 2 → ne / 2 ≤ 256 → lastnz_bits ne ≡ 8
  lastnz-eight l h =
      past-four (ne / 2) (omega arith) ∙
      least_more 3 5 (ne / 2) (omega arith) ∙ least_more 2 6 (ne / 2) (omega arith) ∙ least_more 1 7 (ne / 2) l ∙ least-found 0 8 (ne / 2) h

  -- five to eight bits
  pub lastnz-range : ne ≤ 400 → (5 ≤ lastnz_bits ne) × (lastnz_bits ne ≤ 8)
  lastnz-range most = go (dec_le (ne / 2) 32) (dec_le (ne / 2) 64) (dec_le (ne / 2) 128)
    where
      go : Dec (ne / 2 ≤ 32) → Dec (ne / 2 ≤ 64) → Dec (ne / 2 ≤ 128) → (5 ≤ lastnz_bits ne) × (lastnz_bits ne ≤ 8)
      go (yes h) p q = rw (lastnz-five h) (omega arith, omega arith)
      go (no h) (yes p) q = rw (lastnz-six (omega (arith, h)) p) (omega arith, omega arith)
      go (no h) (no p) (yes q) = rw (lastnz-seven (omega (arith, p)) q) (omega arith, omega arith)
      go (no h) (no p) (no q) = rw (lastnz-eight (omega (arith, q)) (omega arith)) (omega arith, omega arith)

  pub lastnz-most : ne ≤ 400 → lastnz_bits ne ≤ 8
  lastnz-most most = (lastnz-range most).1

-- of the gain's part and of J: what holds of both widths by msb 0, and of both by msb 1, holds
pub by-msb : (P : ℕ → ℕ → Type 0) (msb : ℕ) → P 1 25 → P 2 24 → P (part_bits msb) (joint_bits msb)
by-msb P msb zeros ones = by-test (eqb msb 0) (λ e. rw e zeros) (λ e. rw e ones)

pub part-listed : (msb : ℕ) → listed (part_bits msb) ≡ true
part-listed msb = by-msb (λ part joint. listed part ≡ true) msb refl refl

pub joint-listed : (msb : ℕ) → listed (joint_bits msb) ≡ true
joint-listed msb = by-msb (λ part joint. listed joint ≡ true) msb refl refl
