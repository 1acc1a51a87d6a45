-- The joint index both ways: a second stage that passes is had back from its parts and its joint index, in each of the four
-- shapes, and both are below their limits: what the writer lays down is what the reader finds. Assumes nothing.
use Prim.Native.Nat.{ℕ, zero, suc, ◌+◌, ◌-◌, ◌*◌, ◌/◌, ◌%◌, ◌^◌, ◌≤◌, ◌<◌}
use mathlib.Core.Path.{◌≡◌, refl, subst}
use mathlib.Core.Bool.{Bool, true, false, ◌&&◌}
use native.Mathlib.Omega.{arith}
use borrow.Author.Tests.{lt-ltb, le-ltb, leb-true, le-leb, ne_eqb}
use lib.Dec.{eqb}
use Rattle.common.proofs.Bools.{and_left, and_right, and_both}
use Rattle.side_info.specs.Joint.{sns_of, part_of, joint_of}
use Rattle.side_info.specs.Reader.{part_bits, joint_bits}
use Rattle.side_info.specs.Record.{if_there, shape_of, gain_most, idx_most, sns_passes}
use Rattle.side_info.specs.declared.Sns.{Sns}

-- the limits of a second stage that passes
pub record SnsLimits (s : Sns) : Type 0 where
  pub low : s.lf ≤ 31
  pub high : s.hf ≤ 31
  pub stage : s.msb ≤ 1
  pub mode : s.submode_lsb ≤ 1
  pub gains : s.gain ≤ gain_most (shape_of s)
  pub sign_a : s.ls_inda ≤ 1
  pub index_a : s.idx_a ≤ idx_most (shape_of s)
  pub sign_b : s.ls_indb ≤ if_there (eqb (shape_of s) 0) 1
  pub index_b : s.idx_b ≤ if_there (eqb (shape_of s) 0) 5

-- of two tests joined, each
pub parts : (a b : Bool) → (a && b) ≡ true → (a ≡ true) × (b ≡ true)
parts a b e = (and_left a b e, and_right a b e)

-- from the test to the limits
pub sns-limits : (s : Sns) → sns_passes s ≡ true → SnsLimits s
sns-limits s e =
    let e8 = parts _ _ e in
    let e7 = parts _ _ e8.0 in
    let e6 = parts _ _ e7.0 in
    let e5 = parts _ _ e6.0 in
    let e4 = parts _ _ e5.0 in
    let e3 = parts _ _ e4.0 in
    let e2 = parts _ _ e3.0 in
    let e1 = parts _ _ e2.0 in
    record {
      low = leb-true _ _ e1.0;
      high = leb-true _ _ e1.1;
      stage = leb-true _ _ e2.1;
      mode = leb-true _ _ e3.1;
      gains = leb-true _ _ e4.1;
      sign_a = leb-true _ _ e5.1;
      index_a = leb-true _ _ e6.1;
      sign_b = leb-true _ _ e7.1;
      index_b = leb-true _ _ e8.1;
    }

-- and back, nine tests at once
pub limits-sns : (s : Sns) → SnsLimits s → sns_passes s ≡ true
limits-sns s h =
    and_both _ _
    (and_both _ _
    (and_both _ _
    (and_both _ _
    (and_both _ _
    (and_both _ _ (and_both _ _ (and_both _ _ (le-leb _ _ h.low) (le-leb _ _ h.high)) (le-leb _ _ h.stage)) (le-leb _ _ h.mode))
    (le-leb _ _ h.gains))
    (le-leb _ _ h.sign_a))
    (le-leb _ _ h.index_a))
    (le-leb _ _ h.sign_b))
    (le-leb _ _ h.index_b)

-- a second stage by its nine numbers
abbrev stage-of : ℕ → ℕ → ℕ → ℕ → ℕ → ℕ → ℕ → ℕ → ℕ → Sns
stage-of lf hf msb mode gain ls_a a ls_b b =
    record {
      lf = lf;
      hf = hf;
      msb = msb;
      submode_lsb = mode;
      gain = gain;
      ls_inda = ls_a;
      idx_a = a;
      ls_indb = ls_b;
      idx_b = b;
    }

-- the four shapes, each over its own numbers
module _ (lf hf ls_a gain a : ℕ) where
  shape-0 : (ls_b b : ℕ) → a ≤ 2390003 → ls_b ≤ 1 → sns_of lf hf 0 gain ls_a ((2 + 2 * b + ls_b) * 2390004 + a) ≡ stage-of lf hf 0 0 gain ls_a a ls_b b
  shape-0 ls_b b h l =
      let q : ((2 + 2 * b + ls_b) * 2390004 + a) / 2390004 ≡ 2 + 2 * b + ls_b = omega arith in
      let r : ((2 + 2 * b + ls_b) * 2390004 + a) % 2390004 ≡ a = omega arith in
      let sign : (2 + 2 * b + ls_b - 2) % 2 ≡ ls_b = omega arith in
      let index : (2 + 2 * b + ls_b - 2) / 2 ≡ b = omega arith in
      rw (q, r, le-ltb (2 + 2 * b + ls_b) 2 (omega arith), sign, index) refl

  shape-1 : a ≤ 2390003 → sns_of lf hf 0 (gain / 2) ls_a (gain % 2 * 2390004 + a) ≡ stage-of lf hf 0 1 gain ls_a a 0 0
  shape-1 h =
      let q : (gain % 2 * 2390004 + a) / 2390004 ≡ gain % 2 = omega arith in
      let r : (gain % 2 * 2390004 + a) % 2390004 ≡ a = omega arith in
      let whole : 2 * (gain / 2) + gain % 2 ≡ gain = omega arith in
      rw (q, r, lt-ltb (gain % 2) 2 (omega arith), whole) refl

  shape-2 : a ≤ 15158271 → sns_of lf hf 1 gain ls_a a ≡ stage-of lf hf 1 0 gain ls_a a 0 0
  shape-2 h = rw (lt-ltb a 15158272 (omega arith)) refl

  shape-3 : sns_of lf hf 1 (gain / 2) ls_a (15158272 + (2 * a + gain % 2)) ≡ stage-of lf hf 1 1 gain ls_a a 0 0
  shape-3 =
      let odd : (15158272 + (2 * a + gain % 2) - 15158272) % 2 ≡ gain % 2 = omega arith in
      let index : (15158272 + (2 * a + gain % 2) - 15158272) / 2 ≡ a = omega arith in
      let whole : 2 * (gain / 2) + gain % 2 ≡ gain = omega arith in
      rw (le-ltb (15158272 + (2 * a + gain % 2)) 15158272 (omega arith), odd, index, whole) refl

abbrev Back : Sns → Type 0
Back s = sns_of s.lf s.hf s.msb (part_of s) s.ls_inda (joint_of s) ≡ s

back_by : (lf hf msb mode gain ls_a a ls_b b : ℕ) → SnsLimits (stage-of lf hf msb mode gain ls_a a ls_b b) → Back (stage-of lf hf msb mode gain ls_a a ls_b b)
back_by lf hf zero zero gain ls_a a ls_b b l = shape-0 lf hf ls_a gain a ls_b b l.index_a l.sign_b
back_by lf hf zero (suc zero) gain ls_a a ls_b b l =
    let p : ls_b ≡ 0 = omega arith in
    let q : b ≡ 0 = omega arith in
    rw (p, q) (shape-1 lf hf ls_a gain a l.index_a)
back_by lf hf (suc zero) zero gain ls_a a ls_b b l =
    let p : ls_b ≡ 0 = omega arith in
    let q : b ≡ 0 = omega arith in
    rw (p, q) (shape-2 lf hf ls_a gain a l.index_a)
back_by lf hf (suc zero) (suc zero) gain ls_a a ls_b b l =
    let p : ls_b ≡ 0 = omega arith in
    let q : b ≡ 0 = omega arith in
    rw (p, q) (shape-3 lf hf ls_a gain a)
back_by lf hf (suc (suc msb)) mode gain ls_a a ls_b b l = absurd (omega arith)
back_by lf hf zero (suc (suc mode)) gain ls_a a ls_b b l = absurd (omega arith)
back_by lf hf (suc zero) (suc (suc mode)) gain ls_a a ls_b b l = absurd (omega arith)

-- the second stage that its parts and its joint index give is itself
pub joint-back : (s : Sns) → sns_passes s ≡ true → sns_of s.lf s.hf s.msb (part_of s) s.ls_inda (joint_of s) ≡ s
joint-back s e =
    back_by s.lf s.hf s.msb s.submode_lsb s.gain s.ls_inda s.idx_a s.ls_indb s.idx_b (sns-limits s e)

-- the limits of the joint index and of the gain's part, by msb
abbrev Fits : ℕ → Sns → Type 0
Fits zero s = (joint_of s < 33460056) × (part_of s < 2)
Fits (suc n) s = (joint_of s < 16708096) × (part_of s < 4)

fits_by : (lf hf msb mode gain ls_a a ls_b b : ℕ) → SnsLimits (stage-of lf hf msb mode gain ls_a a ls_b b) → Fits msb (stage-of lf hf msb mode gain ls_a a ls_b b)
fits_by lf hf zero zero gain ls_a a ls_b b l = omega arith
fits_by lf hf zero (suc zero) gain ls_a a ls_b b l = omega arith
fits_by lf hf (suc zero) zero gain ls_a a ls_b b l = omega arith
fits_by lf hf (suc zero) (suc zero) gain ls_a a ls_b b l = omega arith
fits_by lf hf (suc (suc msb)) mode gain ls_a a ls_b b l = absurd (omega arith)
fits_by lf hf zero (suc (suc mode)) gain ls_a a ls_b b l = absurd (omega arith)
fits_by lf hf (suc zero) (suc (suc mode)) gain ls_a a ls_b b l = absurd (omega arith)

module _ (s : Sns) (e : sns_passes s ≡ true) where
  fits : Fits s.msb s
  fits =
      fits_by s.lf s.hf s.msb s.submode_lsb s.gain s.ls_inda s.idx_a s.ls_indb s.idx_b (sns-limits s e)

  -- msb 0: 25 bits
  pub joint-low-25 : s.msb ≡ 0 → joint_of s < 33460056
  joint-low-25 z = (subst (λ (m : ℕ). Fits m s) z fits).0

  -- msb 1: 24 bits
  pub joint-low-24 : s.msb ≡ 1 → joint_of s < 16708096
  joint-low-24 z = (subst (λ (m : ℕ). Fits m s) z fits).0

  above : (m : ℕ) → eqb (suc m) 0 ≡ false
  above m = ne_eqb (suc m) 0 (λ e. omega arith)

  -- the gain's part and the joint index are below 2 to their widths
  pub part-fits : part_of s < 2 ^ part_bits s.msb
  part-fits = by s.msb fits
    where
      by : (m : ℕ) → Fits m s → part_of s < 2 ^ part_bits m
      by zero h = h.1
      by (suc m) h = rw (above m) h.1

  pub joint-fits : joint_of s < 2 ^ joint_bits s.msb
  joint-fits = by s.msb fits
    where
      by : (m : ℕ) → Fits m s → joint_of s < 2 ^ joint_bits m
      by zero h = omega arith
      by (suc m) h = rw (above m) (omega arith)
