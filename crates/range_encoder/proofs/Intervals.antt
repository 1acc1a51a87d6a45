-- Theorem 1, the exact interval: behind any symbols its range has 17 to 24 bits, and it ends within its string. A symbol leaves a
-- part of it, of at least 64 numbers, and a turn multiplies base, range and string by 256 alike. Assumes nothing.
use Prim.Native.Nat.{ℕ, ◌+◌, ◌*◌, ◌^◌, ◌≤◌}
use mathlib.Core.Path.{◌≡◌, ap, ◌∙◌}
use mathlib.Core.List.{List, [], ◌∷◌}
use native.Mathlib.Omega.{arith}
use borrow.Author.Tests.{ltb-true, ltb-false}
use lib.Dec.{ltb}
use lib.Pow.{pow-add}
use Rattle.common.proofs.Bools.{by-test}
use Rattle.range_encoder.specs.Interval.{Sent, Interval, whole, part, widened, narrowed_by, behind}
use Rattle.range_encoder.specs.Runs.{Passes, AllPass, none, more}
use Rattle.range_encoder.specs.Theory.{Within}
use Rattle.range_encoder.proofs.Symbols.{symbol-given}

-- one between two turns, whose range may be short
record Short (i : Interval) : Type 0 where
  range-most : i.range ≤ 0xFFFFFF
  inside : i.base + i.range ≤ 2 ^ (24 + 8 * i.shifts)

-- a string with a byte more has 256 times as many numbers
pub string-more : (n : ℕ) → 2 ^ (24 + 8 * (n + 1)) ≡ 2 ^ (24 + 8 * n) * 256
string-more n =
    let e : 24 + 8 * (n + 1) ≡ 24 + 8 * n + 8 = omega arith in
    ap (λ (k : ℕ). 2 ^ k) e ∙ pow-add 2 (24 + 8 * n) 8

-- a turn keeps the interval within its string
short-widened : (i : Interval) → Short i → Short (widened i)
short-widened i h =
    by-test (ltb i.range 0x10000)
    (λ e. rw e (record { range-most = omega (arith, ltb-true); inside = rw string-more (omega arith) }))
    (λ e. rw e h)

-- a turn multiplies a range below 0x10000 by 256
pub least-widened : (i : Interval) (n : ℕ) → n ≤ 256 → n ≤ i.range → n * 256 ≤ (widened i).range
least-widened i n few h =
    by-test (ltb i.range 0x10000) (λ e. rw e (omega arith)) (λ e. rw e (omega (arith, ltb-false)))

-- two turns suffice: a range of at least 64 is then at least 0x10000
pub two-turns : (i : Interval) → 64 ≤ i.range → 0x10000 ≤ (widened (widened i)).range
two-turns i least =
    let once : 64 * 256 ≤ (widened i).range = least-widened i 64 (omega arith) least in
    least-widened (widened i) 256 (omega arith) (omega arith)

-- the first interval, a symbol's own, and that of any symbols
pub within-whole : Within whole
within-whole = omega arith

pub within-narrowed : (i : Interval) (x : Sent) → Within i → Passes x → Within (narrowed_by i x)
within-narrowed i x h p =
    let g = symbol-given i.range x h.range-least p in
    let own : Short (part i x) = omega arith in
    let last : Short (narrowed_by i x) = short-widened (widened (part i x)) (short-widened (part i x) own) in
    record {
      range-least = two-turns (part i x) g.least;
      range-most = last.range-most;
      inside = last.inside;
    }

pub within-behind : (i : Interval) (xs : List Sent) → Within i → AllPass xs → Within (behind i xs)
unfolding behind
within-behind i [] h none = h
within-behind i (x ∷ xs) h (more p ps) = within-behind (narrowed_by i x) xs (within-narrowed i x h p) ps

-- the interval of any symbols that pass ends within its string
pub interval-bounded : (xs : List Sent) → AllPass xs → (behind whole xs).base + (behind whole xs).range ≤ 2 ^ (24 + 8 * (behind whole xs).shifts)
interval-bounded xs ps = (within-behind whole xs within-whole ps).inside
