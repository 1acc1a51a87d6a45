-- The limits that a configuration keeps which passes, and document 01's numbers of lines as products.
-- Assumes nothing.
use Prim.Native.Nat.{ℕ, zero, suc, ◌+◌, ◌*◌, ◌≤◌}
use mathlib.Core.Path.{◌≡◌, refl, sym, ◌∙◌}
use mathlib.Core.Bool.{Bool, true, false, not, ◌&&◌}
use mathlib.Core.List.{[], ◌∷◌}
use native.Mathlib.Omega.{arith}
use borrow.Author.Tests.{leb-true, le-leb, not-false}
use lib.Dec.{leb}
use lib.ListN.{get_or}
use Rattle.common.proofs.Bools.{and_left, and_right}
use Rattle.common.specs.Configuration.{configuration_passes, ne, length_passes, lines_of, frame_lines}
use Rattle.common.specs.Reply.{Reply, accepted, refused, given, outside_limits, wrong_length}
use Rattle.common.proofs.Replies.{no-refusal, accepted-same, given-split, then-split}
use Rattle.common.specs.declared.configuration.Configuration.{Configuration}

-- within the first two limits the third decides
pub third-decides : (c : Configuration) → c.fs_ind ≤ 4 → c.duration ≤ 1 → configuration_passes c ≡ leb c.reading 1
third-decides c p q = rw (le-leb c.fs_ind 4 p, le-leb c.duration 1 q) refl

pub fs-limit : (c : Configuration) → configuration_passes c ≡ true → c.fs_ind ≤ 4
fs-limit c e =
    leb-true _ _
    (and_left _ (leb c.duration 1) (and_left (leb c.fs_ind 4 && leb c.duration 1) _ e))

pub duration-limit : (c : Configuration) → configuration_passes c ≡ true → c.duration ≤ 1
duration-limit c e =
    leb-true _ _
    (and_right (leb c.fs_ind 4) _ (and_left (leb c.fs_ind 4 && leb c.duration 1) _ e))

-- a table of five multiples, at each of its places
multiples : (a fs : ℕ) → fs ≤ 4 → get_or (a ∷ 2 * a ∷ 3 * a ∷ 4 * a ∷ 5 * a ∷ []) fs 0 ≡ (fs + 1) * a
multiples a zero h = omega arith
multiples a (suc zero) h = refl
multiples a (suc (suc zero)) h = refl
multiples a (suc (suc (suc zero))) h = refl
multiples a (suc (suc (suc (suc zero)))) h = refl
multiples a (suc (suc (suc (suc (suc n))))) h = absurd (omega arith)

-- 80 lines for each step of the sampling rate at 10 ms, 60 at 7.5 ms
pub ne-long : (fs : ℕ) → fs ≤ 4 → ne 0 fs ≡ (fs + 1) * 80
ne-long = multiples 80

pub ne-short : (fs : ℕ) → fs ≤ 4 → ne 1 fs ≡ (fs + 1) * 60
ne-short = multiples 60

pub lines-passed : (c : Configuration) → configuration_passes c ≡ true → lines_of c ≡ accepted (ne c.duration c.fs_ind)
lines-passed c e = rw e refl

pub lines-refused : (c : Configuration) → configuration_passes c ≡ false → lines_of c ≡ refused outside_limits
lines-refused c e = rw e refl

pub lines-known : (c : Configuration) {n : ℕ} → lines_of c ≡ accepted n → (configuration_passes c ≡ true) × (n ≡ ne c.duration c.fs_ind)
lines-known c e =
    let p = given-split (not (configuration_passes c)) outside_limits (accepted (ne c.duration c.fs_ind)) e in
    (not-false (configuration_passes c) p.0, sym (accepted-same p.1))

pub lines-unknown : (c : Configuration) {r : Reply} → lines_of c ≡ refused r → configuration_passes c ≡ false
lines-unknown c e = go (configuration_passes c) refl
  where
    go : (t : Bool) → configuration_passes c ≡ t → configuration_passes c ≡ false
    go true p = absurd (no-refusal (sym (lines-passed c p) ∙ e))
    go false p = p

-- a call on a frame: what it is behind both checks, and what is so where it got that far
pub frame-passed : (c : Configuration) (bytes : ℕ) → configuration_passes c ≡ true → length_passes bytes ≡ true → frame_lines c bytes ≡ accepted (ne c.duration c.fs_ind)
frame-passed c bytes e l = rw (e, l) refl

pub frame-outside : (c : Configuration) (bytes : ℕ) → configuration_passes c ≡ false → frame_lines c bytes ≡ refused outside_limits
frame-outside c bytes e = rw e refl

pub frame-length : (c : Configuration) (bytes : ℕ) → configuration_passes c ≡ true → length_passes bytes ≡ false → frame_lines c bytes ≡ refused (wrong_length bytes)
frame-length c bytes e l = rw (e, l) refl

pub frame-known : (c : Configuration) (bytes : ℕ) {n : ℕ} → frame_lines c bytes ≡ accepted n → (configuration_passes c ≡ true) × (length_passes bytes ≡ true) × (n ≡ ne c.duration c.fs_ind)
frame-known c bytes e =
    let s = then-split (lines_of c) (λ n. given (not (length_passes bytes)) (wrong_length bytes) (accepted n)) e in
    let k = lines-known c s.1 in
    let g = given-split (not (length_passes bytes)) (wrong_length bytes) (accepted s.0) s.2 in
    (k.0, not-false (length_passes bytes) g.0, sym (accepted-same g.1) ∙ k.1)

-- 60 to 400 lines
pub ne-range : (c : Configuration) → configuration_passes c ≡ true → (60 ≤ ne c.duration c.fs_ind) × (ne c.duration c.fs_ind ≤ 400)
ne-range c e = within c.duration c.fs_ind (duration-limit c e) (fs-limit c e)
  where
    within : (d fs : ℕ) → d ≤ 1 → fs ≤ 4 → (60 ≤ ne d fs) × (ne d fs ≤ 400)
    within zero fs p q = rw (ne-long fs q) (omega arith, omega arith)
    within (suc zero) fs p q = rw (ne-short fs q) (omega arith, omega arith)
    within (suc (suc d)) fs p q = absurd (omega arith)

-- a frame of a length that passes has 20 to 400 bytes
pub length-limits : (bytes : ℕ) → length_passes bytes ≡ true → (20 ≤ bytes) × (bytes ≤ 400)
length-limits bytes e =
    (leb-true 20 bytes (and_left (leb 20 bytes) (leb bytes 400) e), leb-true bytes 400 (and_right (leb 20 bytes) (leb bytes 400) e))

-- what a call that got past refusals 1 and 2 knows
pub frame-ranges : (c : Configuration) (bytes : ℕ) {n : ℕ} → frame_lines c bytes ≡ accepted n → (c.fs_ind ≤ 4) × (60 ≤ n) × (n ≤ 400) × (20 ≤ bytes) × (bytes ≤ 400)
frame-ranges c bytes e =
    let known = frame-known c bytes e in
    let lines = ne-range c known.0 in
    let size = length-limits bytes known.1 in
    (fs-limit c known.0, rw known.2 lines.0, rw known.2 lines.1, size.0, size.1)
