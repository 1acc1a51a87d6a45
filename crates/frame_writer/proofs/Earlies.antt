-- The lines of the pairs as they are read: in least-bit mode the lines before what comes late, since both clear the lowest bits of escaped
-- pairs; outside it the lines themselves, with the zeros behind lastnz. Assumes nothing.
use Prim.Native.Nat.{ℕ, zero, suc, ◌+◌, ◌-◌, ◌*◌, ◌≤◌, ◌<◌}
use mathlib.Core.Path.{◌≡◌, refl, ap, ap₂, ◌∙◌}
use mathlib.Core.Bool.{true, false}
use mathlib.Core.List.{List, [], ◌∷◌, ◌++◌}
use native.Mathlib.Omega.{arith}
use borrow.Author.Tests.{lt-ltb}
use lib.IntN.{ℤ, pos}
use lib.ListN.{length, take, replicate}
use lib.Seq.{length-take-le}
use Rattle.contexts.specs.Lines.{magnitude_at}
use Rattle.spectral_data.specs.Spectral.{lines_of}
use Rattle.spectral_data.specs.Sent.{pairs_of}
use Rattle.residual_data.specs.Sent.{early_lines, back_lines}
use Rattle.residual_data.proofs.Cuts.{back_whole}
use Rattle.frame_reader.specs.Frame.{filled_to}
use Rattle.frame_writer.proofs.Reread.{zero-line}

pub early-lines : (lines : List ℤ) (p n : ℕ) → lines_of (pairs_of true lines p n) ≡ early_lines lines p n
unfolding lines_of pairs_of early_lines
early-lines lines p zero = refl
early-lines lines p (suc n) = rw (early-lines lines (p + 1) n) refl

-- outside least-bit mode
plain_lines : (lines : List ℤ) (cut p n : ℕ) → 2 * (p + n) ≤ cut → lines_of (pairs_of false lines p n) ≡ back_lines lines cut p n
unfolding lines_of pairs_of back_lines
plain_lines lines cut p zero h = refl
plain_lines lines cut p (suc n) h =
    rw (lt-ltb (2 * p) cut (omega arith), lt-ltb (2 * p + 1) cut (omega arith), plain_lines lines cut (p + 1) n (omega arith)) refl

-- zeros that were cut away
zeros-back : (lines : List ℤ) (m : ℕ) → m ≤ length lines → ((k : ℕ) → m ≤ k → k < length lines → magnitude_at lines k ≡ 0) → take m lines ++ replicate (length lines - m) (pos 0) ≡ lines
zeros-back [] zero h zeros = refl
zeros-back [] (suc m) h zeros = absurd (omega arith)
zeros-back (x ∷ xs) zero h zeros =
    let size : length (x ∷ xs) - 0 ≡ suc (length xs - 0) = omega arith in
    rw size
    (ap₂ (λ (z : ℤ) (zs : List ℤ). z ∷ zs) (zero-line x (zeros 0 (omega arith) (omega arith))) (zeros-back xs zero (omega arith) (λ k l m. zeros (suc k) (omega arith) (omega arith))))
zeros-back (x ∷ xs) (suc n) h zeros =
    let size : length (x ∷ xs) - suc n ≡ length xs - n = omega arith in
    rw size
    (ap (λ (zs : List ℤ). x ∷ zs) (zeros-back xs n (omega arith) (λ k l m. zeros (suc k) (omega arith) (omega arith))))

pub plain-filled : (lines : List ℤ) (n : ℕ) → 2 * n ≤ length lines → ((k : ℕ) → 2 * n ≤ k → k < length lines → magnitude_at lines k ≡ 0) → filled_to (length lines) (lines_of (pairs_of false lines 0 n)) ≡ lines
plain-filled lines n h zeros =
    let is : lines_of (pairs_of false lines 0 n) ≡ take (2 * n) lines =
    plain_lines lines (2 * (0 + n)) 0 n (omega arith) ∙ back_whole lines (2 * (0 + n)) 0 n (omega arith) (omega arith) in
    rw (is, length-take-le (2 * n) lines h) (zeros-back lines (2 * n) h zeros)
