-- A bound on each magnitude holds of a part of the lines, and of lines one behind the other: so behind what comes late all lines keep one that
-- is larger by one. Assumes nothing.
use Rattle.std.proofs.Common.{ℕ, zero, suc, ◌+◌, ◌*◌, Bool, List, [], ◌∷◌, ◌++◌, take, drop, ℤ, le_trans, arith}
use Rattle.residual_data.specs.Residual.{late_from}
use Rattle.residual_data.specs.Private.{AtMost}
use Rattle.residual_data.proofs.Lates.{late-most}

pub most-none : (m : ℕ) → AtMost m []
most-none m k = omega arith

pub most-take : (m n : ℕ) (xs : List ℤ) → AtMost m xs → AtMost m (take n xs)
most-take m zero xs h k = omega arith
most-take m (suc n) [] h k = omega arith
most-take m (suc n) (x ∷ xs) h zero = h 0
most-take m (suc n) (x ∷ xs) h (suc k) = most-take m n xs (λ i. h (suc i)) k

pub most-drop : (m n : ℕ) (xs : List ℤ) → AtMost m xs → AtMost m (drop n xs)
most-drop m zero xs h k = h k
most-drop m (suc n) [] h k = omega arith
most-drop m (suc n) (x ∷ xs) h k = most-drop m n xs (λ i. h (suc i)) k

pub most-append : (m : ℕ) (xs ys : List ℤ) → AtMost m xs → AtMost m ys → AtMost m (xs ++ ys)
most-append m [] ys g h k = h k
most-append m (x ∷ xs) ys g h zero = g 0
most-append m (x ∷ xs) ys g h (suc k) = most-append m xs ys (λ i. g (suc i)) h k

-- all lines behind what comes late, as `late_lines` leaves them
pub late-lines-most : (m : ℕ) (f : List ℕ) (escaped : ℕ → Bool) (lines : List ℤ) (pairs tail room : ℕ) → AtMost m lines → AtMost (m + 1) ((late_from f escaped 0 (take (2 * pairs) lines) tail room).lines ++ drop (2 * pairs) lines)
late-lines-most m f escaped lines pairs tail room h =
    most-append (m + 1) (late_from f escaped 0 (take (2 * pairs) lines) tail room).lines (drop (2 * pairs) lines)
    (late-most f escaped m 0 (take (2 * pairs) lines) tail room (most-take m (2 * pairs) lines h))
    (λ k. le_trans (most-drop m (2 * pairs) lines h k) (omega arith))
