-- Bits put behind one another: lists of them append, and the frame keeps its length. Assumes nothing.
use Prim.Native.Nat.{ℕ, ◌+◌}
use mathlib.Core.Path.{◌≡◌, refl, ap, ◌∙◌}
use mathlib.Core.Bool.{Bool, true, false, cond}
use mathlib.Core.List.{List, [], ◌∷◌, ◌++◌}
use native.Mathlib.Omega.{arith}
use native.Mathlib.Nat.{add-zero}
use lib.ListN.{length, length-append}
use Rattle.buffer_writer.specs.Writes.{put_bit}
use Rattle.buffer_writer.proofs.Places.{put-length}
use Rattle.sending.specs.Sending.{Bit, put_bits}
use Rattle.sending.specs.Private.{put_all, Puts}

pub put-append : (f : List ℕ) (i : ℕ) (xs ys : List Bit) → put_bits f i (xs ++ ys) ≡ put_bits (put_bits f i xs) (i + length xs) ys
unfolding put_bits
put-append f i [] ys = rw (add-zero i) refl
put-append f i (x ∷ xs) ys =
    let e : i + 1 + length xs ≡ i + length (x ∷ xs) = omega arith in
    put-append (put_bit f i x.value) (i + 1) xs ys ∙
    ap (λ (k : ℕ). put_bits (put_bits (put_bit f i x.value) (i + 1) xs) k ys) e

pub put-bits-length : (f : List ℕ) (i : ℕ) (xs : List Bit) → length (put_bits f i xs) ≡ length f
unfolding put_bits
put-bits-length f i [] = refl
put-bits-length f i (x ∷ xs) = put-bits-length (put_bit f i x.value) (i + 1) xs ∙ put-length f i x.value

-- the same where nothing may be put
pub put-all-append : (writing : Bool) (f : List ℕ) (i : ℕ) (xs ys : List Bit) → put_all writing f i (xs ++ ys) ≡ put_all writing (put_all writing f i xs) (i + length xs) ys
put-all-append true f i xs ys = put-append f i xs ys
put-all-append false f i xs ys = refl

pub put-all-length : (writing : Bool) (f : List ℕ) (i : ℕ) (xs : List Bit) → length (put_all writing f i xs) ≡ length f
put-all-length true f i xs = put-bits-length f i xs
put-all-length false f i xs = refl

pub put-all-none : (writing : Bool) (f : List ℕ) (i : ℕ) → put_all writing f i [] ≡ f
unfolding put_bits
put-all-none true f i = refl
put-all-none false f i = refl

pub put-all-one : (writing : Bool) (f : List ℕ) (i : ℕ) (b : Bit) → put_all writing f i (b ∷ []) ≡ cond writing (put_bit f i b.value) f
unfolding put_bits
put-all-one true f i b = refl
put-all-one false f i b = refl

-- room for all is room for those before, and behind them for the rest
pub puts-split : (writing : Bool) (f : List ℕ) (i : ℕ) (xs ys : List Bit) → Puts writing f i (length (xs ++ ys)) → Puts writing f i (length xs) × Puts writing (put_all writing f i xs) (i + length xs) (length ys)
puts-split writing f i xs ys h =
    let size : length (xs ++ ys) ≡ length xs + length ys = length-append xs ys in
    let same : length (put_all writing f i xs) ≡ length f = put-all-length writing f i xs in (
      record { few = omega (arith, h.few); short = h.short; room = λ e. omega (arith, h.room e) },
      record { few = omega (arith, h.few); short = omega (arith, h.short); room = λ e. omega (arith, h.room e) },
    )
