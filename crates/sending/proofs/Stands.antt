-- Tail bits put behind one another stand there, every other place keeps its bit, and they may be put before the head's bytes or behind
-- them, where no byte is shared. Assumes nothing.
use Prim.Native.Nat.{ℕ, zero, suc, ◌+◌, ◌*◌, ◌≤◌, ◌<◌}
use mathlib.Core.Path.{◌≡◌, refl, ap, ◌∙◌}
use mathlib.Core.Bool.{Bool, true}
use mathlib.Core.List.{List, [], ◌∷◌, ◌++◌}
use mathlib.Core.Logic.{◌⊎◌, inl, inr, ⊎_elim}
use native.Mathlib.Omega.{arith}
use lib.ListN.{length, take, replicate, length-replicate}
use Rattle.buffer_reader.specs.Tail.{tail_bit, Bytes}
use Rattle.buffer_writer.specs.Writes.{put_bit}
use Rattle.buffer_writer.proofs.Places.{put-length, put_same, put_other, put-bytes}
use Rattle.range_encoder.specs.Interval.{Sent}
use Rattle.range_encoder.specs.Runs.{AllPass, state_behind}
use Rattle.range_encoder.specs.Theory.{laid_behind}
use Rattle.range_encoder.specs.declared.EncoderState.{EncoderState}
use Rattle.range_encoder.proofs.Laid.{laid-bit}
use Rattle.range_encoder.proofs.OwnBytes.{repeated, own-laid}
use Rattle.sending.specs.Sending.{Owner, Bit, put_bits, laid, Stands}
use Rattle.sending.specs.Private.{AllBits, no_bits, more-bits}

-- bits put before the symbols are sent, or behind them
pub laid-puts : (s : EncoderState) (f : List ℕ) (xs : List Sent) (i : ℕ) (bits : List Bit) → 8 * (state_behind s xs).out + (i + length bits) ≤ 8 * length f → laid_behind s (put_bits f i bits) xs ≡ put_bits (laid_behind s f xs) i bits
unfolding put_bits
laid-puts s f xs i [] room = refl
laid-puts s f xs i (b ∷ bs) room =
    laid-puts s (put_bit f i b.value) xs (i + 1) bs (omega (arith, room, put-length f i b.value)) ∙
    ap (λ (g : List ℕ). put_bits g (i + 1) bs) (laid-bit s f xs i b.value (omega (arith, room)))

-- every other place keeps its bit
pub puts-keep : (f : List ℕ) (i : ℕ) (bits : List Bit) (j : ℕ) → AllBits bits → i + length bits ≤ 8 * length f → j < 8 * length f → (j < i) ⊎ (i + length bits ≤ j) → tail_bit (put_bits f i bits) j ≡ tail_bit f j
unfolding put_bits
puts-keep f i [] j all room there out = refl
puts-keep f i (b ∷ bs) j (more-bits low rest) room there out =
    let same : length (put_bit f i b.value) ≡ length f = put-length f i b.value in
    puts-keep (put_bit f i b.value) (i + 1) bs j rest (omega (arith, room)) (omega (arith, there)) (⊎_elim (λ a. inl (omega (arith, a))) (λ a. inr (omega (arith, a))) out) ∙
    put_other f i b.value (omega (arith, room)) low j there (λ e. ⊎_elim (λ a. omega (arith, a, e)) (λ a. omega (arith, a, e)) out)

pub stands-put : (f : List ℕ) (i : ℕ) (bits : List Bit) → AllBits bits → i + length bits ≤ 8 * length f → Stands (put_bits f i bits) i bits
unfolding put_bits Stands
stands-put f i [] all room = tt
stands-put f i (b ∷ bs) (more-bits low rest) room =
    let g = put_bit f i b.value in
    let same : length g ≡ length f = put-length f i b.value in (
      puts-keep g (i + 1) bs i rest (omega (arith, room)) (omega (arith, room)) (inl (omega arith)) ∙ put_same f i b.value (omega (arith, room)) low,
      stands-put g (i + 1) bs rest (omega (arith, room)),
    )

-- bytes stay bytes
pub puts-bytes : (f : List ℕ) (i : ℕ) (bits : List Bit) → AllBits bits → i + length bits ≤ 8 * length f → Bytes f → Bytes (put_bits f i bits)
unfolding put_bits
puts-bytes f i [] all room bytes = bytes
puts-bytes f i (b ∷ bs) (more-bits low rest) room bytes =
    puts-bytes (put_bit f i b.value) (i + 1) bs rest (omega (arith, room, put-length f i b.value)) (put-bytes f i b.value (omega (arith, room)) low bytes)

-- a frame that is laid is one of bytes
pub laid-bytes : (reading bytes : ℕ) (symbols : List Sent) (bits : List Bit) → AllPass symbols → AllBits bits → length bits ≤ 8 * bytes → Bytes (laid reading bytes symbols bits)
laid-bytes reading bytes symbols bits all low room =
    let zeros : List ℕ = replicate bytes 0 in
    let size : length zeros ≡ bytes = length-replicate bytes 0 in
    own-laid reading symbols all (put_bits zeros 0 bits) 0 (puts-bytes zeros 0 bits low (omega (arith, room, size)) (repeated bytes 0 (omega arith)))

-- what stands in a frame stands in any that has the same bits there
pub stands_same : (f g : List ℕ) (i : ℕ) (bits : List Bit) → ((j : ℕ) → i ≤ j → j < i + length bits → tail_bit g j ≡ tail_bit f j) → Stands f i bits → Stands g i bits
unfolding Stands
stands_same f g i [] same h = tt
stands_same f g i (b ∷ bs) same h = (
  same i (omega arith) (omega arith) ∙ h.0,
  stands_same f g (i + 1) bs (λ j l m. same j (omega (arith, l)) (omega (arith, m))) h.1,
)

pub stands-append : (f : List ℕ) (i : ℕ) (xs ys : List Bit) → Stands f i (xs ++ ys) → Stands f i xs × Stands f (i + length xs) ys
unfolding Stands
stands-append f i [] ys h = (tt, let e : i + 0 ≡ i = omega arith in rw e h)
stands-append f i (x ∷ xs) ys h =
    let rest = stands-append f (i + 1) xs ys h.1 in
    let e : i + 1 + length xs ≡ i + length (x ∷ xs) = omega arith in
    ((h.0, rest.0), rw (← e) rest.1)

pub stands-behind : (f : List ℕ) (i : ℕ) (xs ys : List Bit) → Stands f i xs → Stands f (i + length xs) ys → Stands f i (xs ++ ys)
unfolding Stands
stands-behind f i [] ys h k = let e : i + 0 ≡ i = omega arith in rw e at k
stands-behind f i (x ∷ xs) ys h k =
    let e : i + length (x ∷ xs) ≡ i + 1 + length xs = omega arith in
    (h.0, stands-behind f (i + 1) xs ys h.1 (rw e at k))

-- those of some owners stand
unfoldable pub StandFor : (Owner → Bool) → List ℕ → ℕ → List Bit → Type 0
StandFor spared f i [] = Unit {0}
StandFor spared f i (b ∷ bs) = (spared b.owner ≡ true → tail_bit f i ≡ b.value) × StandFor spared f (i + 1) bs

pub stand-for-append : (spared : Owner → Bool) (f : List ℕ) (i : ℕ) (xs ys : List Bit) → StandFor spared f i (xs ++ ys) → StandFor spared f i xs × StandFor spared f (i + length xs) ys
unfolding StandFor
stand-for-append spared f i [] ys h = (tt, let e : i + 0 ≡ i = omega arith in rw e h)
stand-for-append spared f i (x ∷ xs) ys h =
    let rest = stand-for-append spared f (i + 1) xs ys h.1 in
    let e : i + 1 + length xs ≡ i + length (x ∷ xs) = omega arith in
    ((h.0, rest.0), rw (← e) rest.1)

-- where every owner is one of them, all stand
pub all-stand : (f : List ℕ) (i : ℕ) (bits : List Bit) → StandFor (λ o. true) f i bits → Stands f i bits
unfolding StandFor Stands
all-stand f i [] h = tt
all-stand f i (b ∷ bs) h = (h.0 refl, all-stand f (i + 1) bs h.1)

-- lists of bits below 2
pub bits-append : (xs ys : List Bit) → AllBits xs → AllBits ys → AllBits (xs ++ ys)
bits-append [] ys h k = k
bits-append (x ∷ xs) ys (more-bits low rest) k = more-bits low (bits-append xs ys rest k)

pub take-bits-low : (n : ℕ) (bits : List Bit) → AllBits bits → AllBits (take n bits)
take-bits-low zero bits h = no_bits
take-bits-low (suc n) [] h = no_bits
take-bits-low (suc n) (b ∷ bits) (more-bits low rest) = more-bits low (take-bits-low n bits rest)
