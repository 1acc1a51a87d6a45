-- A frame whose places are parted has the tail's bits where they were put, and zeros from there up to what the head keeps for itself.
-- Assumes nothing.
use Prim.Native.Nat.{ℕ, suc, ◌+◌, ◌-◌, ◌*◌, ◌≤◌, ◌<◌}
use mathlib.Core.Path.{◌≡◌, refl, ap, ◌∙◌}
use mathlib.Core.Bool.{Bool, true}
use mathlib.Core.List.{List, [], ◌∷◌}
use native.Mathlib.Omega.{arith}
use native.Mathlib.Nat.{add-zero, zero-add}
use borrow.Author.Tests.{le-ltb}
use lib.ListN.{length}
use Rattle.buffer_reader.specs.Tail.{tail_bit}
use Rattle.range_encoder.specs.Interval.{Sent}
use Rattle.range_encoder.specs.Runs.{own_length}
use Rattle.sending.specs.Sending.{Bit, Stands}
use Rattle.sending.proofs.Stands.{StandFor, all-stand}
use Rattle.frame_writer.specs.Frame.{reserved}
use Rattle.frame_writer.specs.Whose.{Whose, tail, Place, in_tail, Parted}
use Rattle.frame_writer.proofs.Owners.{behind-tail}

-- at places where the bits of some owners are as they were put, these stand
pub placed-for : (spared : Whose → Bool) (f : List ℕ) (i : ℕ) (bits : List Bit) (beyond : ℕ → Place) →
    ((j : ℕ) → j < length bits → spared (in_tail bits j (beyond j)).whose ≡ true → tail_bit f (i + j) ≡ (in_tail bits j (beyond j)).bit) → StandFor (λ o. spared (tail o)) f i bits
unfolding StandFor in_tail
placed-for spared f i [] beyond same = tt
placed-for spared f i (b ∷ bs) beyond same = (
  rw (add-zero i) at (same 0 (omega arith)),
  placed-for spared f (i + 1) bs (λ j. beyond (suc j)) (λ j l. let e : i + 1 + j ≡ i + suc j = omega arith in rw e (same (suc j) (omega arith))),
)

module _ (reading bytes : ℕ) (symbols : List Sent) (bits : List Bit) (frame : List ℕ) (parted : Parted reading bytes symbols bits frame) where
  pub parted-stands : Stands frame 0 bits
  parted-stands =
      all-stand frame 0 bits (placed-for (λ w. true) frame 0 bits _ (λ i l all. ap (tail_bit frame) (zero-add i) ∙ parted.bits i (omega (arith, l, parted.apart))))

  -- E is kept from the start of the frame
  pub parted-zeros : (i : ℕ) → length bits ≤ i → i + reserved symbols < 8 * bytes → tail_bit frame i ≡ 0
  parted-zeros i l m =
      let some : own_length reading symbols ≤ 8 * bytes - 1 - i = omega (arith, m, parted.reserve) in
      parted.bits i (omega (arith, m)) ∙ rw (behind-tail bits i _ l, le-ltb (8 * bytes - 1 - i) (own_length reading symbols) some) refl
