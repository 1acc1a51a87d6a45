-- The frame that the code's calls leave: zeros, the head's bytes, the tail's bits and the finish make the frame that is defined, since no byte
-- of the head has a tail bit. And the room on the way: refusal 16 leaves room for all of it. Assumes nothing.
use Prim.Native.Nat.{ℕ, ◌+◌, ◌-◌, ◌*◌, ◌≤◌}
use mathlib.Core.Path.{◌≡◌, sym, ap, ◌∙◌}
use mathlib.Core.List.{List, ◌++◌, append-nil}
use native.Mathlib.Omega.{arith}
use lib.Dec.{eqb}
use lib.ListN.{length, length-append, length-take, take, drop_of_length-le, replicate, length-replicate}
use lib.Seq.{sets, sets-eq}
use Rattle.common.proofs.Bools.{by-test}
use Rattle.common.proofs.Lasts.{log-range}
use Rattle.range_encoder.specs.Encoder.{start_encoder, shifts_of}
use Rattle.range_encoder.specs.Finish.{finish_bytes, finish_last, finish_bits, with_own}
use Rattle.range_encoder.specs.Interval.{Sent}
use Rattle.range_encoder.specs.Private.{Sound}
use Rattle.range_encoder.specs.Runs.{AllPass, state_behind}
use Rattle.range_encoder.specs.Theory.{laid_behind}
use Rattle.range_encoder.proofs.Carry.{sound-start, sound-behind}
use Rattle.range_encoder.proofs.Laid.{written-own}
use Rattle.sending.specs.Sending.{Bit, put_bits, laid}
use Rattle.sending.proofs.Stands.{laid-puts}
use Rattle.frame_writer.specs.Frame.{reserved, held_back}

-- a frame of zeros
pub cleared : (f : List ℕ) → sets f 0 (replicate (length f) 0) ≡ replicate (length f) 0
cleared f =
    let size : length {A = ℕ} (replicate (length f) 0) ≡ length f = length-replicate (length f) 0 in
    sets-eq (replicate (length f) 0) f 0 (omega (arith, size)) ∙
    ap (λ (rest : List ℕ). replicate (length f) 0 ++ rest) (drop_of_length-le f {i = 0 + length {A = ℕ} (replicate (length f) 0)} (omega (arith, size))) ∙
    append-nil (replicate (length f) 0)

module _ (symbols : List Sent) (all : AllPass symbols) where
  sound : Sound (state_behind start_encoder symbols)
  sound = sound-behind start_encoder symbols sound-start all

  -- E is more than 8 bits to each byte that is shifted
  pub shifts-below : 8 * shifts_of (state_behind start_encoder symbols) + 2 ≤ reserved symbols
  shifts-below =
      let s = state_behind start_encoder symbols in
      omega (arith, log-range s.range sound.range-least sound.fits.range-fits)

  -- what is held back is E or a byte more
  pub held-least : (reading : ℕ) → reserved symbols ≤ held_back reading symbols
  held-least reading =
      let s = state_behind start_encoder symbols in
      by-test (eqb reading 0)
      (λ e. rw e (omega (arith, sound.fits.held-most, log-range s.range sound.range-least sound.fits.range-fits)))
      (λ e. rw e (omega arith))

  -- what comes late is cut so that all tail bits leave E
  pub tail-room : (reading bits : ℕ) (early late : List Bit) → length early + reserved symbols ≤ bits → length (early ++ take (bits - length early - held_back reading symbols) late) + reserved symbols ≤ bits
  tail-room reading bits early late room =
      let left = bits - length early - held_back reading symbols in
      omega (arith, held-least reading, room, length-append early (take left late), length-take left late)

  -- zeros, the head's bytes, the tail's bits, the finish
  pub frame-laid : (reading bytes : ℕ) (tail : List Bit) → length tail + reserved symbols ≤ 8 * bytes →
      let s = state_behind start_encoder symbols in
      with_own (put_bits (laid_behind start_encoder (replicate bytes 0) symbols) 0 tail) s.out (finish_bytes reading s) (finish_last reading s) (finish_bits reading s) ≡ laid reading bytes symbols tail
  frame-laid reading bytes tail room =
      let s = state_behind start_encoder symbols in
      let size : length {A = ℕ} (replicate bytes 0) ≡ bytes = length-replicate bytes 0 in
      ap (λ (g : List ℕ). with_own g s.out (finish_bytes reading s) (finish_last reading s) (finish_bits reading s)) (sym (laid-puts start_encoder (replicate bytes 0) symbols 0 tail (omega (arith, room, shifts-below)))) ∙
      written-own reading (put_bits (replicate bytes 0) 0 tail) symbols
