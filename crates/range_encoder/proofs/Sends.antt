-- What the finish sends, in a buffer: lists of own bytes one behind the other, the top bits of the last behind them, and the room
-- that E leaves for them. Assumes nothing.
use Prim.Native.Nat.{ℕ, ◌+◌, ◌-◌, ◌*◌, ◌/◌, ◌^◌, ◌≤◌, ◌<◌}
use mathlib.Core.Path.{◌≡◌, refl}
use mathlib.Core.List.{List, ◌++◌}
use native.Mathlib.Omega.{arith}
use native.Mathlib.Nat.{add-zero, add_assoc}
use native.Mathlib.Numerals.{add-one}
use borrow.Author.Tests.{lt-ltb, le-ltb, eq-eqb, ne_eqb}
use lib.Dec.{ltb}
use lib.ListN.{length, length-append, replicate, get_or, set}
use lib.Seq.{sets}
use Rattle.common.proofs.Bools.{by-test}
use Rattle.buffer_writer.specs.Writes.{with_top}
use Rattle.buffer_writer.proofs.Copies.{sets-append}
use Rattle.range_encoder.specs.Encoder.{shifts_of, shifted, shift_bytes, reserved_of}
use Rattle.range_encoder.specs.Finish.{Ending, ending, ended, pushed, pushed_bytes, last_bits, held_bytes, last_byte, finish_bytes, finish_last, finish_bits, with_own}
use Rattle.range_encoder.specs.Private.{Fits, Sound}
use Rattle.range_encoder.specs.declared.EncoderState.{EncoderState}
use Rattle.range_encoder.specs.declared.Finished.{Finished}
use Rattle.range_encoder.proofs.States.{fits-shifted, shifts-shifted, out-shifted}
use Rattle.range_encoder.proofs.Endings.{ending-ended, ending-fits}
use Rattle.range_encoder.proofs.Finishes.{finish-held, last-bits, pushed-out, pushed-shifts, held-length}

-- a list of own bytes behind another
pub own-append : (f : List ℕ) (at : ℕ) (xs ys : List ℕ) (last bits : ℕ) → with_own f at (xs ++ ys) last bits ≡ with_own (sets f at xs) (at + length xs) ys last bits
own-append f at xs ys last bits = rw (length-append xs ys, sets-append f at xs ys, ← add_assoc at (length xs) (length ys)) refl

-- nothing waits: the top bits of the cache alone
pub own-none : (f whole : List ℕ) (s : EncoderState) (bits : ℕ) → s.pending ≡ 0 → whole ≡ set f s.out (with_top (get_or f s.out 0) s.cache bits) → whole ≡ with_own f s.out (held_bytes s) (last_byte s bits) bits
own-none f whole s bits none e = rw (e, eq-eqb s.pending 0 none, add-zero s.out) refl

-- 0xFFs wait: the cache, all of them but one, and the top bits of the last
pub own-more : (f first second whole : List ℕ) (s : EncoderState) (bits : ℕ) → ¬ (s.pending ≡ 0) → first ≡ set f s.out s.cache → second ≡ sets first (s.out + 1) (replicate (s.pending - 1) 255) → whole ≡ set second (s.out + s.pending) (with_top (get_or second (s.out + s.pending) 0) (255 / 2 ^ (8 - bits)) bits) → whole ≡ with_own f s.out (held_bytes s) (last_byte s bits) bits
own-more f first second whole s bits some one two last =
    rw (last, two, one, held-length s, ne_eqb s.pending 0 some, add-one s.out) refl

-- the finish's shifts
module _ (s : EncoderState) (bits : ℕ) where
  -- up to 8 bits: one shift
  pub push-once : bits ≤ 8 → (shifted s ≡ pushed s bits) × (shift_bytes s ≡ pushed_bytes s bits)
  push-once most = rw (le-ltb 8 bits most) (refl, refl)

  -- a ninth: a second shift, whose bytes lie behind those of the first
  pub push-twice : (f first whole : List ℕ) (t : EncoderState) → 8 < bits → t ≡ shifted s → first ≡ sets f s.out (shift_bytes s) → whole ≡ sets first t.out (shift_bytes t) → (shifted t ≡ pushed s bits) × (whole ≡ sets f s.out (pushed_bytes s bits))
  push-twice f first whole t nine state e laid =
      rw (lt-ltb 8 bits nine, laid, e, state, sets-append f s.out (shift_bytes s) (shift_bytes (shifted s)), out-shifted s) (refl, refl)

  -- S before the first shift is at most S behind the last
  pub push-least : shifts_of s ≤ shifts_of (pushed s bits)
  push-least = by-test (ltb 8 bits) (λ e. rw e (omega (arith, shifts-shifted s, shifts-shifted (shifted s)))) (λ e. rw e (omega (arith, shifts-shifted s)))

  -- and so is S before a second
  pub push-second : 8 < bits → shifts_of (shifted s) ≤ shifts_of (pushed s bits)
  push-second nine = rw (lt-ltb 8 bits nine) (omega (arith, shifts-shifted (shifted s)))

  -- each number fits its place behind them
  fits-pushed : Fits s → Fits (pushed s bits)
  fits-pushed h = by-test (ltb 8 bits) (λ e. rw e (fits-shifted (shifted s) (fits-shifted s h))) (λ e. rw e (fits-shifted s h))

  -- how many bytes they send, and how many are held
  held_out : (pushed s bits).out + length (held_bytes (pushed s bits)) ≡ s.out + length (pushed_bytes s bits ++ held_bytes (pushed s bits))
  held_out = rw (length-append (pushed_bytes s bits) (held_bytes (pushed s bits))) (omega (arith, pushed-out s bits))

  -- the bytes held lie behind those sent
  held-behind : (f : List ℕ) (last b : ℕ) → with_own (sets f s.out (pushed_bytes s bits)) (pushed s bits).out (held_bytes (pushed s bits)) last b ≡ with_own f s.out (pushed_bytes s bits ++ held_bytes (pushed s bits)) last b
  held-behind f last b = rw (own-append f s.out (pushed_bytes s bits) (held_bytes (pushed s bits)) last b, pushed-out s bits) refl

-- what E reserves has room for them
push-room : (reading n : ℕ) (s : EncoderState) → Sound s → reserved_of s ≤ 8 * n → shifts_of (pushed (ended s (ending reading s)) (ending reading s).bits) ≤ n
push-room reading n s sound room =
    let some = last-bits reading s sound in
    let all = pushed-shifts (ended s (ending reading s)) (ending reading s).bits in
    omega (arith, (ending-ended reading s sound).bits_most)

-- the finish in its steps: what it chooses, the state that it sends, and the state behind the shifts
module _ (reading : ℕ) (s : EncoderState) (e : Ending) (choice : e ≡ ending reading s) where
  module _ (t : EncoderState) (state : t ≡ ended s e) where
    -- the state that it sends fits, and its shifts have room
    pub push-ready : (n : ℕ) → Sound s → reserved_of s ≤ 8 * n → (Fits t) × (shifts_of (pushed t e.bits) ≤ n)
    push-ready n sound room = rw (state, choice) ((ending-fits reading s sound).0, push-room reading n s sound room)

    module _ (p : EncoderState) (b : ℕ) (shifts : p ≡ pushed t e.bits) (last : b ≡ last_bits e.bits) where
      -- behind them a byte is in the cache, and 1 to 8 bits of the last byte are sent
      pub last-ready : (n : ℕ) → Sound s → reserved_of s ≤ 8 * n → (Fits p) × (p.held ≡ 1) × (1 ≤ b) × (b ≤ 8) × (shifts_of p ≤ n)
      last-ready n sound room =
          let some = last-bits reading s sound in
          rw (shifts, last, state, choice) (
            fits-pushed (ended s (ending reading s)) (ending reading s).bits (ending-fits reading s sound).0,
            finish-held reading s sound,
            some.0,
            some.1,
            push-room reading n s sound room,
          )

      -- what the shifts sent, then what is held: the definition's bytes, and the top bits of its last
      pub finish-behind : (f first whole : List ℕ) (r : Finished) → first ≡ sets f t.out (pushed_bytes t e.bits) → (r.out ≡ p.out + length (held_bytes p)) × (r.bits ≡ b) → whole ≡ with_own first p.out (held_bytes p) (last_byte p b) b → ((r.out ≡ s.out + length (finish_bytes reading s)) × (r.bits ≡ finish_bits reading s)) × (whole ≡ with_own f s.out (finish_bytes reading s) (finish_last reading s) (finish_bits reading s))
      finish-behind f first whole r one end laid =
          let u = ended s (ending reading s) in
          let bits = (ending reading s).bits in
          rw (end.0, end.1, laid, one, shifts, last, state, choice) (
            (held_out u bits, refl),
            held-behind u bits f (finish_last reading s) (finish_bits reading s),
          )
