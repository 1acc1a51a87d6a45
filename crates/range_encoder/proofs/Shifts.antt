-- A shift and a turn, by either answer of their tests: the state behind them, and the buffer with what they send.
-- Assumes nothing.
use Prim.Native.Nat.{ℕ, ◌+◌, ◌*◌, ◌/◌, ◌%◌, ◌≤◌, ◌<◌}
use mathlib.Core.Path.{◌≡◌, refl, sym, ap, ◌∙◌}
use mathlib.Core.Bool.{true, false}
use mathlib.Core.List.{List, [], ◌++◌}
use borrow.Author.Tests.{lt-ltb, le-ltb}
use lib.ListN.{replicate, length-replicate}
use lib.Seq.{sets}
use Rattle.buffer_writer.proofs.Copies.{sets-append}
use Rattle.range_encoder.specs.Encoder.{settles, shifted, shift_bytes, symbol_added, with_range, turn, turn_bytes, encoded_bytes}
use Rattle.range_encoder.specs.declared.EncoderState.{EncoderState}
use Rattle.range_encoder.proofs.States.{out-turn}

module _ (s : EncoderState) where
  -- settled: what is held is sent, and the top byte of low is in the cache
  pub shift-settled : settles s ≡ true → shifted s ≡ record { low = s.low * 256 % 0x1000000; range = s.range; held = 1; cache = s.low / 0x10000; carry = 0; pending = 0; out = s.out + s.held + s.pending }
  shift-settled e = rw e refl

  pub bytes-settled : settles s ≡ true → shift_bytes s ≡ replicate s.held ((s.cache + s.carry) % 256) ++ replicate s.pending ((s.carry + 255) % 256)
  bytes-settled e = rw e refl

  -- not settled: one 0xFF more waits
  pub shift-waits : settles s ≡ false → shifted s ≡ record { low = s.low * 256 % 0x1000000; range = s.range; held = s.held; cache = s.cache; carry = s.carry; pending = s.pending + 1; out = s.out }
  shift-waits e = rw e refl

  pub bytes-wait : settles s ≡ false → shift_bytes s ≡ []
  bytes-wait e = rw e refl

  -- what is held, laid into a buffer: the cache, and behind it what waits
  pub held-laid : (f : List ℕ) → settles s ≡ true → sets (sets f s.out (replicate s.held ((s.cache + s.carry) % 256))) (s.out + s.held) (replicate s.pending ((s.carry + 255) % 256)) ≡ sets f s.out (shift_bytes s)
  held-laid f e =
      rw (bytes-settled e, sets-append f s.out (replicate s.held ((s.cache + s.carry) % 256)) (replicate s.pending ((s.carry + 255) % 256)), length-replicate s.held ((s.cache + s.carry) % 256)) refl

  -- a range wide enough: nothing is done
  pub turn-none : 0x10000 ≤ s.range → turn s ≡ s
  turn-none wide = rw (le-ltb s.range 0x10000 wide) refl

  pub turn-sends-none : 0x10000 ≤ s.range → turn_bytes s ≡ []
  turn-sends-none wide = rw (le-ltb s.range 0x10000 wide) refl

  -- otherwise a shift, and a range of a byte more
  pub turn_one : s.range < 0x10000 → turn s ≡ with_range (shifted s) (s.range * 256)
  turn_one short = rw (lt-ltb s.range 0x10000 short) refl

  pub turn-sends : s.range < 0x10000 → turn_bytes s ≡ shift_bytes s
  turn-sends short = rw (lt-ltb s.range 0x10000 short) refl

-- a symbol's two turns lay their bytes one behind the other
encoded-laid : (f : List ℕ) (s : EncoderState) (cum freq : ℕ) → sets (sets f s.out (turn_bytes (symbol_added s cum freq))) (turn (symbol_added s cum freq)).out (turn_bytes (turn (symbol_added s cum freq))) ≡ sets f s.out (encoded_bytes s cum freq)
encoded-laid f s cum freq =
    ap (λ (at : ℕ). sets (sets f s.out (turn_bytes (symbol_added s cum freq))) at (turn_bytes (turn (symbol_added s cum freq)))) (out-turn (symbol_added s cum freq)) ∙
    sym (sets-append f s.out (turn_bytes (symbol_added s cum freq)) (turn_bytes (turn (symbol_added s cum freq))))

-- the same, by the states and buffers that the code has on the way
pub turns-laid : (f g h : List ℕ) (s t u : EncoderState) (cum freq : ℕ) → t ≡ symbol_added s cum freq → u ≡ turn t → g ≡ sets f t.out (turn_bytes t) → h ≡ sets g u.out (turn_bytes u) → h ≡ sets f s.out (encoded_bytes s cum freq)
turns-laid f g h s t u cum freq added once first second =
    let state : u ≡ turn (symbol_added s cum freq) = once ∙ ap turn added in
    let buffer : g ≡ sets f s.out (turn_bytes (symbol_added s cum freq)) = first ∙ ap (λ (v : EncoderState). sets f v.out (turn_bytes v)) added in
    second ∙ ap (λ (k : List ℕ). sets k u.out (turn_bytes u)) buffer ∙
    ap (λ (v : EncoderState). sets (sets f s.out (turn_bytes (symbol_added s cum freq))) v.out (turn_bytes v)) state ∙
    encoded-laid f s cum freq
