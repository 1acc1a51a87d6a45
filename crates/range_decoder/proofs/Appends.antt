-- One turn of the renormalising, case by case; and that low stays below the range, so that no byte is ever pushed out at the top.
-- Assumes nothing.
use Prim.Native.Nat.{ℕ, ◌+◌, ◌*◌, ◌≤◌, ◌<◌}
use mathlib.Core.Path.{◌≡◌, refl, sym, ap, subst, ◌∙◌}
use mathlib.Core.Bool.{Bool, true, false}
use mathlib.Core.List.{List}
use native.Mathlib.Omega.{arith}
use borrow.Author.Tests.{lt-ltb, le-ltb, ltb-true, ltb-false}
use lib.Dec.{leb, ltb}
use lib.ListN.{length, get_or}
use Rattle.common.specs.Reply.{accepted, wrong_length, head_past_end}
use Rattle.common.proofs.Replies.{accepted-same, then-split, given-split}
use Rattle.buffer_reader.specs.Reads.{take_byte}
use Rattle.buffer_reader.specs.Steps.{next, found}
use Rattle.buffer_reader.specs.declared.Cursor.{Cursor}
use Rattle.range_decoder.specs.Decoder.{append_byte}
use Rattle.range_decoder.specs.Private.{Below}
use Rattle.range_decoder.specs.declared.DecoderState.{DecoderState}

-- the range is wide enough: nothing is read
pub append-none : (s : DecoderState) (f : List ℕ) (c : Cursor) → 0x10000 ≤ s.range → append_byte s f c ≡ accepted (s, c)
append-none s f c wide = rw (le-ltb s.range 0x10000 wide) refl

-- otherwise a byte is taken
pub append-one : (s : DecoderState) (f : List ℕ) (c : Cursor) → s.range < 0x10000 → append_byte s f c ≡ next take_byte (λ byte. found (record { low = s.low * 256 + byte; range = s.range * 256 })) f c
append-one s f c short = rw (lt-ltb s.range 0x10000 short) refl

-- a byte that was taken is the one at the head
pub byte-there : (f : List ℕ) (c : Cursor) (r : ℕ × Cursor) → take_byte f c ≡ accepted r → r.0 ≡ get_or f c.head 0
byte-there f c r e =
    let longer = given-split (ltb 65535 (length f)) (wrong_length (length f)) _ e in
    let there = given-split (leb (length f) c.head) (head_past_end c.head) _ longer.1 in
    sym (ap (λ (v : ℕ × Cursor). v.0) (accepted-same there.1))

module _ (f : List ℕ) (bytes : (i : ℕ) → get_or f i 0 < 256) where
  below-turn : (short : Bool) (s : DecoderState) (c : Cursor) (r : DecoderState × Cursor) → ltb s.range 0x10000 ≡ short → Below s → append_byte s f c ≡ accepted r → Below r.0
  below-turn true s c r test b e =
      let range : s.range < 0x10000 = ltb-true s.range 0x10000 test in
      let p = then-split (take_byte f c) (λ v. accepted (record { low = s.low * 256 + v.0; range = s.range * 256 }, v.1)) (sym (append-one s f c range) ∙ e) in
      let byte : p.0.0 < 256 = rw (byte-there f c p.0 p.1) (bytes c.head) in
      subst (λ (v : DecoderState × Cursor). Below v.0) (accepted-same p.2) (record { most = omega arith; below = omega arith })
  below-turn false s c r test b e =
      subst (λ (v : DecoderState × Cursor). Below v.0) (accepted-same (sym (append-none s f c (ltb-false s.range 0x10000 test)) ∙ e)) b

  pub append-below : (s : DecoderState) (c : Cursor) (r : DecoderState × Cursor) → Below s → append_byte s f c ≡ accepted r → Below r.0
  append-below s c r b e = below-turn (ltb s.range 0x10000) s c r refl b e
