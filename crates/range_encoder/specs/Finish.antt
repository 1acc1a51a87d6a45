-- The finish, `ac_enc_finish`, in both readings: which bits end the string, and how they are sent. Like the encoder, this is the
-- Rust's from every state that symbols of rows that pass lead to: there the bits are 1 to 9, so one shift or two are the source's
-- whole loop, and a byte is in the cache behind them (`pushed-held`).
use Rattle.std.specs.Prelude.{ℕ, ◌+◌, ◌-◌, ◌*◌, ◌/◌, ◌%◌, ◌^◌, cond, List, [], ◌∷◌, ◌++◌, ltb, leb, eqb, length, replicate, get_or, set}
use Rattle.std.proofs.lemmas.List.Edits.{sets}
use Rattle.common.specs.Last.{floor_log2}
use Rattle.buffer_writer.specs.Writes.{with_top}
use Rattle.range_encoder.specs.Encoder.{shifted, shift_bytes, changed}
use Rattle.range_encoder.specs.declared.EncoderState.{EncoderState}

-- what the finish decides: how many bits behind the S bytes, the 24-bit number that they begin, and the carry
pub record Ending : Type 0 where
  pub bits : ℕ
  pub value : ℕ
  pub carry : ℕ

-- `val = (low + mask) & 0x00ff_ffff & !mask`
abbrev pub val_of : ℕ → ℕ → ℕ
val_of low mask = (low + mask) % 0x1000000 / (mask + 1) * (mask + 1)

-- "`ac_enc_finish` compares with an unmasked `high`; the standard masks it to 24 bits": the reading is 0 (crate) or 1 (standard)
abbrev pub high_in : ℕ → ℕ → ℕ
high_in reading high = cond (eqb reading 0) high (high % 0x1000000)

-- `if val < low { carry = 1 }`
abbrev pub ending_at : EncoderState → ℕ → ℕ → Ending
ending_at s bits val = record { bits = bits; value = val; carry = cond (ltb val s.low) 1 s.carry }

-- "The finish sends 24 - floor(log2 range) bits, or one more": the source's lines, in its names
abbrev pub ending : ℕ → EncoderState → Ending
ending reading s =
    let bits = 24 - floor_log2 s.range in
    let mask = 0xFFFFFF / 2 ^ bits in
    let over1 = (s.low + mask) / 0x1000000 in
    let high = s.low + s.range in
    let over2 = high / 0x1000000 in
    let val = val_of s.low mask in
    cond (eqb over1 over2)
    (cond (leb (high_in reading high) (val + mask))
    (ending_at s (bits + 1) (val_of s.low (mask / 2)))
    (ending_at s bits val))
    (record { bits = bits; value = val; carry = s.carry })

-- `low = val`, and the carry
abbrev pub ended : EncoderState → Ending → EncoderState
ended s e = changed s e.value s.range e.carry

-- `while bits > 0`: a shift, and a second for a ninth bit
abbrev pub pushed : EncoderState → ℕ → EncoderState
pushed s bits = cond (ltb 8 bits) (shifted (shifted s)) (shifted s)

abbrev pub pushed_bytes : EncoderState → ℕ → List ℕ
pushed_bytes s bits = cond (ltb 8 bits) (shift_bytes s ++ shift_bytes (shifted s)) (shift_bytes s)

-- how many bits of the last byte are sent
abbrev pub last_bits : ℕ → ℕ
last_bits bits = cond (ltb 8 bits) (bits - 8) bits

-- then what is held: where 0xFFs wait, the cache and all of them but one are whole bytes, and the last is made anew
abbrev pub held_bytes : EncoderState → List ℕ
held_bytes s = cond (eqb s.pending 0) [] (s.cache ∷ replicate (s.pending - 1) 255)

abbrev pub last_byte : EncoderState → ℕ → ℕ
last_byte s bits = cond (eqb s.pending 0) s.cache (255 / 2 ^ (8 - bits))

-- the state behind the finish's shifts
abbrev pub finish_state : ℕ → EncoderState → EncoderState
finish_state reading s =
    let e = ending reading s in
    pushed (ended s e) e.bits

-- the whole bytes that the finish sends, and the byte whose top bits follow them
abbrev pub finish_bytes : ℕ → EncoderState → List ℕ
finish_bytes reading s =
    let e = ending reading s in
    pushed_bytes (ended s e) e.bits ++ held_bytes (finish_state reading s)

abbrev pub finish_bits : ℕ → EncoderState → ℕ
finish_bits reading s = last_bits (ending reading s).bits

abbrev pub finish_last : ℕ → EncoderState → ℕ
finish_last reading s = last_byte (finish_state reading s) (finish_bits reading s)

-- a buffer with whole bytes from a place on, and the top bits of one more
abbrev pub with_own : List ℕ → ℕ → List ℕ → ℕ → ℕ → List ℕ
with_own f at bytes last bits =
    let laid = sets f at bytes in
    let end = at + length bytes in
    set laid end (with_top (get_or laid end 0) last bits)
