-- The theory put together: whatever stands behind the head's own bits, in a frame written in the standard reading the decoder
-- reads the symbols that were sent. By theorems 2, 3 and 4. Assumes nothing.
use Prim.Native.Nat.{ℕ, ◌+◌, ◌-◌, ◌*◌, ◌≤◌}
use mathlib.Core.Path.{◌≡◌}
use mathlib.Core.List.{List}
use native.Mathlib.Omega.{arith}
use lib.ListN.{length}
use Rattle.common.specs.Last.{floor_log2}
use Rattle.common.specs.Reply.{accepted}
use Rattle.common.proofs.Lasts.{log-range}
use Rattle.buffer_reader.specs.Steps.{next}
use Rattle.buffer_reader.specs.declared.Cursor.{Cursor}
use Rattle.buffer_reader.specs.Tail.{Bytes}
use Rattle.range_decoder.specs.Decoder.{start_decoder}
use Rattle.range_encoder.specs.Encoder.{start_encoder}
use Rattle.range_encoder.specs.Interval.{Sent, whole, behind}
use Rattle.range_encoder.specs.Runs.{AllPass, state_behind, own_bytes, own_last, own_bits, own_length, decode_all}
use Rattle.range_encoder.specs.Digits.{head_number}
use Rattle.range_encoder.specs.Theory.{Inside, cursor_at, decoded_as, Begins}
use Rattle.range_encoder.proofs.Carry.{carry-exact, sound-start, sound-behind}
use Rattle.range_encoder.proofs.Finishes.{finish-sends, last-bits}
use Rattle.range_encoder.proofs.Continues.{continues-number}
use Rattle.range_encoder.proofs.Decodes.{decodes}

-- the first 3 + S bytes of a frame that begins with the own bits of a list lie in the list's interval
pub begins-inside : (f : List ℕ) (h : ℕ) (xs : List Sent) → Bytes f → AllPass xs → Begins f h xs → Inside f h (behind whole xs)
begins-inside f h xs bytes all begins =
    let sends = finish-sends xs all in
    let sound = sound-behind start_encoder xs sound-start all in
    let holds = (carry-exact xs all).holds in
    let last = last-bits 1 (state_behind start_encoder xs) sound in
    let logs = log-range (state_behind start_encoder xs).range sound.range-least sound.fits.range-fits in
    let low : 16 ≤ floor_log2 (behind whole xs).range = rw (← holds.range) logs.0 in
    let m : ℕ = 3 + (behind whole xs).shifts in
    let left : 8 * m - own_length 1 xs ≡ 24 + 8 * (behind whole xs).shifts - own_length 1 xs = omega arith in
    let own = continues-number f h (own_bytes 1 xs) (own_last 1 xs) (own_bits 1 xs) m bytes last.0 last.1 begins (omega (arith, sends.most, last.0)) in
    let inside = sends.inside (head_number f h m) (rw left at own) in
    record { low = inside.0; high = inside.1 }

-- whatever stands behind the own bits, up to the 3 + S bytes that the decoder reads and past them: the same symbols in the same
-- order, the encoder's range behind each, and S bytes more than the first three
pub own-bits-decode : (f : List ℕ) (c : Cursor) (xs : List Sent) → Bytes f → length f ≤ 65535 → AllPass xs → c.head + 3 + (behind whole xs).shifts ≤ length f → Begins f c.head xs → next start_decoder (λ s. decode_all s xs) f c ≡ accepted (decoded_as f c.head whole xs, cursor_at c (behind whole xs))
own-bits-decode f c xs bytes long all room begins =
    decodes f c xs bytes long all room (begins-inside f c.head xs bytes all begins)
