-- The buffer behind all of the encoder's calls: `out` counts the bytes out, so each call lays its bytes where those before it end,
-- and the finish its own behind them. Together they are the own bits, and nothing behind those is written. Assumes nothing.
use Prim.Native.Nat.{ℕ, zero, suc, ◌+◌, ◌-◌, ◌*◌, ◌/◌, ◌%◌, ◌^◌, ◌≤◌, ◌<◌}
use mathlib.Core.Path.{◌≡◌, refl, sym, ap, subst, ◌∙◌}
use mathlib.Core.List.{List, [], ◌∷◌, ◌++◌}
use native.Mathlib.Omega.{arith}
use native.Mathlib.Decide.{ℕ_discrete}
use native.Mathlib.Nat.{add-zero, zero-add, mod-lt}
use lib.ListN.{length, length-append, get_or, set, length-set}
use lib.Seq.{sets, length-sets, set_comm, get_or-set_same, get_or-set_other}
use lib.Arith.{digits_mod}
use lib.Pow.{pow_pos}
use Rattle.common.specs.Reply.{accepted}
use Rattle.common.proofs.Lasts.{log-range}
use Rattle.buffer_reader.specs.Steps.{next}
use Rattle.buffer_reader.specs.Tail.{tail_byte, tail_bit, Bytes}
use Rattle.buffer_writer.specs.Writes.{with_bit, with_top, put_bit, put_field}
use Rattle.buffer_writer.proofs.Places.{byte-kept, put-length, put-none, put-more}
use Rattle.buffer_writer.proofs.Copies.{sets-append}
use Rattle.buffer_writer.proofs.Back.{top-keeps}
use Rattle.range_decoder.specs.Decoder.{start_decoder}
use Rattle.range_encoder.specs.Interval.{Sent, cumulative_of, frequency_of, whole, behind}
use Rattle.range_encoder.specs.Encoder.{start_encoder, shifts_of, symbol_added, turn, encoded, encoded_bytes, reserved_of}
use Rattle.range_encoder.specs.Finish.{finish_bytes, with_own}
use Rattle.range_encoder.specs.Runs.{AllPass, more, state_behind, bytes_behind, own_bytes, own_last, own_bits, decode_all}
use Rattle.range_encoder.specs.Private.{Fits, Sound}
use Rattle.range_encoder.specs.Theory.{decoded_as, Begins, laid_behind, written, Agrees, Kept}
use Rattle.range_encoder.specs.declared.EncoderState.{EncoderState}
use Rattle.range_encoder.proofs.Symbols.{symbol-shares}
use Rattle.range_encoder.proofs.States.{shifts-turn-most, out-encoded}
use Rattle.range_encoder.proofs.Carry.{carry-exact, sound-encoded, sound-start, sound-behind}
use Rattle.range_encoder.proofs.Finishes.{finish-reserved, last-bits}
use Rattle.range_encoder.proofs.Sends.{own-append}
use Rattle.range_encoder.proofs.Continues.{laid-continues}
use Rattle.range_encoder.proofs.OwnBits.{own-bits-decode}

-- the calls together lay their bytes as one list
pub laid-sets : (s : EncoderState) (f : List ℕ) (xs : List Sent) → laid_behind s f xs ≡ sets f s.out (bytes_behind s xs)
unfolding laid_behind bytes_behind
laid-sets s f [] = refl
laid-sets s f (x ∷ xs) =
    let bytes = encoded_bytes s (cumulative_of x) (frequency_of x) in
    let t = encoded s (cumulative_of x) (frequency_of x) in
    laid-sets t (sets f s.out bytes) xs ∙
    ap (λ (at : ℕ). sets (sets f s.out bytes) at (bytes_behind t xs)) (out-encoded s (cumulative_of x) (frequency_of x)) ∙
    sym (sets-append f s.out bytes (bytes_behind t xs))

-- a list of symbols adds to the bytes out those that it sends
pub out-behind : (s : EncoderState) (xs : List Sent) → (state_behind s xs).out ≡ s.out + length (bytes_behind s xs)
unfolding state_behind bytes_behind
out-behind s [] = sym (add-zero s.out)
out-behind s (x ∷ xs) =
    let bytes = encoded_bytes s (cumulative_of x) (frequency_of x) in
    let t = encoded s (cumulative_of x) (frequency_of x) in
    rw (length-append bytes (bytes_behind t xs))
    (omega (arith, out-behind t xs, out-encoded s (cumulative_of x) (frequency_of x)))

-- from the start on they are all the bytes sent
pub out-start : (xs : List Sent) → (state_behind start_encoder xs).out ≡ length (bytes_behind start_encoder xs)
out-start xs = out-behind start_encoder xs ∙ zero-add (length (bytes_behind start_encoder xs))

-- own bits laid where whole bytes end, in the buffer that those left, are laid with them as one list
own_behind : (f g : List ℕ) (at : ℕ) (xs ys : List ℕ) (last bits : ℕ) → g ≡ sets f 0 xs → at ≡ length xs → with_own g at ys last bits ≡ with_own f 0 (xs ++ ys) last bits
own_behind f g at xs ys last bits laid place =
    rw (laid, place, own-append f 0 xs ys last bits, zero-add (length xs)) refl

-- all calls together lay the own bits from place 0 on, in either reading
pub written-own : (reading : ℕ) (f : List ℕ) (xs : List Sent) → written reading f xs ≡ with_own f 0 (own_bytes reading xs) (own_last reading xs) (own_bits reading xs)
written-own reading f xs =
    own_behind f (laid_behind start_encoder f xs) (state_behind start_encoder xs).out (bytes_behind start_encoder xs) (finish_bytes reading (state_behind start_encoder xs)) (own_last reading xs) (own_bits reading xs) (laid-sets start_encoder f xs) (out-start xs)

-- the room that the finish asks for is room for the own bits
pub own_room : (reading n : ℕ) (xs : List Sent) → AllPass xs → reserved_of (state_behind start_encoder xs) ≤ 8 * n → length (own_bytes reading xs) < n
own_room reading n xs all room =
    let s = state_behind start_encoder xs in
    let sound = sound-behind start_encoder xs sound-start all in
    omega (arith, room, finish-reserved reading (bytes_behind start_encoder xs) s sound (carry-exact xs all).holds.sent, (last-bits reading s sound).0)

-- no symbol lowers S
pub shifts-behind : (s : EncoderState) (xs : List Sent) → shifts_of s ≤ shifts_of (state_behind s xs)
unfolding state_behind
shifts-behind s [] = omega arith
shifts-behind s (x ∷ xs) =
    let a = symbol_added s (cumulative_of x) (frequency_of x) in
    omega (arith, shifts-turn-most a, shifts-turn-most (turn a), shifts-behind (turn (turn a)) xs)

-- so it is room for every call on the way; and each finds a state and a symbol as it requires them
pub call-ready : (n : ℕ) (s : EncoderState) (x : Sent) (xs : List Sent) → Sound s → AllPass (x ∷ xs) → reserved_of (state_behind s (x ∷ xs)) ≤ 8 * n → (Fits s) × (cumulative_of x + frequency_of x ≤ 1024) × (shifts_of (encoded s (cumulative_of x) (frequency_of x)) ≤ n)
unfolding state_behind
call-ready n s x xs sound (more p ps) room =
    let t = encoded s (cumulative_of x) (frequency_of x) in
    let shares = symbol-shares x p in
    let last = sound-behind t xs (sound-encoded s (cumulative_of x) (frequency_of x) sound shares) ps in
    let logs = log-range (state_behind t xs).range last.range-least last.fits.range-fits in
    (sound.fits, shares.most, omega (arith, room, logs, shifts-behind t xs))

-- the buffer that they leave begins with the own bits of the symbols
pub laid-begins : (f : List ℕ) (xs : List Sent) → length (own_bytes 1 xs) < length f → Begins (written 1 f xs) 0 xs
laid-begins f xs room =
    rw (written-own 1 f xs) (laid-continues f 0 (own_bytes 1 xs) (own_last 1 xs) (own_bits 1 xs) (omega arith))

-- what is written behind the own bits afterwards leaves a frame that begins with them
pub agrees-begins : (f g : List ℕ) (xs : List Sent) → Agrees f g (length (own_bytes 1 xs)) (own_bits 1 xs) → Begins f 0 xs → Begins g 0 xs
agrees-begins f g xs a b =
    record {
      same = λ j l. rw (zero-add j) (a.same j l ∙ rw (zero-add j) at (b.same j l));
      top = rw (zero-add (length (own_bytes 1 xs))) (a.top ∙ rw (zero-add (length (own_bytes 1 xs))) at b.top);
    }

-- so the decoder, on what the encoder has written in the standard reading and anything behind it, reads the symbols back
pub written-decodes : (f g : List ℕ) (tail : ℕ) (xs : List Sent) → AllPass xs → length (own_bytes 1 xs) < length f → Agrees (written 1 f xs) g (length (own_bytes 1 xs)) (own_bits 1 xs) → Bytes g → length g ≤ 65535 → 3 + (behind whole xs).shifts ≤ length g → next start_decoder (λ s. decode_all s xs) g (record { head = 0; tail = tail }) ≡ accepted (decoded_as g 0 whole xs, record { head = 3 + (behind whole xs).shifts; tail = tail })
written-decodes f g tail xs all room a bytes long read =
    own-bits-decode g (record { head = 0; tail = tail }) xs bytes long all read (agrees-begins (written 1 f xs) g xs a (laid-begins f xs room))

-- the bytes behind those laid are as they were
sets-keeps : (f : List ℕ) (at : ℕ) (bytes : List ℕ) (j : ℕ) → at + length bytes ≤ j → get_or (sets f at bytes) j 0 ≡ get_or f j 0
sets-keeps f at [] j l = refl
sets-keeps f at (b ∷ bs) j l =
    sets-keeps (set f at b) (suc at) bs j (omega arith) ∙ get_or-set_other f at j b 0 (λ e. absurd (omega arith))

-- and so are the tail bits there
sets-tail : (f : List ℕ) (at : ℕ) (bytes : List ℕ) (i : ℕ) → 8 * (at + length bytes) + i < 8 * length f → tail_bit (sets f at bytes) i ≡ tail_bit f i
sets-tail f at bytes i l =
    rw (length-sets f at bytes, sets-keeps f at bytes (length f - 1 - i / 8) (omega arith)) refl

-- the top bits of a byte leave every tail bit behind them
top_tail : (f : List ℕ) (end last bits i : ℕ) → 8 * end + bits + i < 8 * length f → tail_bit (set f end (with_top (get_or f end 0) last bits)) i ≡ tail_bit f i
top_tail f end last bits i l = go (ℕ_discrete (length f - 1 - i / 8) end)
  where
    go : Dec (length f - 1 - i / 8 ≡ end) → tail_bit (set f end (with_top (get_or f end 0) last bits)) i ≡ tail_bit f i
    go (yes e) = top-keeps f end last bits i (omega arith) e (omega arith)
    go (no e) = byte-kept f end (with_top (get_or f end 0) last bits) i e

-- own bits that have room leave what is behind them
pub own-keeps : (f : List ℕ) (at : ℕ) (bytes : List ℕ) (last bits : ℕ) → at + length bytes < length f → Kept f (with_own f at bytes last bits) (at + length bytes) bits
own-keeps f at bytes last bits room =
    let g = sets f at bytes in
    let end = at + length bytes in
    let byte = with_top (get_or g end 0) last bits in
    let size : length g ≡ length f = length-sets f at bytes in
    record {
      later = λ j l. get_or-set_other g end j byte 0 (λ e. absurd (omega arith)) ∙ sets-keeps f at bytes j (omega arith);
      low =
          ap (λ (b : ℕ). b % 2 ^ (8 - bits)) (get_or-set_same g end byte 0 (omega arith)) ∙
          digits_mod (last / 2 ^ (8 - bits)) (mod-lt (get_or g end 0) (pow_pos (8 - bits))) ∙
          ap (λ (b : ℕ). b % 2 ^ (8 - bits)) (sets-keeps f at bytes end (omega arith));
      tails = λ i l. top_tail g end last bits i (omega arith) ∙ sets-tail f at bytes i (omega arith);
    }

-- so do all calls together, in either reading
pub laid-keeps : (reading : ℕ) (f : List ℕ) (xs : List Sent) → length (own_bytes reading xs) < length f → Kept f (written reading f xs) (length (own_bytes reading xs)) (own_bits reading xs)
laid-keeps reading f xs room =
    let own = with_own f 0 (own_bytes reading xs) (own_last reading xs) (own_bits reading xs) in
    let kept = own-keeps f 0 (own_bytes reading xs) (own_last reading xs) (own_bits reading xs) (omega arith) in
    rw (written-own reading f xs) (subst (λ (end : ℕ). Kept f own end (own_bits reading xs)) (zero-add (length (own_bytes reading xs))) kept)

-- the buffer keeps its length
pub written-length : (reading : ℕ) (f : List ℕ) (xs : List Sent) → length (written reading f xs) ≡ length f
written-length reading f xs =
    rw (written-own reading f xs) (simp (length-set, length-sets))

-- bytes laid before a place, and that place's byte set, in either order
sets-set : (f : List ℕ) (at : ℕ) (bytes : List ℕ) (p v : ℕ) → at + length bytes ≤ p → sets (set f p v) at bytes ≡ set (sets f at bytes) p v
sets-set f at [] p v l = refl
sets-set f at (b ∷ bs) p v l =
    ap (λ (g : List ℕ). sets g (suc at) bs) (set_comm f p at v b (λ e. absurd (omega arith))) ∙
    sets-set (set f at b) (suc at) bs p v (omega arith)

-- the same of a tail bit
sets-bit : (f : List ℕ) (at : ℕ) (bytes : List ℕ) (i bit : ℕ) → 8 * (at + length bytes) + i < 8 * length f → sets (put_bit f i bit) at bytes ≡ put_bit (sets f at bytes) i bit
sets-bit f at bytes i bit l =
    let p = length f - 1 - i / 8 in
    rw (length-sets f at bytes, sets-keeps f at bytes p (omega arith))
    (sets-set f at bytes p (with_bit (tail_byte f (i / 8)) (i % 8) bit) (omega arith))

-- and of a field
sets-field : (f : List ℕ) (at : ℕ) (bytes : List ℕ) (i v n : ℕ) → 8 * (at + length bytes) + (i + n) ≤ 8 * length f → sets (put_field f i v n) at bytes ≡ put_field (sets f at bytes) i v n
sets-field f at bytes i v zero l = rw (put-none f i v, put-none (sets f at bytes) i v) refl
sets-field f at bytes i v (suc n) l =
    rw (put-more f i v n, put-more (sets f at bytes) i v n, ← sets-bit f at bytes i (v % 2) (omega arith))
    (sets-field (put_bit f i (v % 2)) at bytes (i + 1) (v / 2) n (omega (arith, put-length f i (v % 2))))

-- a tail bit may be put before the calls, behind them or between any two, where they send no byte that has it
pub laid-bit : (s : EncoderState) (f : List ℕ) (xs : List Sent) (i bit : ℕ) → 8 * (state_behind s xs).out + i < 8 * length f → laid_behind s (put_bit f i bit) xs ≡ put_bit (laid_behind s f xs) i bit
laid-bit s f xs i bit l =
    rw (laid-sets s (put_bit f i bit) xs, laid-sets s f xs)
    (sets-bit f s.out (bytes_behind s xs) i bit (omega (arith, out-behind s xs)))

-- and so may a field
pub laid-field : (s : EncoderState) (f : List ℕ) (xs : List Sent) (i v n : ℕ) → 8 * (state_behind s xs).out + (i + n) ≤ 8 * length f → laid_behind s (put_field f i v n) xs ≡ put_field (laid_behind s f xs) i v n
laid-field s f xs i v n l =
    rw (laid-sets s (put_field f i v n) xs, laid-sets s f xs)
    (sets-field f s.out (bytes_behind s xs) i v n (omega (arith, out-behind s xs)))
