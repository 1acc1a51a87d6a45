-- Theorem 2, the carry: the bytes sent, those held and the carry are exactly the digits of the interval's base above low. The end
-- of the interval bounds what may still be carried: at most once, and into a byte that has room. Assumes nothing.
use Prim.Native.Nat.{ℕ, zero, suc, ◌+◌, ◌*◌, ◌%◌, ◌≤◌, ◌<◌}
use mathlib.Core.Path.{◌≡◌, refl, sym, ap, ◌∙◌}
use mathlib.Core.Bool.{true, false}
use mathlib.Core.Logic.{⊎_elim}
use mathlib.Core.List.{List, [], ◌∷◌, ◌++◌, append_assoc, append-nil}
use native.Mathlib.Omega.{arith}
use native.Mathlib.Nat.{add-zero}
use borrow.Author.Tests.{ltb-true, ltb-false, eqb-true, eqb-false}
use lib.Dec.{ltb, eqb}
use lib.ListN.{replicate, length-append, replicate-append-replicate}
use Rattle.common.proofs.Bools.{by-test, or_split, or-false, or-fails-second}
use Rattle.range_decoder.specs.Decoder.{unit_of}
use Rattle.range_encoder.specs.Encoder.{start_encoder, settles, shifted, shift_bytes, symbol_added, with_range, turn, turn_bytes, encoded, encoded_bytes}
use Rattle.range_encoder.specs.Interval.{Sent, cumulative_of, frequency_of, Interval, whole, part, widened, narrowed_by, behind}
use Rattle.range_encoder.specs.Runs.{Passes, AllPass, none, more, state_behind, bytes_behind}
use Rattle.range_encoder.specs.Digits.{number_from, number}
use Rattle.range_encoder.specs.Theory.{held_digits, Holds, Carried}
use Rattle.range_encoder.specs.Private.{Fits, Carries, Sound}
use Rattle.range_encoder.specs.declared.EncoderState.{EncoderState}
use Rattle.common.proofs.Cumulatives.{Shares}
use Rattle.range_decoder.proofs.Shares.{Given, shares-given}
use Rattle.range_encoder.proofs.Symbols.{symbol-shares, symbol-given}
use Rattle.range_encoder.proofs.Numbers.{from-append, from-none, from_one, carry-through}
use Rattle.range_encoder.proofs.Intervals.{two-turns}
use Rattle.range_encoder.proofs.States.{shifts-shifted, out-shifted, fits-added, fits-turn, fits-encoded}

-- at the start nothing is out and nothing is held
pub holds-start : Holds [] start_encoder whole
holds-start = record { range = refl; shifts = refl; sent = refl; digits = rw from-none refl; unsent = λ e. refl }

-- where the interval reaches past 24 bits, a byte is in the cache
pub end-held : (s : EncoderState) → Fits s → Carries s → 0x1000000 ≤ s.carry * 0x1000000 + s.low + s.range → s.held ≡ 1
end-held s f c past =
    by-test (eqb s.held 0)
    (λ e. absurd (omega (arith, c.first (eqb-true s.held 0 e))))
    (λ e. omega (arith, eqb-false s.held 0 e))

-- a carry finds a byte in the cache that takes it: it is never lost, and never passes the first byte
pub carry-kept : (s : EncoderState) → Fits s → Carries s → 0 < s.range → s.carry ≡ 1 → (s.held ≡ 1) × (s.cache < 255)
carry-kept s f c pos e = (end-held s f c (omega arith), omega arith)

-- what is held is not settled: the next byte is 0xFF, and no carry is there yet
pub not-settled : (s : EncoderState) → Fits s → settles s ≡ false → (0xFF0000 ≤ s.low) × (s.carry ≡ 0)
not-settled s f e =
    let no-carry : eqb s.carry 1 ≡ false = or-fails-second (ltb s.low 0xFF0000) (eqb s.carry 1) e in
    let high : ltb s.low 0xFF0000 ≡ false = or-false (ltb s.low 0xFF0000) no-carry ∙ e in
    omega (arith, ltb-false s.low 0xFF0000 high, eqb-false s.carry 1 no-carry)

-- what is held is settled: the interval ends before a carry could reach it once more
end-settled : (s : EncoderState) → Carries s → s.range < 0x10000 → settles s ≡ true → s.low + s.range ≤ 0x1000000
end-settled s c short e =
    ⊎_elim (λ t. omega (arith, ltb-true s.low 0xFF0000 t)) (λ t. omega (arith, eqb-true s.carry 1 t))
    (or_split (ltb s.low 0xFF0000) (eqb s.carry 1) e)

-- a byte more in the state bounds what may still be carried as before
pub carries-shifted : (s : EncoderState) → Fits s → Carries s → s.range < 0x10000 → Carries (with_range (shifted s) (s.range * 256))
carries-shifted s f c short =
    by-test (settles s)
    (λ e.
    let end = end-settled s c short e in
    rw e (record { once = omega arith; kept = omega arith; first = λ z. absurd (omega arith) }))
    (λ e.
    let waits = not-settled s f e in
    rw e (record { once = omega arith; kept = omega arith; first = λ z. omega (arith, c.first z) }))

-- what is sent is what is held, and a carry: the cache takes it, and the 0xFFs behind become zeros
number-sent : (a held cache carry pending : ℕ) → cache < 256 → carry ≤ 1 → (carry ≡ 1 → (held ≡ 1) × (cache < 255))
    → number_from a (replicate held ((cache + carry) % 256) ++ replicate pending ((carry + 255) % 256))
    ≡ number_from a (replicate held cache ++ replicate pending 255) + carry
unfolding number_from
number-sent a held cache zero pending fits most kept =
    let e : (cache + 0) % 256 ≡ cache = omega arith in
    rw (e, add-zero) refl
number-sent a held cache (suc zero) pending fits most kept =
    let one : held ≡ 1 = (kept refl).0 in
    let room : cache < 255 = (kept refl).1 in
    let e : (cache + 1) % 256 ≡ cache + 1 = omega arith in
    let d : a * 256 + (cache + 1) ≡ a * 256 + cache + 1 = omega arith in
    rw (one, e) (ap (λ (b : ℕ). number_from b (replicate pending 0)) d ∙ carry-through (a * 256 + cache) pending)
number-sent a held cache (suc (suc n)) pending fits most kept = absurd (omega arith)

-- a shift of what is settled, in digits
digits-sent : (w : List ℕ) (s : EncoderState) → Fits s → Carries s → 0 < s.range → settles s ≡ true → number (w ++ shift_bytes s) ≡ number (w ++ held_digits s) + s.carry
digits-sent w s f c pos e =
    rw (e, from-append, from-append 0 w (held_digits s))
    (number-sent (number w) s.held s.cache s.carry s.pending f.cache-fits f.carry-most (carry-kept s f c pos))

-- one 0xFF more waits
pub digits-waiting : (w : List ℕ) (held cache pending : ℕ)
    → number (w ++ (replicate held cache ++ replicate (pending + 1) 255)) ≡ number (w ++ (replicate held cache ++ replicate pending 255)) * 256 + 255
digits-waiting w held cache pending =
    rw (← replicate-append-replicate {A = ℕ} pending 1 255, ← append_assoc, ← append_assoc, from-append, from_one, append_assoc) refl

-- one shift, in digits: base gets a byte more, and the range is left
pub holds-shifted : (w : List ℕ) (s : EncoderState) (i : Interval) → Fits s → Carries s → 0 < s.range → Holds w s i → Holds (w ++ shift_bytes s) (shifted s) (record { base = i.base * 256; range = i.range; shifts = i.shifts + 1 })
holds-shifted w s i f c pos h =
    record {
      range = h.range;
      shifts = shifts-shifted s ∙ ap (λ (n : ℕ). n + 1) h.shifts;
      sent = rw (length-append, h.sent) (sym (out-shifted s));
      digits = by-test (settles s)
          (λ e. rw (e, from-append, from_one) (omega (arith, rw e at (digits-sent w s f c pos e))))
          (λ e. rw (e, append-nil, digits-waiting) (omega (arith, not-settled s f e)));
      unsent = by-test (settles s)
          (λ e. rw e (λ z. absurd (omega arith)))
          (λ e. rw (e, append-nil) h.unsent);
    }

-- a symbol in exact numbers: where low passes 24 bits no carry was there, and the carry is what it passes them by
added-exact : (s : EncoderState) (cum freq : ℕ) → Fits s → Carries s → Given s.range cum freq
    → (symbol_added s cum freq).carry * 0x1000000 + (symbol_added s cum freq).low ≡ s.carry * 0x1000000 + s.low + unit_of s.range * cum
added-exact s cum freq f c g =
    by-test (ltb (s.low + unit_of s.range * cum) 0x1000000)
    (λ e. rw e (omega (arith, ltb-true)))
    (λ e. rw e (omega (arith, ltb-false)))

-- the end of the interval only falls, so a carry is bounded as before
carries-added : (s : EncoderState) (cum freq : ℕ) → Fits s → Carries s → Given s.range cum freq → Carries (symbol_added s cum freq)
carries-added s cum freq f c g =
    let exact = added-exact s cum freq f c g in
    record { once = omega arith; kept = omega arith; first = λ z. omega (arith, c.first z) }

-- a symbol's own part of the interval, in digits
holds-added : (w : List ℕ) (s : EncoderState) (i : Interval) (x : Sent) → Sound s → Passes x → Holds w s i → Holds w (symbol_added s (cumulative_of x) (frequency_of x)) (part i x)
holds-added w s i x d p h =
    let g = symbol-given s.range x d.range-least p in
    record {
      range = rw h.range refl;
      shifts = h.shifts;
      sent = h.sent;
      digits = rw (← h.range) (omega (arith, added-exact s (cumulative_of x) (frequency_of x) d.fits d.carries g));
      unsent = h.unsent;
    }

-- a state on the way from one symbol to the next
record Turning (s : EncoderState) : Type 0 where
  fits : Fits s
  carries : Carries s
  some : 0 < s.range

turning-added : (s : EncoderState) (cum freq : ℕ) → Sound s → Shares cum freq → Turning (symbol_added s cum freq)
turning-added s cum freq d h =
    let g = shares-given s.range cum freq d.range-least h in
    record {
      fits = fits-added s cum freq d.fits h.most;
      carries = carries-added s cum freq d.fits d.carries g;
      some = omega (arith, g.least);
    }

turning-turn : (s : EncoderState) → Turning s → Turning (turn s)
turning-turn s t =
    record {
      fits = fits-turn s t.fits;
      carries =
          by-test (ltb s.range 0x10000)
          (λ e. rw e (carries-shifted s t.fits t.carries (ltb-true s.range 0x10000 e)))
          (λ e. rw e t.carries);
      some = by-test (ltb s.range 0x10000) (λ e. rw e (omega arith)) (λ e. rw e t.some);
    }

-- a turn of the encoder is a turn of the interval
range-turn : (s : EncoderState) (i : Interval) → s.range ≡ i.range → (turn s).range ≡ (widened i).range
range-turn s i h = by-test (ltb s.range 0x10000) (λ e. rw (e, rw h at e) (omega arith)) (λ e. rw (e, rw h at e) h)

holds-turn : (w : List ℕ) (s : EncoderState) (i : Interval) → Turning s → Holds w s i → Holds (w ++ turn_bytes s) (turn s) (widened i)
holds-turn w s i t h =
    let byte = holds-shifted w s i t.fits t.carries t.some h in
    by-test (ltb s.range 0x10000)
    (λ e. rw (e, rw h.range at e)
    (record {
      range = ap (λ (n : ℕ). n * 256) h.range;
      shifts = byte.shifts;
      sent = byte.sent;
      digits = byte.digits;
      unsent = byte.unsent;
    }))
    (λ e. rw (e, rw h.range at e, append-nil) h)

-- the two turns behind a symbol leave a range of at least 0x10000
least-turned : (s : EncoderState) → 64 ≤ s.range → 0x10000 ≤ (turn (turn s)).range
least-turned s least =
    let i : Interval = record { base = 0; range = s.range; shifts = 0 } in
    rw (range-turn (turn s) (widened i) (range-turn s i refl)) (two-turns i least)

-- the invariant holds behind a symbol
pub sound-encoded : (s : EncoderState) (cum freq : ℕ) → Sound s → Shares cum freq → Sound (encoded s cum freq)
sound-encoded s cum freq d h =
    let g = shares-given s.range cum freq d.range-least h in
    let t = turning-added s cum freq d h in
    record {
      fits = fits-encoded s cum freq d.fits h.most;
      range-least = least-turned (symbol_added s cum freq) g.least;
      carries = (turning-turn (turn (symbol_added s cum freq)) (turning-turn (symbol_added s cum freq) t)).carries;
    }

-- one symbol: the encoder does with digits what the interval does with its numbers
pub holds-encoded : (w : List ℕ) (s : EncoderState) (i : Interval) (x : Sent) → Sound s → Passes x → Holds w s i → Holds (w ++ encoded_bytes s (cumulative_of x) (frequency_of x)) (encoded s (cumulative_of x) (frequency_of x)) (narrowed_by i x)
holds-encoded w s i x d p h =
    let a = symbol_added s (cumulative_of x) (frequency_of x) in
    let t = turning-added s (cumulative_of x) (frequency_of x) d (symbol-shares x p) in
    let once = holds-turn w a (part i x) t (holds-added w s i x d p h) in
    rw (← append_assoc) (holds-turn (w ++ turn_bytes a) (turn a) (widened (part i x)) (turning-turn a t) once)

-- every state on the way keeps the invariant
pub sound-start : Sound start_encoder
sound-start = record { fits = omega arith; range-least = omega arith; carries = record { once = omega arith; kept = omega arith; first = λ z. omega arith } }

pub sound-behind : (s : EncoderState) (xs : List Sent) → Sound s → AllPass xs → Sound (state_behind s xs)
unfolding state_behind
sound-behind s [] d none = d
sound-behind s (x ∷ xs) d (more p ps) =
    sound-behind (encoded s (cumulative_of x) (frequency_of x)) xs (sound-encoded s (cumulative_of x) (frequency_of x) d (symbol-shares x p)) ps

-- from any state that holds an interval, behind any symbols
pub holds-behind : (w : List ℕ) (s : EncoderState) (i : Interval) (xs : List Sent) → Sound s → AllPass xs → Holds w s i → Holds (w ++ bytes_behind s xs) (state_behind s xs) (behind i xs)
unfolding state_behind bytes_behind behind
holds-behind w s i [] d none h = rw append-nil h
holds-behind w s i (x ∷ xs) d (more p ps) h =
    let next = encoded s (cumulative_of x) (frequency_of x) in
    let sound : Sound next = sound-encoded s (cumulative_of x) (frequency_of x) d (symbol-shares x p) in
    let bytes = encoded_bytes s (cumulative_of x) (frequency_of x) in
    rw (← append_assoc) (holds-behind (w ++ bytes) next (narrowed_by i x) xs sound ps (holds-encoded w s i x d p h))

-- theorem 2, of any symbols that pass
pub carry-exact : (xs : List Sent) → AllPass xs → Carried xs
carry-exact xs ps =
    let sound = sound-behind start_encoder xs sound-start ps in
    record {
      holds = holds-behind [] start_encoder whole xs sound-start ps holds-start;
      kept = carry-kept (state_behind start_encoder xs) sound.fits sound.carries (omega (arith, sound.range-least));
    }
