-- Symbols written are the encoder's own run; symbols counted leave the buffer, and their range and S are the interval's, which base takes
-- no part in. So both have the same E. Assumes nothing.
use Prim.Native.Nat.{ℕ, ◌*◌, ◌≤◌}
use mathlib.Core.Path.{◌≡◌, refl, sym, ap, ◌∙◌}
use mathlib.Core.Bool.{true, false}
use mathlib.Core.List.{List, [], ◌∷◌}
use native.Mathlib.Omega.{arith}
use lib.Dec.{ltb}
use lib.ListN.{length}
use Rattle.common.proofs.Bools.{by-test}
use Rattle.range_decoder.specs.Decoder.{unit_of}
use Rattle.range_encoder.specs.Encoder.{start_encoder, encoded, shifts_of, reserved_bits, reserved_of}
use Rattle.range_encoder.specs.Interval.{Sent, cumulative_of, frequency_of, Interval, whole, narrowed_by, behind}
use Rattle.range_encoder.specs.Runs.{AllPass, state_behind}
use Rattle.range_encoder.specs.Theory.{laid_behind}
use Rattle.range_encoder.specs.declared.EncoderState.{EncoderState}
use Rattle.range_encoder.proofs.Carry.{carry-exact, sound-start}
use Rattle.range_encoder.proofs.Intervals.{within-whole, within-behind}
use Rattle.sending.specs.Private.{counted, sent_one, laid_one, sent_all, laid_all, Ready}

pub sent-written : (s : EncoderState) (xs : List Sent) → sent_all true s xs ≡ state_behind s xs
unfolding sent_all state_behind
sent-written s [] = refl
sent-written s (x ∷ xs) = sent-written (encoded s (cumulative_of x) (frequency_of x)) xs

pub laid-written : (s : EncoderState) (f : List ℕ) (xs : List Sent) → laid_all true s f xs ≡ laid_behind s f xs
unfolding laid_all laid_behind
laid-written s f [] = refl
laid-written s f (x ∷ xs) = laid-written (sent_one true s x) (laid_one true s f x) xs

pub laid-counted : (s : EncoderState) (f : List ℕ) (xs : List Sent) → laid_all false s f xs ≡ f
unfolding laid_all
laid-counted s f [] = refl
laid-counted s f (x ∷ xs) = laid-counted (sent_one false s x) f xs

-- a state that has an interval's range, and its S in the place of the bytes out
pub record Counts (s : EncoderState) (i : Interval) : Type 0 where
  pub range-is : s.range ≡ i.range
  pub out-is : s.out ≡ i.shifts
  pub held_none : s.held ≡ 0
  pub pending-none : s.pending ≡ 0

counts-one : (s : EncoderState) (i : Interval) (x : Sent) → Counts s i → Counts (counted s x) (narrowed_by i x)
counts-one s i x h =
    let size = unit_of i.range * frequency_of x in
    by-test (ltb size 0x10000)
    (λ e.
    by-test (ltb (size * 256) 0x10000)
    (λ e'. record { range-is = rw (h.range-is, e, e') refl; out-is = rw (h.range-is, h.out-is, e, e') refl; held_none = h.held_none; pending-none = h.pending-none })
    (λ e'. record { range-is = rw (h.range-is, e, e') refl; out-is = rw (h.range-is, h.out-is, e, e') refl; held_none = h.held_none; pending-none = h.pending-none }))
    (λ e. record { range-is = rw (h.range-is, e, e) refl; out-is = rw (h.range-is, h.out-is, e, e) refl; held_none = h.held_none; pending-none = h.pending-none })

counts_all : (s : EncoderState) (i : Interval) (xs : List Sent) → Counts s i → Counts (sent_all false s xs) (behind i xs)
unfolding sent_all behind
counts_all s i [] h = h
counts_all s i (x ∷ xs) h = counts_all (counted s x) (narrowed_by i x) xs (counts-one s i x h)

pub sent-counted : (xs : List Sent) → Counts (sent_all false start_encoder xs) (behind whole xs)
sent-counted xs =
    counts_all start_encoder whole xs (record { range-is = refl; out-is = refl; held_none = refl; pending-none = refl })

-- E by the count is E by the encoder
pub reserved-counted : (xs : List Sent) → AllPass xs → reserved_of (sent_all false start_encoder xs) ≡ reserved_of (state_behind start_encoder xs)
reserved-counted xs all =
    let n = sent-counted xs in
    let s = sent_all false start_encoder xs in
    let t = state_behind start_encoder xs in
    let same : shifts_of s ≡ shifts_of t = omega (arith, n.out-is, n.held_none, n.pending-none, (carry-exact xs all).holds.shifts) in
    ap (λ (k : ℕ). reserved_bits k s.range) same ∙
    ap (λ (r : ℕ). reserved_bits (shifts_of t) r) (n.range-is ∙ sym (carry-exact xs all).holds.range)

-- its range has 17 bits at least
pub counted-least : (xs : List Sent) → AllPass xs → 0x10000 ≤ (sent_all false start_encoder xs).range
counted-least xs all = omega (arith, (sent-counted xs).range-is, (within-behind whole xs within-whole all).range-least)

-- what a count from the start asks for: symbols that pass, and not too many
pub count-ready : (n : ℕ) (xs : List Sent) → AllPass xs → n ≤ 65535 → 2 * length xs ≤ 65535 → Ready false start_encoder n xs
count-ready n xs all short few =
    record {
      all = all;
      fits = sound-start.fits;
      few = omega (arith, few);
      short = short;
      room = λ e. let z : ◌≡◌ {A = ℕ} 0 1 = cc in absurd (omega arith);
    }

-- and what sending from the start asks for
pub send-ready : (n : ℕ) (xs : List Sent) → AllPass xs → n ≤ 65535 → 2 * length xs ≤ 65535 → shifts_of (state_behind start_encoder xs) ≤ n → Ready true start_encoder n xs
send-ready n xs all short few room =
    record { all = all; fits = sound-start.fits; few = omega (arith, few); short = short; room = λ e. room }
