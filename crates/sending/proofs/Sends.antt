-- Symbols sent or counted: lists of them append, and what sending asks for goes on along a list. Assumes nothing.
use Prim.Native.Nat.{ℕ, ◌+◌, ◌*◌, ◌≤◌}
use mathlib.Core.Path.{◌≡◌, refl, ap, ◌∙◌}
use mathlib.Core.Bool.{Bool, true, false}
use mathlib.Core.List.{List, [], ◌∷◌, ◌++◌}
use native.Mathlib.Omega.{arith}
use borrow.Author.Tests.{ltb-true}
use lib.Dec.{ltb}
use lib.ListN.{length, length-append, get_or}
use lib.Seq.{length-sets}
use Rattle.common.proofs.Bools.{by-test}
use Rattle.common.specs.Tables.{cumulative}
use Rattle.common.proofs.Cumulatives.{share-within}
use Rattle.range_decoder.specs.Decoder.{unit_of}
use Rattle.range_encoder.specs.Encoder.{encoded, encoded_bytes, shifts_of, symbol_added, turn}
use Rattle.range_encoder.specs.Interval.{Sent, cumulative_of, frequency_of}
use Rattle.range_encoder.specs.Runs.{Passes, AllPass, none, more, state_behind}
use Rattle.range_encoder.specs.Private.{Fits}
use Rattle.range_encoder.specs.declared.EncoderState.{EncoderState}
use Rattle.range_encoder.proofs.Symbols.{symbol-shares}
use Rattle.range_encoder.proofs.States.{fits-encoded, shifts-turn}
use Rattle.range_encoder.proofs.Laid.{shifts-behind}
use Rattle.sending.specs.Sending.{sent}
use Rattle.sending.specs.Private.{counted, recounted, wider_count, counted_by, sent_one, laid_one, sent_all, laid_all, Ready}

pub sent-append : (writing : Bool) (s : EncoderState) (xs ys : List Sent) → sent_all writing s (xs ++ ys) ≡ sent_all writing (sent_all writing s xs) ys
unfolding sent_all
sent-append writing s [] ys = refl
sent-append writing s (x ∷ xs) ys = sent-append writing (sent_one writing s x) xs ys

pub laid-append : (writing : Bool) (s : EncoderState) (f : List ℕ) (xs ys : List Sent) → laid_all writing s f (xs ++ ys) ≡ laid_all writing (sent_all writing s xs) (laid_all writing s f xs) ys
unfolding sent_all laid_all
laid-append writing s f [] ys = refl
laid-append writing s f (x ∷ xs) ys = laid-append writing (sent_one writing s x) (laid_one writing s f x) xs ys

pub laid-one-length : (writing : Bool) (s : EncoderState) (f : List ℕ) (x : Sent) → length (laid_one writing s f x) ≡ length f
laid-one-length true s f x = length-sets f s.out (encoded_bytes s (cumulative_of x) (frequency_of x))
laid-one-length false s f x = refl

pub laid-all-length : (writing : Bool) (s : EncoderState) (f : List ℕ) (xs : List Sent) → length (laid_all writing s f xs) ≡ length f
unfolding laid_all
laid-all-length writing s f [] = refl
laid-all-length writing s f (x ∷ xs) =
    laid-all-length writing (sent_one writing s x) (laid_one writing s f x) xs ∙ laid-one-length writing s f x

-- the encoder's own run appends too
pub state-append : (s : EncoderState) (xs ys : List Sent) → state_behind s (xs ++ ys) ≡ state_behind (state_behind s xs) ys
unfolding state_behind
state-append s [] ys = refl
state-append s (x ∷ xs) ys = state-append (encoded s (cumulative_of x) (frequency_of x)) xs ys

-- the clauses, for loops
pub sent-none : (writing : Bool) (s : EncoderState) → sent_all writing s [] ≡ s
unfolding sent_all
sent-none writing s = refl

pub laid_none : (writing : Bool) (s : EncoderState) (f : List ℕ) → laid_all writing s f [] ≡ f
unfolding laid_all
laid_none writing s f = refl

-- a count as the code goes is the count by the interval: base takes no part in it
pub counted-by : (s : EncoderState) (x : Sent) → counted_by s (frequency_of x) ≡ counted s x
counted-by s x =
    by-test (ltb (unit_of s.range * frequency_of x) 0x10000)
    (λ e.
    by-test (ltb (unit_of s.range * frequency_of x * 256) 0x10000)
    (λ e'. rw (e, e') refl)
    (λ e'. rw (e, e') refl))
    (λ e. rw (e, e) refl)

fits_wider : (s : EncoderState) → Fits s → Fits (wider_count s)
fits_wider s h =
    by-test (ltb s.range 0x10000) (λ e. rw e (omega (arith, ltb-true s.range 0x10000 e))) (λ e. rw e h)

shifts-wider : (s : EncoderState) → shifts_of (wider_count s) ≤ shifts_of s + 1
shifts-wider s = by-test (ltb s.range 0x10000) (λ e. rw e (omega arith)) (λ e. rw e (omega arith))

-- a count keeps numbers that fit, and counts at most two bytes more
pub fits-counted-by : (s : EncoderState) (frequency : ℕ) → Fits s → frequency ≤ 1024 → Fits (counted_by s frequency)
fits-counted-by s frequency h most =
    let own = share-within (unit_of s.range) 0 frequency (omega (arith, most)) in
    let part : Fits (recounted s (unit_of s.range * frequency) s.out) = omega arith in
    fits_wider (wider_count (recounted s (unit_of s.range * frequency) s.out))
    (fits_wider (recounted s (unit_of s.range * frequency) s.out) part)

shifts-counted-by : (s : EncoderState) (frequency : ℕ) → shifts_of (counted_by s frequency) ≤ shifts_of s + 2
shifts-counted-by s frequency =
    let part = recounted s (unit_of s.range * frequency) s.out in
    omega (arith, shifts-wider part, shifts-wider (wider_count part))

-- and so does a symbol that is sent
shifts-turned : (s : EncoderState) → shifts_of (turn s) ≤ shifts_of s + 1
shifts-turned s =
    by-test (ltb s.range 0x10000)
    (λ e. omega (arith, shifts-turn s (ltb-true s.range 0x10000 e)))
    (λ e. rw e (omega arith))

shifts-encoded : (s : EncoderState) (cum freq : ℕ) → shifts_of (encoded s cum freq) ≤ shifts_of s + 2
shifts-encoded s cum freq =
    let added = symbol_added s cum freq in
    omega (arith, shifts-turned added, shifts-turned (turn added))

fits-sent : (writing : Bool) (s : EncoderState) (x : Sent) → Fits s → Passes x → Fits (sent_one writing s x)
fits-sent true s x h p = fits-encoded s (cumulative_of x) (frequency_of x) h (symbol-shares x p).most
fits-sent false s x h p =
    let shares = symbol-shares x p in
    rw (← counted-by s x) (fits-counted-by s (frequency_of x) h (omega (arith, shares.most)))

shifts-sent : (writing : Bool) (s : EncoderState) (x : Sent) → shifts_of (sent_one writing s x) ≤ shifts_of s + 2
shifts-sent true s x = shifts-encoded s (cumulative_of x) (frequency_of x)
shifts-sent false s x = omega (arith, shifts-counted-by s (frequency_of x), ap shifts_of (counted-by s x))

-- a list that passes: its first, its rest, its two parts
pub pass-first : {x : Sent} {xs : List Sent} → AllPass (x ∷ xs) → Passes x
pass-first (more p ps) = p

pub pass-rest : {x : Sent} {xs : List Sent} → AllPass (x ∷ xs) → AllPass xs
pass-rest (more p ps) = ps

pub pass-before : (xs ys : List Sent) → AllPass (xs ++ ys) → AllPass xs
pass-before [] ys h = none
pass-before (x ∷ xs) ys (more p ps) = more p (pass-before xs ys ps)

pub pass-behind : (xs ys : List Sent) → AllPass (xs ++ ys) → AllPass ys
pass-behind [] ys h = h
pass-behind (x ∷ xs) ys (more p ps) = pass-behind xs ys ps

pub pass-append : (xs ys : List Sent) → AllPass xs → AllPass ys → AllPass (xs ++ ys)
pass-append [] ys h k = k
pass-append (x ∷ xs) ys (more p ps) k = more p (pass-append xs ys ps k)

-- what sending a list asks for is what sending its first asks for, and behind it what sending its rest asks for
pub ready-first : (writing : Bool) (s : EncoderState) (n : ℕ) (x : Sent) (xs : List Sent) → Ready writing s n (x ∷ xs) → Ready writing s n (x ∷ [])
unfolding state_behind
ready-first writing s n x xs h =
    record {
      all = more (pass-first h.all) none;
      fits = h.fits;
      few = omega (arith, h.few);
      short = h.short;
      room = λ e. omega (arith, h.room e, shifts-behind (encoded s (cumulative_of x) (frequency_of x)) xs);
    }

room_next : (writing : Bool) (s : EncoderState) (n : ℕ) (x : Sent) (xs : List Sent) → Ready writing s n (x ∷ xs) → writing ≡ true → shifts_of (state_behind (sent_one writing s x) xs) ≤ n
unfolding state_behind
room_next true s n x xs h e = h.room e
room_next false s n x xs h e = let z : ◌≡◌ {A = ℕ} 0 1 = cc in absurd (omega arith)

pub ready-next : (writing : Bool) (s : EncoderState) (n : ℕ) (x : Sent) (xs : List Sent) → Ready writing s n (x ∷ xs) → Ready writing (sent_one writing s x) n xs
ready-next writing s n x xs h =
    record {
      all = pass-rest h.all;
      fits = fits-sent writing s x h.fits (pass-first h.all);
      few = omega (arith, h.few, shifts-sent writing s x);
      short = h.short;
      room = room_next writing s n x xs h;
    }

-- and so of two lists
pub ready-before : (writing : Bool) (s : EncoderState) (n : ℕ) (xs ys : List Sent) → Ready writing s n (xs ++ ys) → Ready writing s n xs
ready-before writing s n xs ys h =
    record {
      all = pass-before xs ys h.all;
      fits = h.fits;
      few = omega (arith, h.few, length-append xs ys);
      short = h.short;
      room = λ e. omega (arith, h.room e, shifts-behind (state_behind s xs) ys, ap shifts_of (state-append s xs ys));
    }

pub ready-behind : (writing : Bool) (s : EncoderState) (n : ℕ) (xs ys : List Sent) → Ready writing s n (xs ++ ys) → Ready writing (sent_all writing s xs) n ys
unfolding sent_all
ready-behind writing s n [] ys h = h
ready-behind writing s n (x ∷ xs) ys h =
    ready-behind writing (sent_one writing s x) n xs ys (ready-next writing s n x (xs ++ ys) h)

pub ready-split : (writing : Bool) (s : EncoderState) (n : ℕ) (xs ys : List Sent) → Ready writing s n (xs ++ ys) → Ready writing s n xs × Ready writing (sent_all writing s xs) n ys
ready-split writing s n xs ys h = (ready-before writing s n xs ys h, ready-behind writing s n xs ys h)

-- what one symbol asks for
pub ready-there : (writing : Bool) (s : EncoderState) (n : ℕ) (x : Sent) (xs : List Sent) → Ready writing s n (x ∷ xs) → (cumulative_of x + frequency_of x ≤ 1024) × (s.out + 2 ≤ 65535)
ready-there writing s n x xs h = ((symbol-shares x (pass-first h.all)).most, omega (arith, h.few))

-- what `ac_encode` asks for, of the numbers that the code has
pub encode-ready : (writing : Bool) (s : EncoderState) (n : ℕ) (row : List ℕ) (symbol below frequency : ℕ) → writing ≡ true → below ≡ cumulative row symbol → frequency ≡ get_or row symbol 0 → Ready writing s n (sent row symbol ∷ []) → (Fits s) × (below + frequency ≤ 1024) × (shifts_of (encoded s below frequency) ≤ n) × (n ≤ 65535)
unfolding state_behind
encode-ready writing s n row symbol below frequency is-writing under own h =
    rw (under, own)
    (h.fits, (ready-there writing s n (sent row symbol) [] h).0, h.room is-writing, h.short)
