-- What is read back from a frame that holds symbols at its head and bits at its tail, by the forms that codings are made of: a symbol
-- takes the next symbol, a bit the next bit, and each goes on where the one before it ended. Assumes nothing.
use Prim.Native.Nat.{ℕ, zero, suc, ◌+◌, ◌*◌, ◌≤◌, ◌<◌}
use mathlib.Core.Path.{◌≡◌, refl, sym, subst, ◌∙◌}
use mathlib.Core.Bool.{cond}
use mathlib.Core.List.{List, [], ◌∷◌, ◌++◌, append_assoc}
use native.Mathlib.Omega.{arith}
use native.Mathlib.Nat.{add-zero}
use lib.Dec.{eqb}
use lib.ListN.{length, length-append}
use Rattle.common.specs.Reply.{Step, bit, Answer, accepted, refused, in_step, no_tail_room}
use Rattle.common.proofs.Bools.{by-test}
use Rattle.buffer_reader.specs.Reads.{bit_beyond}
use Rattle.buffer_reader.specs.Tail.{Bytes}
use Rattle.buffer_reader.specs.declared.Cursor.{Cursor}
use Rattle.buffer_reader.proofs.Answers.{bit-there, bit-taken, bit-refused}
use Rattle.range_encoder.specs.Interval.{Sent, Interval, narrowed_by, behind}
use Rattle.range_encoder.specs.Runs.{AllPass, more}
use Rattle.range_encoder.specs.Theory.{Within, Inside, state_at, cursor_at}
use Rattle.range_encoder.proofs.Decodes.{behind-shifts, inside-behind, decode-one}
use Rattle.range_encoder.proofs.Intervals.{within-narrowed, within-behind}
use Rattle.coding.specs.Coding.{Coding, done, onward, met, symbol_by, tail_bit_by}
use Rattle.coding.proofs.Codings.{never}
use Rattle.sending.specs.Sending.{Bit, Stands}
use Rattle.sending.proofs.Sends.{pass-before, pass-behind}
use Rattle.sending.proofs.Stands.{stands-append}

pub behind-append : (i : Interval) (xs ys : List Sent) → behind i (xs ++ ys) ≡ behind (behind i xs) ys
unfolding behind
behind-append i [] ys = refl
behind-append i (x ∷ xs) ys = behind-append (narrowed_by i x) xs ys

-- from an interval and a tail place on a frame holds symbols and bits: its head number lies in the interval behind the symbols, which have
-- room at its head, and the bits stand at its tail
pub record Holding (f : List ℕ) (i : Interval) (tail : ℕ) (xs : List Sent) (bits : List Bit) : Type 0 where
  pub within : Within i
  pub all : AllPass xs
  pub inside : Inside f 0 (behind i xs)
  pub head : 3 + (behind i xs).shifts ≤ length f
  pub stands : Stands f tail bits

-- and the bits have room, where there are any
abbrev pub Room : List ℕ → Interval → ℕ → List Sent → List Bit → Type 0
Room f i tail xs bits = 0 < length bits → 8 * (behind i xs).shifts + tail + length bits + 2 ≤ 8 * length f

-- what a reading comes to: what is held, or 9 in a step `bit` of some pair and level, where the bits had no room
pub data Came {A : Type 0} (At : ℕ → ℕ → Type 0) (room : Type 0) (x y : Answer A) : Type 0 where
  same : x ≡ y → Came At room x y
  cut : (p level place : ℕ) → At p level → x ≡ refused (in_step (bit p level) (no_tail_room 1 place)) → (room → ⊥) → Came At room x y

-- with room nothing is cut
pub came-whole : {A : Type 0} {At : ℕ → ℕ → Type 0} {room : Type 0} {x y : Answer A} → Came At room x y → room → x ≡ y
came-whole (same e) r = e
came-whole (cut p level place at e full) r = absurd (full r)

-- what some room leaves whole, more room does
pub came-weaker : {A : Type 0} {At : ℕ → ℕ → Type 0} {room more : Type 0} {x y : Answer A} → (more → room) → Came At room x y → Came At more x y
came-weaker h (same e) = same e
came-weaker h (cut p level place at e full) = cut p level place at e (λ r. full (h r))

-- behind the first of them it holds the rest
pub holding-on : (f : List ℕ) (i : Interval) (tail : ℕ) (xs ys : List Sent) (bs cs : List Bit) → Holding f i tail (xs ++ ys) (bs ++ cs) → Holding f (behind i xs) (tail + length bs) ys cs
holding-on f i tail xs ys bs cs h =
    let e = behind-append i xs ys in
    record {
      within = within-behind i xs h.within (pass-before xs ys h.all);
      all = pass-behind xs ys h.all;
      inside = subst (Inside f 0) e h.inside;
      head = subst (λ (j : Interval). 3 + j.shifts ≤ length f) e h.head;
      stands = (stands-append f tail bs cs h.stands).1;
    }

pub room-on : (f : List ℕ) (i : Interval) (tail : ℕ) (xs ys : List Sent) (bs cs : List Bit) → Room f i tail (xs ++ ys) (bs ++ cs) → Room f (behind i xs) (tail + length bs) ys cs
room-on f i tail xs ys bs cs room some =
    let size = length-append bs cs in
    let r = subst (λ (j : Interval). 8 * j.shifts + tail + length (bs ++ cs) + 2 ≤ 8 * length f) (behind-append i xs ys) (room (omega arith)) in
    omega arith

-- a cursor behind so many bytes and bits
abbrev pub place_at : Interval → ℕ → Cursor
place_at i tail = cursor_at (record { head = 0; tail = tail }) i

bit-value : (v : ℕ) → v < 2 → cond (eqb v 1) 1 0 ≡ v
bit-value zero h = refl
bit-value (suc zero) h = refl
bit-value (suc (suc v)) h = absurd (omega arith)

-- `At` says at which pairs and levels a tail bit may be asked for
module _ (f : List ℕ) (bytes : Bytes f) (short : length f ≤ 65535) (At : ℕ → ℕ → Type 0) where
  -- a coding that takes these symbols and bits, and answers a, wherever the frame holds them, whatever follows, if the bits have room
  pub record Back {A : Type 0} (k : Coding A) (xs : List Sent) (bits : List Bit) (a : A) : Type 0 where
    pub at : (i : Interval) (tail : ℕ) (rest : List Sent) (later : List Bit) → Holding f i tail (xs ++ rest) (bits ++ later) →
        Came At (Room f i tail (xs ++ rest) (bits ++ later)) (k (state_at f 0 i) f (place_at i tail))
        (accepted (record { value = a; state = state_at f 0 (behind i xs) }, place_at (behind i xs) (tail + length bits)))

  pub back_done : {A : Type 0} (a : A) → Back (done a) [] [] a
  unfolding behind
  back_done a = record { at = λ i tail rest later h. same (rw (add-zero tail) refl) }

  pub back-onward : {A B : Type 0} (k : Coding A) (l : A → Coding B) {xs ys : List Sent} {bs cs : List Bit} {a : A} {b : B} → Back k xs bs a → Back (l a) ys cs b → Back (onward k l) (xs ++ ys) (bs ++ cs) b
  back-onward {A} {B} k l {xs} {ys} {bs} {cs} {a} {b} first rest =
      record {
        at = λ i tail zs ds h.
            let both = subst (λ (us : List Sent). Holding f i tail us (bs ++ (cs ++ ds))) (append_assoc xs ys zs) (subst (Holding f i tail ((xs ++ ys) ++ zs)) (append_assoc bs cs ds) h) in
            on i tail zs ds (first.at i tail (ys ++ zs) (cs ++ ds) both) (rest.at (behind i xs) (tail + length bs) zs ds (holding-on f i tail xs (ys ++ zs) bs (cs ++ ds) both));
      }
    where
      turned : (i : Interval) (tail : ℕ) (zs : List Sent) (ds : List Bit) → Room f i tail ((xs ++ ys) ++ zs) ((bs ++ cs) ++ ds) → Room f i tail (xs ++ (ys ++ zs)) (bs ++ (cs ++ ds))
      turned i tail zs ds room =
          subst (λ (us : List Sent). Room f i tail us (bs ++ (cs ++ ds))) (append_assoc xs ys zs) (subst (Room f i tail ((xs ++ ys) ++ zs)) (append_assoc bs cs ds) room)

      on : (i : Interval) (tail : ℕ) (zs : List Sent) (ds : List Bit) →
          Came At (Room f i tail (xs ++ (ys ++ zs)) (bs ++ (cs ++ ds))) (k (state_at f 0 i) f (place_at i tail)) (accepted (record { value = a; state = state_at f 0 (behind i xs) }, place_at (behind i xs) (tail + length bs))) →
          Came At (Room f (behind i xs) (tail + length bs) (ys ++ zs) (cs ++ ds)) (l a (state_at f 0 (behind i xs)) f (place_at (behind i xs) (tail + length bs))) (accepted (record { value = b; state = state_at f 0 (behind (behind i xs) ys) }, place_at (behind (behind i xs) ys) (tail + length bs + length cs))) →
          Came At (Room f i tail ((xs ++ ys) ++ zs) ((bs ++ cs) ++ ds)) (onward k l (state_at f 0 i) f (place_at i tail)) (accepted (record { value = b; state = state_at f 0 (behind i (xs ++ ys)) }, place_at (behind i (xs ++ ys)) (tail + length (bs ++ cs))))
      on i tail zs ds (same one) (same two) =
          let size : tail + length (bs ++ cs) ≡ tail + length bs + length cs = omega (arith, length-append bs cs) in
          same (rw (one, two, behind-append i xs ys, size) refl)
      on i tail zs ds (same one) (cut p level place at two full) =
          cut p level place at (rw (one, two) refl) (λ room. full (room-on f i tail xs (ys ++ zs) bs (cs ++ ds) (turned i tail zs ds room)))
      on i tail zs ds (cut p level place at one full) two =
          cut p level place at (rw one refl) (λ room. full (turned i tail zs ds room))

  -- nothing more is read behind it
  pub back_last : {A B : Type 0} (k : Coding A) (g : A → B) {xs : List Sent} {bs : List Bit} {a : A} → Back k xs bs a → Back (onward k (λ x. done (g x))) xs bs (g a)
  back_last {A} {B} k g {xs} {bs} {a} first =
      record { at = λ i tail zs ds h. on i tail zs ds (first.at i tail zs ds h) }
    where
      on : (i : Interval) (tail : ℕ) (zs : List Sent) (ds : List Bit) →
          Came At (Room f i tail (xs ++ zs) (bs ++ ds)) (k (state_at f 0 i) f (place_at i tail)) (accepted (record { value = a; state = state_at f 0 (behind i xs) }, place_at (behind i xs) (tail + length bs))) →
          Came At (Room f i tail (xs ++ zs) (bs ++ ds)) (onward k (λ x. done (g x)) (state_at f 0 i) f (place_at i tail)) (accepted (record { value = g a; state = state_at f 0 (behind i xs) }, place_at (behind i xs) (tail + length bs)))
      on i tail zs ds (same one) = same (rw one refl)
      on i tail zs ds (cut p level place at one full) = cut p level place at (rw one refl) full

  -- a tail bit: what the next bit says, if there is one
  pub back-bit : (p level : ℕ) → At p level → (b : Bit) → b.value < 2 → Back (met (bit p level) tail_bit_by) [] (b ∷ []) b.value
  unfolding behind Stands
  back-bit p level asked b small =
      record {
        at = λ i tail rest later h.
            let few = behind-shifts i rest in
            by-test (bit_beyond (length f) (place_at i tail))
            (λ beyond. cut p level tail asked (rw (bit-refused f (place_at i tail) short beyond) refl)
            (λ room.
            let r = room (omega arith) in
            let there = bit-there f (place_at i tail) (omega arith) (omega arith) in
            never (sym there ∙ beyond)))
            (λ there. same (rw (bit-taken f (place_at i tail) short there, h.stands.0, bit-value b.value small) refl));
      }

  -- a symbol: the next symbol, if it is one of that row
  pub back-symbol : (step : Step) (x : Sent) → Back (met step (symbol_by x.row)) (x ∷ []) [] x.symbol
  unfolding behind
  back-symbol step x =
      record {
        at = λ i tail rest later h. same (go i tail rest h.within h.all h.inside h.head);
      }
    where
      go : (i : Interval) (tail : ℕ) (rest : List Sent) → Within i → AllPass (x ∷ rest) → Inside f 0 (behind (narrowed_by i x) rest) → 3 + (behind (narrowed_by i x) rest).shifts ≤ length f →
          met step (symbol_by x.row) (state_at f 0 i) f (place_at i tail) ≡ accepted (record { value = x.symbol; state = state_at f 0 (narrowed_by i x) }, place_at (narrowed_by i x) (tail + 0))
      go i tail rest within (more p ps) inside head =
          let later = within-narrowed i x within p in
          let here = inside-behind f 0 bytes (narrowed_by i x) rest later ps inside in
          let one = decode-one f (record { head = 0; tail = tail }) i x bytes short p (omega (arith, behind-shifts (narrowed_by i x) rest)) here in
          rw (one, add-zero tail) refl
