-- Theorem 3, the finish: the state that is sent ends with its own bits, so its shifts leave nothing in low, and the bytes sent and
-- held are its digits. Assumes nothing.
use Prim.Native.Nat.{ℕ, zero, suc, ◌+◌, ◌-◌, ◌*◌, ◌/◌, ◌%◌, ◌^◌, ◌≤◌, ◌<◌}
use mathlib.Core.Path.{◌≡◌, refl, sym, ap, ◌∙◌}
use mathlib.Core.Bool.{true, false}
use mathlib.Core.List.{List, ◌++◌, append_assoc, append-nil}
use native.Mathlib.Omega.{arith}
use native.Mathlib.Nat.{mul-one, mul_assoc, mul_comm, add-mul, mod-lt, div-add-mod', mul-div_cancel, pow-suc, add-sub_of_le, mul_right_comm, eq_of_mul-eq-mul_right}
use borrow.Author.Tests.{lt-ltb, ltb-true, ltb-false, eqb-true, eqb-false}
use lib.Dec.{ltb, eqb}
use lib.Pow.{pow_pos, pow-add}
use lib.ListN.{length, length-append, length-replicate}
use Rattle.common.specs.Last.{floor_log2}
use Rattle.common.proofs.Bools.{by-test}
use Rattle.common.proofs.Lasts.{log-range}
use Rattle.range_encoder.specs.Encoder.{start_encoder, shifts_of, settles, shifted, shift_bytes, reserved_of, with_range}
use Rattle.range_encoder.specs.Finish.{Ending, ending, ended, pushed, pushed_bytes, last_bits, held_bytes, last_byte, finish_state, finish_bytes, finish_last, finish_bits}
use Rattle.range_encoder.specs.Interval.{Sent, Interval, whole, behind}
use Rattle.range_encoder.specs.Runs.{AllPass, state_behind, bytes_behind, own_bits, own_length}
use Rattle.range_encoder.specs.Digits.{number}
use Rattle.range_encoder.specs.Theory.{held_digits, Holds, own_number, Finishing}
use Rattle.range_encoder.specs.Private.{Fits, Carries, Sound, closing}
use Rattle.range_encoder.specs.declared.EncoderState.{EncoderState}
use Rattle.range_encoder.proofs.Numbers.{from-append, from_one}
use Rattle.range_encoder.proofs.States.{fits-shifted, shifts-shifted, out-shifted}
use Rattle.range_encoder.proofs.Carry.{end-held, not-settled, digits-waiting, carries-shifted, holds-shifted, sound-start, sound-behind, carry-exact}
use Rattle.range_encoder.proofs.Endings.{Exact, ending-ended, ending-exact, ending-fits, ending-carries}

-- a state that is sent: so many bits of its low are its own, and its range is what they leave open
record Closes (t : EncoderState) (bits : ℕ) : Type 0 where
  fits : Fits t
  carries : Carries t
  some : 1 ≤ bits
  most : bits ≤ 9
  range : t.range ≡ 2 ^ (24 - bits)
  times : ℕ
  step : t.low ≡ times * 2 ^ (24 - bits)

-- the finish's state is one, in either reading
closes : (reading : ℕ) (s : EncoderState) → Sound s → Closes (closing s (ending reading s)) (ending reading s).bits
closes reading s sound =
    let e = ending-ended reading s sound in
    let limits = log-range s.range sound.range-least sound.fits.range-fits in
    record {
      fits = (ending-fits reading s sound).1;
      carries = ending-carries reading s sound;
      some = omega (arith, e.bits-least);
      most = omega (arith, e.bits_most);
      range = refl;
      times = e.times;
      step = e.step;
    }

-- behind the shifts: a byte is in the cache, nothing is left in low, and the last byte ends with its top b bits
record Closed (p : EncoderState) (b : ℕ) : Type 0 where
  held : p.held ≡ 1
  low : p.low ≡ 0
  carry : p.carry ≡ 0
  whole : 0 < p.pending → b ≡ 8
  times : ℕ
  last : p.pending ≡ 0 → p.cache ≡ times * 2 ^ (8 - b)

-- what is held is settled: low's top byte is the last, and nothing waits
shift-settled : (u : EncoderState) (b times : ℕ) → settles u ≡ true → u.low < 0x1000000 → u.low ≡ times * 2 ^ (8 - b) * 0x10000 → Closed (shifted u) b
shift-settled u b times e fits step =
    rw e
    (record {
      held = refl;
      low = omega arith;
      carry = refl;
      whole = λ l. absurd (omega arith);
      times = times;
      last = λ z. omega arith;
    })

-- 255 is odd
odd : (times k : ℕ) → times * 2 ^ k ≡ 255 → k ≡ 0
odd times zero e = refl
odd times (suc k) e =
    let double : times * 2 ^ k * 2 ≡ 255 = mul_assoc times (2 ^ k) 2 ∙ rw pow-suc at e in
    absurd (omega arith)

-- what is held still waits: low's top byte is 0xFF, so all 8 bits of it are own; and a byte is held, since the end passes 24 bits
shift-waiting : (u : EncoderState) (b times : ℕ) → settles u ≡ false → Fits u → Carries u → b ≤ 8 → u.range ≡ 2 ^ (8 - b) * 0x10000 → u.low ≡ times * 2 ^ (8 - b) * 0x10000 → Closed (shifted u) b
shift-waiting u b times e fits carries most range step =
    let waits = not-settled u fits e in
    let some : 0 < 2 ^ (8 - b) = pow_pos (8 - b) in
    rw e
    (record {
      held = end-held u fits carries (omega arith);
      low = omega arith;
      carry = waits.1;
      whole = λ l. omega (arith, odd times (8 - b) (omega arith));
      times = times;
      last = λ z. absurd (omega arith);
    })

-- one shift
shift-closed : (u : EncoderState) (b times : ℕ) → Fits u → Carries u → b ≤ 8 → u.range ≡ 2 ^ (8 - b) * 0x10000 → u.low ≡ times * 2 ^ (8 - b) * 0x10000 → Closed (shifted u) b
shift-closed u b times fits carries most range step =
    by-test (settles u)
    (λ e. shift-settled u b times e fits.low_fits step)
    (λ e. shift-waiting u b times e fits carries most range step)

-- two shifts, for nine bits: behind the first only the ninth is left in low, so the second settles
shifts-closed : (u : EncoderState) (times : ℕ) → u.low ≡ times * 0x8000 → Closed (shifted (shifted u)) 1
shifts-closed u times step =
    let ninth : (shifted u).low ≡ times % 2 * 128 * 0x10000 = omega arith in
    let settled : settles (shifted u) ≡ true = rw (lt-ltb (shifted u).low 0xFF0000 (omega arith)) refl in
    shift-settled (shifted u) 1 (times % 2) settled (omega arith) ninth

-- the step of the last of up to 8 bits is that of a byte's bit, two bytes up
step-byte : (b : ℕ) → b ≤ 8 → 2 ^ (24 - b) ≡ 2 ^ (8 - b) * 0x10000
step-byte b h =
    let e : 24 - b ≡ 8 - b + 16 = omega arith in
    ap (λ (k : ℕ). 2 ^ k) e ∙ pow-add 2 (8 - b) 16

-- the shifts of the finish, one or two
pushed-closed : (t : EncoderState) (bits : ℕ) → Closes t bits → Closed (pushed t bits) (last_bits bits)
pushed-closed t bits c =
    by-test (ltb 8 bits)
    (λ e.
    let is : bits ≡ 9 = omega (arith, ltb-true 8 bits e) in
    rw (e, is) (shifts-closed t c.times (rw is at c.step)))
    (λ e.
    let most = ltb-false 8 bits e in
    let step = step-byte bits most in
    rw e (shift-closed t bits c.times c.fits c.carries most (c.range ∙ step) (c.step ∙ ap (λ (q : ℕ). c.times * q) step ∙ sym (mul_assoc c.times (2 ^ (8 - bits)) 0x10000))))

-- the bytes out behind the shifts
pub pushed-out : (t : EncoderState) (bits : ℕ) → (pushed t bits).out ≡ t.out + length (pushed_bytes t bits)
pushed-out t bits =
    by-test (ltb 8 bits)
    (λ e. rw (e, length-append (shift_bytes t) (shift_bytes (shifted t))) (omega (arith, out-shifted t, out-shifted (shifted t))))
    (λ e. rw e (out-shifted t))

-- S grows by one with each shift, and a ninth bit is one of a byte more
pub pushed-shifts : (t : EncoderState) (bits : ℕ) → 8 * shifts_of (pushed t bits) + last_bits bits ≡ 8 * shifts_of t + bits + 8
pushed-shifts t bits =
    by-test (ltb 8 bits)
    (λ e. rw e (omega (arith, ltb-true 8 bits e, shifts-shifted t, shifts-shifted (shifted t))))
    (λ e. rw e (omega (arith, shifts-shifted t)))

-- of what is held, all but the last byte is whole
pub held-length : (p : EncoderState) → length (held_bytes p) ≡ p.pending
held-length p =
    by-test (eqb p.pending 0)
    (λ e. rw e (sym (eqb-true p.pending 0 e)))
    (λ e. rw e (simp length-replicate (omega (arith, eqb-false p.pending 0 e))))

-- all bytes but the last are whole, and of the last its own bits count
closed-length : (w : List ℕ) (t : EncoderState) (bits : ℕ) → Closes t bits → length w ≡ t.out → 8 * length (w ++ (pushed_bytes t bits ++ held_bytes (pushed t bits))) + last_bits bits ≡ 8 * shifts_of t + bits
closed-length w t bits c sent =
    let p = pushed-closed t bits c in
    rw (length-append w (pushed_bytes t bits ++ held_bytes (pushed t bits)), length-append (pushed_bytes t bits) (held_bytes (pushed t bits)))
    (omega (arith, sent, p.held, pushed-out t bits, pushed-shifts t bits, held-length (pushed t bits)))

-- the last byte has 1 to 8 bits
last-most : (bits : ℕ) → 1 ≤ bits → bits ≤ 9 → (1 ≤ last_bits bits) × (last_bits bits ≤ 8)
last-most bits some most =
    by-test (ltb 8 bits) (λ e. rw e (omega (arith, ltb-true 8 bits e))) (λ e. rw e (omega (arith, ltb-false 8 bits e)))

-- a byte that ends with its top b bits is them and zeros
top-bits : (a last times b : ℕ) → b ≤ 8 → last ≡ times * 2 ^ (8 - b) → (a * 2 ^ b + last / 2 ^ (8 - b)) * 2 ^ (8 - b) ≡ a * 256 + last
top-bits a last times b most step =
    let byte : 2 ^ b * 2 ^ (8 - b) ≡ 256 = sym (pow-add 2 b (8 - b)) ∙ ap (λ (k : ℕ). 2 ^ k) (add-sub_of_le most) in
    let exact : times * 2 ^ (8 - b) / 2 ^ (8 - b) ≡ times = mul-div_cancel times (pow_pos (8 - b)) in
    rw (step, exact, add-mul, mul_assoc, byte) refl

-- the digits that are held, with the last of them cut to its own bits
closed-number : (w : List ℕ) (p : EncoderState) (b : ℕ) → b ≤ 8 → Closed p b → own_number (w ++ held_bytes p) (last_byte p b) b * 2 ^ (8 - b) ≡ number (w ++ held_digits p)
closed-number w p b most c =
    by-test (eqb p.pending 0)
    (λ e.
    let none = eqb-true p.pending 0 e in
    rw (e, c.held, none, append-nil, from-append, from_one) (top-bits (number w) p.cache c.times b most (c.last none)))
    (λ e.
    let before : p.pending - 1 + 1 ≡ p.pending = omega (arith, eqb-false p.pending 0 e) in
    let byte : b ≡ 8 = c.whole (omega arith) in
    rw (e, byte, c.held, mul-one) (rw before at (sym (digits-waiting w 1 p.cache (p.pending - 1)))))

-- the digits sent and held make the number, behind one shift
module _ (w : List ℕ) (t : EncoderState) (i : Interval) (fits : Fits t) (carries : Carries t) (some : 0 < t.range) (h : Holds w t i) where
  number-once : (b : ℕ) → b ≤ 8 → Closed (shifted t) b → number ((w ++ shift_bytes t) ++ held_digits (shifted t)) * 2 ^ (24 - b) ≡ i.base * 2 ^ (8 - b)
  number-once b most c =
      let one = holds-shifted w t i fits carries some h in
      let whole : number ((w ++ shift_bytes t) ++ held_digits (shifted t)) * 0x10000 ≡ i.base = omega (arith, one.digits, c.carry, c.low) in
      rw (step-byte b most, mul_comm (2 ^ (8 - b)) 0x10000, ← mul_assoc, whole) refl

  -- behind two, for nine bits
  number-twice : t.range ≡ 0x8000 → Closed (shifted (shifted t)) 1 → number ((w ++ (shift_bytes t ++ shift_bytes (shifted t))) ++ held_digits (shifted (shifted t))) * 0x8000 ≡ i.base * 128
  number-twice range c =
      let one = holds-shifted w t i fits carries some h in
      let more = carries-shifted t fits carries (omega arith) in
      let kept : Carries (shifted t) = record { once = omega arith; kept = omega arith; first = λ z. omega (arith, more.first z) } in
      let two = holds-shifted (w ++ shift_bytes t) (shifted t) (record { base = i.base * 256; range = i.range; shifts = i.shifts + 1 }) (fits-shifted t fits) kept (omega arith) one in
      rw (← append_assoc w (shift_bytes t) (shift_bytes (shifted t))) (omega (arith, two.digits, c.carry, c.low))

-- in either case the digits, at the step of the last bit, are the state's number
pushed-number : (w : List ℕ) (t : EncoderState) (bits : ℕ) (i : Interval) → Closes t bits → Holds w t i → number ((w ++ pushed_bytes t bits) ++ held_digits (pushed t bits)) * 2 ^ (24 - bits) ≡ i.base * 2 ^ (8 - last_bits bits)
pushed-number w t bits i c h =
    let pos : 0 < 2 ^ (24 - bits) = pow_pos (24 - bits) in
    let some : 0 < t.range = omega arith in
    let closed = pushed-closed t bits c in
    by-test (ltb 8 bits)
    (λ e.
    let is : bits ≡ 9 = omega (arith, ltb-true 8 bits e) in
    rw (e, is) (number-twice w t i c.fits c.carries some h (rw is at c.range) (rw (e, is) at closed)))
    (λ e. rw e (number-once w t i c.fits c.carries some h bits (ltb-false 8 bits e) (rw e at closed)))

-- so the bits sent are the state's number, cut to its own bits
own-number : (w : List ℕ) (t : EncoderState) (bits : ℕ) (i : Interval) → Closes t bits → Holds w t i → own_number (w ++ (pushed_bytes t bits ++ held_bytes (pushed t bits))) (last_byte (pushed t bits) (last_bits bits)) (last_bits bits) * 2 ^ (24 - bits) ≡ i.base
own-number w t bits i c h =
    let b = last_bits bits in
    let own = own_number ((w ++ pushed_bytes t bits) ++ held_bytes (pushed t bits)) (last_byte (pushed t bits) b) b in
    let cut : own * 2 ^ (8 - b) ≡ number ((w ++ pushed_bytes t bits) ++ held_digits (pushed t bits)) = closed-number (w ++ pushed_bytes t bits) (pushed t bits) b (last-most bits c.some c.most).1 (pushed-closed t bits c) in
    rw (← append_assoc w (pushed_bytes t bits) (held_bytes (pushed t bits)))
    (eq_of_mul-eq-mul_right (2 ^ (8 - b)) (pow_pos (8 - b)) (own * 2 ^ (24 - bits)) i.base
    (mul_right_comm own (2 ^ (24 - bits)) (2 ^ (8 - b)) ∙ ap (λ (k : ℕ). k * 2 ^ (24 - bits)) cut ∙ pushed-number w t bits i c h))

-- no shift reads the range
pushed-ranged : (s : EncoderState) (range bits : ℕ) → pushed (with_range s range) bits ≡ with_range (pushed s bits) range
pushed-ranged s range bits = by-test (ltb 8 bits) (λ e. rw e refl) (λ e. rw e refl)

closed : (reading : ℕ) (s : EncoderState) → Sound s → Closed (with_range (finish_state reading s) (2 ^ (24 - (ending reading s).bits))) (finish_bits reading s)
closed reading s sound =
    rw (← (pushed-ranged (ended s (ending reading s)) (2 ^ (24 - (ending reading s).bits)) (ending reading s).bits))
    (pushed-closed (closing s (ending reading s)) (ending reading s).bits (closes reading s sound))

-- a byte is in the cache behind the finish's shifts
pub finish-held : (reading : ℕ) (s : EncoderState) → Sound s → (finish_state reading s).held ≡ 1
finish-held reading s sound = (closed reading s sound).held

-- so a cache of -1 is never sent
pub pushed-held : (reading : ℕ) (xs : List Sent) → AllPass xs → (finish_state reading (state_behind start_encoder xs)).held ≡ 1
pushed-held reading xs all = finish-held reading (state_behind start_encoder xs) (sound-behind start_encoder xs sound-start all)

-- 0xFFs that still wait mean that all 8 bits of the last byte are sent, so the source's 0xff >> (8 - bits) is 0xff
pub pending-whole : (reading : ℕ) (xs : List Sent) → AllPass xs → 0 < (finish_state reading (state_behind start_encoder xs)).pending → own_bits reading xs ≡ 8
pending-whole reading xs all = (closed reading (state_behind start_encoder xs) (sound-behind start_encoder xs sound-start all)).whole

-- S bytes, and behind them as many bits as the ending has
pub finish-length : (reading : ℕ) (w : List ℕ) (s : EncoderState) → Sound s → length w ≡ s.out → 8 * length (w ++ finish_bytes reading s) + finish_bits reading s ≡ 8 * shifts_of s + (ending reading s).bits
finish-length reading w s sound sent =
    rw (pushed-ranged (ended s (ending reading s)) (2 ^ (24 - (ending reading s).bits)) (ending reading s).bits) at
    (closed-length w (closing s (ending reading s)) (ending reading s).bits (closes reading s sound) sent)

-- at most E
pub finish-reserved : (reading : ℕ) (w : List ℕ) (s : EncoderState) → Sound s → length w ≡ s.out → 8 * length (w ++ finish_bytes reading s) + finish_bits reading s ≤ reserved_of s
finish-reserved reading w s sound sent =
    rw (finish-length reading w s sound sent) (omega (arith, (ending-ended reading s sound).bits_most))

-- the last byte has 1 to 8 bits of the ending's
pub last-bits : (reading : ℕ) (s : EncoderState) → Sound s → (1 ≤ finish_bits reading s) × (finish_bits reading s ≤ 8)
last-bits reading s sound =
    let c = closes reading s sound in
    last-most (ending reading s).bits c.some c.most

-- the number sent is the exact one, cut to its own bits
pub finish-number : (reading : ℕ) (w : List ℕ) (s : EncoderState) (i : Interval) → Sound s → Holds w s i → own_number (w ++ finish_bytes reading s) (finish_last reading s) (finish_bits reading s) * 2 ^ (24 - (ending reading s).bits) ≡ (number (w ++ held_digits s) + (ending reading s).carry) * 0x1000000 + (ending reading s).value
finish-number reading w s i sound h =
    rw (pushed-ranged (ended s (ending reading s)) (2 ^ (24 - (ending reading s).bits)) (ending reading s).bits) at
    (own-number w (closing s (ending reading s)) (ending reading s).bits
    (record {
      base = (number (w ++ held_digits s) + (ending reading s).carry) * 0x1000000 + (ending reading s).value;
      range = 2 ^ (24 - (ending reading s).bits);
      shifts = shifts_of s;
    })
    (closes reading s sound)
    (record { range = refl; shifts = refl; sent = h.sent; digits = refl; unsent = h.unsent }))

-- a number that begins with n lies in a step from n on
begins : (x n q base : ℕ) → 0 < q → x / q ≡ n → n * q ≡ base → (base ≤ x) × (x < base + q)
begins x n q base pos e whole =
    let same : x / q * q ≡ base = ap (λ (k : ℕ). k * q) e ∙ whole in
    let split : x / q * q + x % q ≡ x = div-add-mod' x q in
    let rest : x % q < q = mod-lt x pos in
    omega arith

-- what lies in a step from the exact ending on lies in the interval
inside : (s : EncoderState) (e : Ending) (i : Interval) (above x : ℕ) → Exact s e → s.range ≡ i.range → (above + s.carry) * 0x1000000 + s.low ≡ i.base → (above + e.carry) * 0x1000000 + e.value ≤ x → x < (above + e.carry) * 0x1000000 + e.value + 2 ^ (24 - e.bits) → (i.base ≤ x) × (x < i.base + i.range)
inside s e i above x exact range digits least most = omega arith

-- standard reading: every continuation of the bits sent lies in the interval
finish-inside : (w : List ℕ) (s : EncoderState) (i : Interval) → Sound s → Holds w s i → (x : ℕ) → x / 2 ^ (24 - (ending 1 s).bits) ≡ own_number (w ++ finish_bytes 1 s) (finish_last 1 s) (finish_bits 1 s) → (i.base ≤ x) × (x < i.base + i.range)
finish-inside w s i sound h x e =
    let q = 2 ^ (24 - (ending 1 s).bits) in
    let own = own_number (w ++ finish_bytes 1 s) (finish_last 1 s) (finish_bits 1 s) in
    let base = (number (w ++ held_digits s) + (ending 1 s).carry) * 0x1000000 + (ending 1 s).value in
    let within = begins x own q base (pow_pos (24 - (ending 1 s).bits)) e (finish-number 1 w s i sound h) in
    inside s (ending 1 s) i (number (w ++ held_digits s)) x (ending-exact s sound) h.range h.digits within.0 within.1

-- how much is sent, of any state that holds an interval
finishing-by : (w : List ℕ) (s : EncoderState) (i : Interval) → Sound s → Holds w s i → (8 * i.shifts + (ending 1 s).bits ≡ 8 * length (w ++ finish_bytes 1 s) + finish_bits 1 s) × (24 ≤ (ending 1 s).bits + floor_log2 i.range) × ((ending 1 s).bits + floor_log2 i.range ≤ 25)
finishing-by w s i sound h =
    let e = ending-ended 1 s sound in
    (omega (arith, finish-length 1 w s sound h.sent, h.shifts), rw (← h.range) e.bits-least, rw (← h.range) e.bits_most)

-- theorem 3, of any symbols that pass
pub finish-sends : (xs : List Sent) → AllPass xs → Finishing xs
finish-sends xs all =
    let s = state_behind start_encoder xs in
    let w = bytes_behind start_encoder xs in
    let i = behind whole xs in
    let sound = sound-behind start_encoder xs sound-start all in
    let h = (carry-exact xs all).holds in
    let by = finishing-by w s i sound h in
    let left : 24 + 8 * i.shifts - own_length 1 xs ≡ 24 - (ending 1 s).bits = omega (arith, by.0) in
    record {
      least = omega (arith, by.0, by.1);
      most = omega (arith, by.0, by.2);
      reserved = omega (arith, by.0, by.2);
      inside = λ x e. finish-inside w s i sound h x (rw left at e);
    }
