-- What the finish decides: low rounded up to a multiple of the last bit's step, which is the floor's power of two, or half of it
-- where a whole step from there would pass the interval's end. The step is mask + 1. Assumes nothing.
use Prim.Native.Nat.{ℕ, suc, ◌+◌, ◌-◌, ◌*◌, ◌/◌, ◌%◌, ◌^◌, ◌≤◌, ◌<◌}
use mathlib.Core.Path.{◌≡◌, refl, sym, ap, ◌∙◌}
use mathlib.Core.Bool.{Bool, true, false, cond}
use native.Mathlib.Omega.{arith}
use native.Mathlib.Nat.{zero-mul, suc-mul, mul_comm, lt_of_mul-lt-mul_right, mul-le-mul_right, mod-lt, mod-eq_of_lt, div-add-mod', div-eq_of_lt, div-mul-le_self, div-le_self, two-pow-succ, add-sub_of_le}
use borrow.Author.Tests.{lt-ltb, le-ltb, ltb-true, ltb-false, eqb-true, eqb-false, leb-false}
use lib.Dec.{ltb, leb, eqb}
use lib.Arith.{digits_div}
use lib.Pow.{pow_pos, pow_mono, pow-add, shr-shr}
use Rattle.common.proofs.Bools.{by-test}
use Rattle.common.specs.Last.{floor_log2}
use Rattle.common.proofs.Lasts.{log-law, log-range}
use Rattle.range_encoder.specs.Finish.{Ending, val_of, high_in, ending_at, ending, ended}
use Rattle.range_encoder.specs.Private.{Fits, Carries, Sound, mask_of, closing}
use Rattle.range_encoder.specs.declared.EncoderState.{EncoderState}

-- the ending in exact numbers: `up` is the value with what it carried
pub record Exact (s : EncoderState) (e : Ending) : Type 0 where
  pub up : ℕ
  pub carried : e.value + e.carry * 0x1000000 ≡ up + s.carry * 0x1000000
  pub low-most : s.low ≤ up
  pub inside : up + 2 ^ (24 - e.bits) ≤ s.low + s.range

-- in both readings: how many bits, and the value as a multiple of the last bit's step
pub record Ended (s : EncoderState) (e : Ending) : Type 0 where
  pub bits-least : 24 ≤ e.bits + floor_log2 s.range
  pub bits_most : e.bits + floor_log2 s.range ≤ 25
  pub times : ℕ
  pub step : e.value ≡ times * 2 ^ (24 - e.bits)
  pub value-fits : e.value < 0x1000000
  pub carry-most : e.carry ≤ 1

-- so many steps of the last of b bits are 24 bits
step-whole : (b : ℕ) → b ≤ 24 → 2 ^ b * 2 ^ (24 - b) ≡ 0x1000000
step-whole b few = sym (pow-add 2 b (24 - b)) ∙ ap (λ (j : ℕ). 2 ^ j) (add-sub_of_le few)

-- the mask of b bits and one is that step
mask_step : (b : ℕ) → b ≤ 24 → mask_of b + 1 ≡ 2 ^ (24 - b)
mask_step b few =
    let left : ℕ = 2 ^ (24 - b) - 1 in
    let one : suc left ≡ 2 ^ (24 - b) = omega (arith, pow_pos (24 - b)) in
    let steps : suc left * 2 ^ b ≡ 0x1000000 = ap (λ (q : ℕ). q * 2 ^ b) one ∙ mul_comm (2 ^ (24 - b)) (2 ^ b) ∙ step-whole b few in
    let rest : 2 ^ b - 1 < 2 ^ b = omega (arith, pow_pos b) in
    let all : 0xFFFFFF ≡ left * 2 ^ b + (2 ^ b - 1) = omega (arith, pow_pos b, rw suc-mul at steps) in
    let mask : mask_of b ≡ left = ap (λ (n : ℕ). n / 2 ^ b) all ∙ digits_div left rest in
    omega arith

-- one bit more halves it
mask-half : (b : ℕ) → mask_of b / 2 ≡ mask_of (b + 1)
mask-half b = shr-shr 0xFFFFFF b 1

-- it has 24 bits
pub mask_fits : (b : ℕ) → mask_of b < 0x1000000
mask_fits b = omega (arith, div-le_self 0xFFFFFF (2 ^ b))

-- low rounded up to a multiple of a step, mask + 1
module _ (low mask : ℕ) where
  -- it is at or above low, by less than a step
  rounded : low + mask < 0x1000000 → (low ≤ val_of low mask) × (val_of low mask ≤ low + mask)
  rounded l =
      let split : (low + mask) / (mask + 1) * (mask + 1) + (low + mask) % (mask + 1) ≡ low + mask = div-add-mod' (low + mask) (mask + 1) in
      let rest : (low + mask) % (mask + 1) < mask + 1 = mod-lt (low + mask) (omega arith) in
      rw (mod-eq_of_lt l) (omega arith, omega arith)

  -- or it is 0x1000000, of which the carry is left out
  rounded-past : low < 0x1000000 → mask < 0x1000000 → 0x1000000 ≤ low + mask → val_of low mask ≡ 0
  rounded-past fits most l =
      let small : (low + mask) % 0x1000000 < mask + 1 = omega arith in
      rw (div-eq_of_lt small) (zero-mul (mask + 1))

  -- in either case it has 24 bits
  rounded-fits : val_of low mask < 0x1000000
  rounded-fits =
      let most : val_of low mask ≤ (low + mask) % 0x1000000 = div-mul-le_self ((low + mask) % 0x1000000) (mask + 1) in
      omega arith

  -- and a whole step from there on ends within them
  rounded-room : (u : ℕ) → u * (mask + 1) ≡ 0x1000000 → val_of low mask + (mask + 1) ≤ 0x1000000
  rounded-room u whole =
      let below : (low + mask) % 0x1000000 / (mask + 1) < u = lt_of_mul-lt-mul_right (mask + 1) (rw whole rounded-fits) in
      let most : suc ((low + mask) % 0x1000000 / (mask + 1)) * (mask + 1) ≤ u * (mask + 1) = mul-le-mul_right (mask + 1) below in
      omega (arith, rw suc-mul at most)

-- the bits are those that the floor leaves, n, or one more
record Near (n b : ℕ) : Type 0 where
  least : n ≤ b
  most : b ≤ n + 1
  some : 1 ≤ b
  few : b ≤ 24

-- what is chosen: a multiple of the step at or above low, with a whole step inside; or 0x1000000, whose step lies inside at the
-- standard's reading
data Chosen (reading : ℕ) (s : EncoderState) (n : ℕ) : Ending → Type 0 where
  plain : (b times q : ℕ) → Near n b → q ≡ 2 ^ (24 - b) → s.low ≤ times * q → times * q < 0x1000000 → times * q + q ≤ s.low + s.range → Chosen reading s n (record { bits = b; value = times * q; carry = s.carry })
  past : (b : ℕ) → Near n b → 0x1000000 < s.low + s.range → (reading ≡ 1 → 0x1000000 + 2 ^ (24 - b) ≤ s.low + s.range) → Chosen reading s n (record { bits = b; value = 0; carry = 1 })

-- a high of 24 bits is the same in both readings
high-whole : (high : ℕ) → high < 0x1000000 → (b : Bool) → cond b high (high % 0x1000000) ≡ high
high-whole high l true = refl
high-whole high l false = mod-eq_of_lt l

module _ (reading : ℕ) (s : EncoderState) (n : ℕ) (fits : Fits s) (some : 1 ≤ n) (most : n ≤ 23) (log : 2 ^ (24 - n) ≤ s.range) where
  -- rounded to a step of which a whole one lies inside
  chosen_at : (b : ℕ) → Near n b → (s.low + mask_of b < 0x1000000 → val_of s.low (mask_of b) + (mask_of b + 1) ≤ s.low + s.range) → (reading ≡ 1 → 0x1000000 ≤ s.low + mask_of b → 0x1000000 + (mask_of b + 1) ≤ s.low + s.range) → Chosen reading s n (ending_at s b (val_of s.low (mask_of b)))
  chosen_at b near within beyond =
      let value = val_of s.low (mask_of b) in
      let step = mask_step b near.few in
      by-test (ltb (s.low + mask_of b) 0x1000000)
      (λ e.
      let l = ltb-true (s.low + mask_of b) 0x1000000 e in
      let least = (rounded s.low (mask_of b) l).0 in
      rw (le-ltb value s.low least)
      (plain b ((s.low + mask_of b) % 0x1000000 / (mask_of b + 1)) (mask_of b + 1) near step least (rounded-fits s.low (mask_of b)) (within l)))
      (λ e.
      let l = ltb-false (s.low + mask_of b) 0x1000000 e in
      let short : 2 ^ (24 - b) ≤ 2 ^ (24 - n) = pow_mono (omega (arith, near.least)) in
      let zeroed : value ≡ 0 = rounded-past s.low (mask_of b) fits.low_fits (mask_fits b) l in
      rw (lt-ltb value s.low (omega (arith, mask_fits b)), zeroed) (past b near (omega arith) (λ r. omega (arith, beyond r l))))

  -- half the floor's step lies inside wherever it begins
  chosen-half : Chosen reading s n (ending_at s (n + 1) (val_of s.low (mask_of n / 2)))
  chosen-half =
      let exponent : suc (24 - (n + 1)) ≡ 24 - n = omega arith in
      let halves : 2 ^ (24 - n) ≡ 2 ^ (24 - (n + 1)) + 2 ^ (24 - (n + 1)) = rw exponent at (two-pow-succ (24 - (n + 1))) in
      let step = mask_step (n + 1) (omega arith) in
      rw (mask-half n)
      (chosen_at (n + 1) (omega arith) (λ l. omega (arith, rounded s.low (mask_of (n + 1)) l)) (λ r l. omega arith))

  -- the floor's step itself: the test says that it lies inside, or 0x1000000 stands between it and the interval's end
  chosen_by : 24 - floor_log2 s.range ≡ n → Chosen reading s n (ending reading s)
  chosen_by is =
      let mask = mask_of n in
      let step = mask_step n (omega arith) in
      let over1 = (s.low + mask) / 0x1000000 in
      let high = s.low + s.range in
      let over2 = high / 0x1000000 in
      let value = val_of s.low mask in
      rw is
      (by-test (eqb over1 over2)
      (λ e. by-test (leb (high_in reading high) (value + mask))
      (λ f. rw (e, f) chosen-half)
      (λ f.
      let same = eqb-true over1 over2 e in
      let over = leb-false (high_in reading high) (value + mask) f in
      let masked : reading ≡ 1 → high_in reading high ≡ high % 0x1000000 = λ r. rw r refl in
      rw (e, f)
      (chosen_at n (omega arith)
      (λ l. omega (arith, high-whole high (omega arith) (eqb reading 0)))
      (λ r l. omega (arith, masked r, rounded-past s.low mask fits.low_fits (mask_fits n) l)))))
      (λ e.
      let other = eqb-false over1 over2 e in
      let around = rounded s.low mask (omega arith) in
      let room = rounded-room s.low mask (2 ^ n) (rw step (step-whole n (omega arith))) in
      rw e
      (plain n ((s.low + mask) % 0x1000000 / (mask + 1)) (mask + 1) (omega arith) step around.0 (rounded-fits s.low mask) (omega arith))))

-- what either reading chooses
chosen : (reading : ℕ) (s : EncoderState) → Sound s → Chosen reading s (24 - floor_log2 s.range) (ending reading s)
chosen reading s sound =
    let limits = log-range s.range sound.range-least sound.fits.range-fits in
    let log = log-law s.range (omega arith) (omega arith) in
    let back : 24 - (24 - floor_log2 s.range) ≡ floor_log2 s.range = omega arith in
    chosen_by reading s (24 - floor_log2 s.range) sound.fits (omega arith) (omega arith) (rw back log.low) refl

module _ (s : EncoderState) (sound : Sound s) where
  logs : (16 ≤ floor_log2 s.range) × (floor_log2 s.range ≤ 23)
  logs = log-range s.range sound.range-least sound.fits.range-fits

  chosen-ended : {reading : ℕ} {e : Ending} → Chosen reading s (24 - floor_log2 s.range) e → Ended s e
  chosen-ended (plain b times q near step low fits room) =
      record {
        bits-least = omega (arith, near.least);
        bits_most = omega (arith, near.most, logs);
        times = times;
        step = ap (λ (k : ℕ). times * k) step;
        value-fits = fits;
        carry-most = sound.fits.carry-most;
      }
  chosen-ended (past b near high room) =
      record {
        bits-least = omega (arith, near.least);
        bits_most = omega (arith, near.most, logs);
        times = 0;
        step = sym (zero-mul (2 ^ (24 - b)));
        value-fits = omega arith;
        carry-most = omega arith;
      }

  chosen-exact : {e : Ending} → Chosen 1 s (24 - floor_log2 s.range) e → Exact s e
  chosen-exact (plain b times q near step low fits room) =
      record { up = times * q; carried = refl; low-most = low; inside = rw (← step) room }
  chosen-exact (past b near high room) =
      record { up = 0x1000000; carried = omega arith; low-most = omega arith; inside = room refl }

  chosen-carries : {reading : ℕ} {e : Ending} → Chosen reading s (24 - floor_log2 s.range) e → Carries (closing s e)
  chosen-carries (plain b times q near step low fits room) =
      rw (← step) (record { once = omega arith; kept = omega arith; first = λ z. omega (arith, sound.carries.first z) })
  chosen-carries (past b near high room) =
      let short : 2 ^ (24 - b) ≤ 2 ^ 23 = pow_mono {i = 24 - b} {j = 23} (omega (arith, near.some)) in
      record { once = omega arith; kept = omega arith; first = λ z. absurd (omega (arith, sound.carries.first z)) }

-- 24 bits less the floor, or one more; and a value that ends with the last of them
pub ending-ended : (reading : ℕ) (s : EncoderState) → Sound s → Ended s (ending reading s)
ending-ended reading s sound = chosen-ended s sound (chosen reading s sound)

-- the standard's reading: a whole step of the last bit, from the exact value on, lies inside the interval
pub ending-exact : (s : EncoderState) → Sound s → Exact s (ending 1 s)
ending-exact s sound = chosen-exact s sound (chosen 1 s sound)

-- the state that is sent still bounds what it carries
pub ending-carries : (reading : ℕ) (s : EncoderState) → Sound s → Carries (closing s (ending reading s))
ending-carries reading s sound = chosen-carries s sound (chosen reading s sound)

ended-fits : (s : EncoderState) (e : Ending) → Sound s → Ended s e → (Fits (ended s e)) × (Fits (closing s e))
ended-fits s e sound ends =
    let limits = log-range s.range sound.range-least sound.fits.range-fits in
    let short : 2 ^ (24 - e.bits) ≤ 2 ^ 23 = pow_mono {i = 24 - e.bits} {j = 23} (omega arith) in
    (omega arith, omega arith)

-- the state that is sent fits its places
pub ending-fits : (reading : ℕ) (s : EncoderState) → Sound s → (Fits (ended s (ending reading s))) × (Fits (closing s (ending reading s)))
ending-fits reading s sound = ended-fits s (ending reading s) sound (ending-ended reading s sound)
