-- How large the numbers of a pair are: fewer than 2^n from n low bits, at most 32,767 before the fourteenth escape, at most 81,919
-- behind it. And a magnitude with its sign, as the machine works it out in 32 bits. Assumes nothing.
use Prim.Native.Nat.{ℕ, zero, suc, ◌+◌, ◌*◌, ◌%◌, ◌^◌, ◌≤◌, ◌<◌}
use mathlib.Core.Path.{◌≡◌, refl, ap, ◌∙◌}
use mathlib.Core.Bool.{Bool, true, false, cond}
use mathlib.Core.Logic.{⊎_elim}
use native.Mathlib.Omega.{arith}
use native.Mathlib.Nat.{mul-le-mul, pow-le-pow_right, pow-suc, zero-mul}
use native.Mathlib.Numerals.{add-one}
use lib.IntN.{ℤ, pos, neg_ℤ, nat_abs, ◌-ℤ◌, +ℤ_idl}
use mir.Syntax.{w32}
use mir.Val.{SFits, to_z, of_z}
use mir.ValLaws.{to_z_pos, to_z-of_z}
use Rattle.contexts.specs.Contexts.{first_part, second_part, next_context}
use Rattle.contexts.proofs.Escapes.{parts_low}
use Rattle.contexts.proofs.Lookups.{context-most}
use Rattle.common.specs.Reply.{Answer, accepted}
use Rattle.buffer_reader.specs.declared.Cursor.{Cursor}
use Rattle.range_decoder.specs.declared.DecoderState.{DecoderState}
use Rattle.coding.specs.Coding.{Coded}
use Rattle.spectral_data.specs.Spectral.{Levels, Pair}
use Rattle.spectral_data.specs.Private.{Bounded}

pub power-most : (level most : ℕ) → level ≤ most → 2 ^ level ≤ 2 ^ most
power-most level most h = pow-le-pow_right {n = 2} (omega arith) h

-- a part of at most 4 at a level of at most 14
pub raised-most : (part level : ℕ) → part ≤ 4 → level ≤ 14 → part * 2 ^ level ≤ 65536
raised-most part level p l =
    let m : part * 2 ^ level ≤ 4 * 2 ^ 14 = mul-le-mul p (power-most level 14 l) in
    omega arith

pub raised-exact : (part level : ℕ) → part ≤ 4 → level ≤ 14 → (part * 2 ^ level) % 4294967296 ≡ part * 2 ^ level
raised-exact part level p l = omega (arith, raised-most part level p l)

-- one low bit more
pub low-more : (level a x : ℕ) → a < 2 ^ level → x ≤ 1 → a + x * 2 ^ level < 2 ^ (level + 1)
low-more level a x h q =
    let two : 2 ^ (level + 1) ≡ 2 ^ level * 2 = rw (add-one level, pow-suc) refl in
    let m : x * 2 ^ level ≤ 1 * 2 ^ level = mul-le-mul q (omega arith) in
    omega arith

-- the low bits of at most 14 levels
pub low-most : (level a : ℕ) → a < 2 ^ level → level ≤ 14 → a < 16384
low-most level a h l =
    let m : 2 ^ level ≤ 2 ^ 14 = power-most level 14 l in
    omega arith

module _ (low level part : ℕ) (small : low < 2 ^ level) where
  -- behind fewer than fourteen escapes a part is below 4
  pub before-fourteenth : level < 14 → part ≤ 3 → low + part * 2 ^ level ≤ 32767
  before-fourteenth l p =
      let pow : 2 ^ level ≤ 2 ^ 13 = power-most level 13 (omega arith) in
      let m : part * 2 ^ level ≤ 3 * 2 ^ 13 = mul-le-mul p pow in
      omega arith

  -- behind the fourteenth it is 0 or 4
  pub behind-none : level ≤ 14 → part ≡ 0 → low + part * 2 ^ level ≤ 32767
  behind-none l e =
      let m : part * 2 ^ level ≡ 0 = rw e (zero-mul (2 ^ level)) in
      omega (arith, low-most level low small l)

  pub behind-four : level ≤ 14 → part ≤ 4 → low + part * 2 ^ level ≤ 81919
  behind-four l p = omega (arith, low-most level low small l, raised-most part level p l)

module _ (l : Levels) (b : Bounded l) where
  pub first-most : l.low_first + first_part l.last * 2 ^ l.escapes ≤ 32767
  first-most =
      ⊎_elim
      (λ before. before-fourteenth l.low_first l.escapes (first_part l.last) b.first_low before.0 (omega arith))
      (λ full. behind-none l.low_first l.escapes (first_part l.last) b.first_low b.few (rw full.1 refl))
      b.ended

  pub second-most : l.low_second + second_part l.last * 2 ^ l.escapes ≤ 81919
  second-most =
      behind-four l.low_second l.escapes (second_part l.last) b.second_low b.few (omega (arith, b.symbol_most))

  pub second-few : l.escapes < 14 → l.low_second + second_part l.last * 2 ^ l.escapes ≤ 32767
  second-few h =
      ⊎_elim
      (λ before. before-fourteenth l.low_second l.escapes (second_part l.last) b.second_low h (omega (arith, before.1)))
      (λ full. absurd (omega (arith, full.0)))
      b.ended

-- ---- signs

-- a line has the magnitude that it was made of
pub signed-size : (minus : Bool) (n : ℕ) → nat_abs (cond minus (neg_ℤ (pos n)) (pos n)) ≡ n
signed-size true zero = refl
signed-size true (suc n) = refl
signed-size false n = refl

module _ (n : ℕ) (small : n ≤ 81919) where
  negated : pos 0 -ℤ to_z w32 n ≡ neg_ℤ (pos n)
  negated = ap (λ (z : ℤ). pos 0 -ℤ z) (to_z_pos w32 n (omega arith)) ∙ +ℤ_idl (neg_ℤ (pos n))

  negative_fits : (m : ℕ) → m ≤ 81919 → SFits w32 (neg_ℤ (pos m))
  negative_fits zero h = record { sfits = omega arith }
  negative_fits (suc m) h = record { sfits = omega arith }

  pub negated_fits : SFits w32 (pos 0 -ℤ to_z w32 n)
  negated_fits = rw negated (negative_fits n small)

  pub minus-line : to_z w32 (of_z w32 (pos 0 -ℤ to_z w32 n)) ≡ neg_ℤ (pos n)
  minus-line = to_z-of_z w32 (pos 0 -ℤ to_z w32 n) negated_fits ∙ negated

  pub plus-line : to_z w32 n ≡ pos n
  plus-line = to_z_pos w32 n (omega arith)

  line-fits : (minus : Bool) → SFits w32 (cond minus (neg_ℤ (pos n)) (pos n))
  line-fits true = negative_fits n small
  line-fits false = record { sfits = omega arith }

  -- a line that is handed on
  pub line_kept : (minus : Bool) (z : ℤ) → z ≡ cond minus (neg_ℤ (pos n)) (pos n) → to_z w32 (of_z w32 z) ≡ cond minus (neg_ℤ (pos n)) (pos n)
  line_kept minus z e =
      ap (λ (y : ℤ). to_z w32 (of_z w32 y)) e ∙ to_z-of_z w32 (cond minus (neg_ℤ (pos n)) (pos n)) (line-fits minus)

-- two lines that are handed on
pub pair_same : {escapes last : ℕ} {s : DecoderState} {c : Cursor} (x y : ℤ) → SFits w32 x → SFits w32 y →
    ◌≡◌ {A = Answer (Coded Pair × Cursor)}
    (accepted (record { value = record { escapes = escapes; last = last; first = to_z w32 (of_z w32 x); second = to_z w32 (of_z w32 y) }; state = s }, c))
    (accepted (record { value = record { escapes = escapes; last = last; first = x; second = y }; state = s }, c))
pair_same {escapes = e} {last = l} {s = s} {c = c} x y p q =
    ap (λ (z : ℤ). accepted (record { value = record { escapes = e; last = l; first = z; second = to_z w32 (of_z w32 y) }; state = s }, c)) (to_z-of_z w32 x p)
    ∙ ap (λ (z : ℤ). accepted (record { value = record { escapes = e; last = l; first = x; second = z }; state = s }, c)) (to_z-of_z w32 y q)

-- ---- contexts

-- every context behind a pair is at most 255
pub context-low : (c symbol level : ℕ) → symbol ≤ 16 → next_context c (first_part symbol) (second_part symbol) level ≤ 255
context-low c symbol level h = context-most c (first_part symbol) (second_part symbol) level (parts_low symbol h)
