-- Frames that begin with given own bits: whole bytes, and the top bits of one more. Each byte behind is a digit below 256, so cutting
-- the number of any more bytes back to those bits leaves theirs. Assumes nothing.
use Prim.Native.Nat.{ℕ, zero, suc, ◌+◌, ◌-◌, ◌*◌, ◌/◌, ◌^◌, ◌≤◌, ◌<◌}
use mathlib.Core.Path.{◌≡◌, refl, sym, ap, ◌∙◌}
use mathlib.Core.List.{List, [], ◌∷◌, ◌++◌}
use native.Mathlib.Omega.{arith}
use native.Mathlib.Nat.{add-zero, zero-add, mul_assoc, mul-add-div_right, mod-lt}
use lib.Arith.{digits_div}
use lib.ListN.{length, get_or, take, drop, length-append, get_or-append}
use lib.Seq.{sets, sets-eq, length-sets, length-take-le, get_or-append-add, get_or-set_same, get_or-set_other}
use lib.Pow.{pow_pos, pow-add, shr-shr}
use Rattle.buffer_reader.specs.Tail.{Bytes}
use Rattle.range_encoder.specs.Finish.{with_own}
use Rattle.range_encoder.specs.Digits.{number_from, number, head_number}
use Rattle.range_encoder.specs.Theory.{own_number, Continues}
use Rattle.buffer_writer.specs.Writes.{with_top}
use Rattle.range_encoder.proofs.Numbers.{head-none, head_more}

-- bytes that a frame has from a place on are the next digits of its number
pub head-from : (f : List ℕ) (h n : ℕ) (bytes : List ℕ) → ((j : ℕ) → j < length bytes → get_or f (h + (n + j)) 0 ≡ get_or bytes j 0) → head_number f h (n + length bytes) ≡ number_from (head_number f h n) bytes
unfolding number_from
head-from f h n [] same = rw (add-zero n) refl
head-from f h n (b ∷ bs) same =
    let at : n + length (b ∷ bs) ≡ n + 1 + length bs = omega arith in
    let first : get_or f (h + n) 0 ≡ b = rw (add-zero n) at (same 0 (omega arith)) in
    let rest : head_number f h (n + 1 + length bs) ≡ number_from (head_number f h (n + 1)) bs =
    head-from f h (n + 1) bs (λ j l. let e : n + 1 + j ≡ n + suc j = omega arith in rw e (same (suc j) (omega arith))) in
    rw (at, rest, head_more f h n, first) refl

-- a frame that has given bytes from place h on has their number there
pub head_bytes : (f : List ℕ) (h : ℕ) (bytes : List ℕ) → ((j : ℕ) → j < length bytes → get_or f (h + j) 0 ≡ get_or bytes j 0) → head_number f h (length bytes) ≡ number bytes
head_bytes f h bytes same =
    rw (zero-add, head-none) at (head-from f h 0 bytes (λ j l. rw (zero-add j) (same j l)))

-- d bytes more, cut away again
pub head-cut : (f : List ℕ) (h n d : ℕ) → Bytes f → head_number f h (n + d) / 2 ^ (8 * d) ≡ head_number f h n
head-cut f h n zero bytes = rw (add-zero n) (omega arith)
head-cut f h n (suc d) bytes =
    let at : n + suc d ≡ n + d + 1 = omega arith in
    let width : 8 * suc d ≡ 8 + 8 * d = omega arith in
    let byte : head_number f h (n + d + 1) / 2 ^ 8 ≡ head_number f h (n + d) = omega (arith, head_more f h (n + d), bytes (h + (n + d))) in
    rw (at, width, ← shr-shr (head_number f h (n + d + 1)) 8 (8 * d), byte) (head-cut f h n d bytes)

-- a byte behind a number, cut to its top bits
top-bits : (n byte bits : ℕ) → bits ≤ 8 → (n * 256 + byte) / 2 ^ (8 - bits) ≡ n * 2 ^ bits + byte / 2 ^ (8 - bits)
top-bits n byte bits most =
    let e : bits + (8 - bits) ≡ 8 = omega arith in
    let split : n * 256 ≡ n * 2 ^ bits * 2 ^ (8 - bits) =
    ap (λ (k : ℕ). n * 2 ^ k) (sym e) ∙ rw (pow-add 2 bits (8 - bits), mul_assoc) refl in
    rw (split, mul-add-div_right (pow_pos (8 - bits))) refl

-- the number of its first m bytes, cut to those bits, is theirs, whatever stands behind
pub continues-number : (f : List ℕ) (h : ℕ) (bytes : List ℕ) (last bits m : ℕ) → Bytes f → 1 ≤ bits → bits ≤ 8 → Continues f h bytes last bits → length bytes + 1 ≤ m → head_number f h m / 2 ^ (8 * m - (8 * length bytes + bits)) ≡ own_number bytes last bits
continues-number f h bytes last bits m all some most c room =
    let d : ℕ = m - (length bytes + 1) in
    let at : m ≡ length bytes + 1 + d = omega arith in
    let width : 8 * m - (8 * length bytes + bits) ≡ 8 * d + (8 - bits) = omega arith in
    let cut : head_number f h m / 2 ^ (8 * d) ≡ head_number f h (length bytes + 1) =
    ap (λ (k : ℕ). head_number f h k / 2 ^ (8 * d)) at ∙ head-cut f h (length bytes + 1) d all in
    rw (width, ← shr-shr (head_number f h m) (8 * d) (8 - bits), cut, head_more f h (length bytes), head_bytes f h bytes c.same, top-bits (number bytes) (get_or f (h + length bytes) 0) bits most, c.top) refl

-- a byte that was laid is the list's
laid-byte : (f : List ℕ) (at : ℕ) (bytes : List ℕ) (j : ℕ) → at + length bytes ≤ length f → j < length bytes → get_or (sets f at bytes) (at + j) 0 ≡ get_or bytes j 0
laid-byte f at bytes j room l =
    let front : length (take at f) ≡ at = length-take-le at f (omega arith) in
    let place : at + j ≡ length (take at f) + j = omega arith in
    ap (λ (l : List ℕ). get_or l (at + j) 0) (sets-eq bytes f at room) ∙
    ap (λ (k : ℕ). get_or (take at f ++ bytes ++ drop (at + length bytes) f) k 0) place ∙
    get_or-append (take at f ++ bytes) (drop (at + length bytes) f) 0 (length (take at f) + j) (simp length-append (omega arith)) ∙
    get_or-append-add (take at f) bytes j 0

-- a buffer that own bits were laid into begins with them, whatever it held
pub laid-continues : (f : List ℕ) (at : ℕ) (bytes : List ℕ) (last bits : ℕ) → at + length bytes < length f → Continues (with_own f at bytes last bits) at bytes last bits
laid-continues f at bytes last bits room =
    let end : ℕ = at + length bytes in
    let size : length (sets f at bytes) ≡ length f = length-sets f at bytes in
    let old : ℕ = get_or (sets f at bytes) end 0 in
    record {
      same = λ j l. get_or-set_other (sets f at bytes) end (at + j) (with_top old last bits) 0 (λ e. absurd (omega arith)) ∙ laid-byte f at bytes j (omega arith) l;
      top =
          ap (λ (b : ℕ). b / 2 ^ (8 - bits)) (get_or-set_same (sets f at bytes) end (with_top old last bits) 0 (omega arith)) ∙
          digits_div (last / 2 ^ (8 - bits)) (mod-lt old (pow_pos (8 - bits)));
    }
