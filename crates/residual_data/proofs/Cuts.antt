-- The place in line order from which lowest bits are lacking: the line whose late bits do not all find room, the first such.
-- Assumes nothing.
use Rattle.std.proofs.Common.{◌≡◌, ℕ, zero, suc, ◌+◌, ◌-◌, ◌*◌, ◌/◌, ◌<◌, ◌≤◌, true, false, eqb, ltb, leb, List, ◌∷◌, ◌++◌, length, get_or, take, drop, ℤ, pos, refl, ap, ◌∙◌, append_assoc, arith, drop_of_length-le, drop-cons, le-ltb, lt-ltb, leb-false, leb-true}
use lib.Seq.{drop-append-le, take-append-add, drop-append-add, drop-nil}
use Rattle.common.proofs.Bools.{by-test}
use Rattle.contexts.specs.Lines.{line_at, magnitude_at, escapes_at}
use Rattle.sending.specs.Sending.{Bit}
use Rattle.residual_data.specs.Sent.{late_at, late_pairs, early_lines, first_line, cut_line, back_line, back_lines}

-- the front of two lists, and what is behind it, where the first has room and where it has not
pub take_whole : (room : ℕ) (xs ys : List Bit) → length xs ≤ room → take room (xs ++ ys) ≡ xs ++ take (room - length xs) ys
take_whole room xs ys h =
    let e : room ≡ length xs + (room - length xs) = omega arith in
    ap (λ (n : ℕ). take n (xs ++ ys)) e ∙ take-append-add xs ys (room - length xs)

drop-whole : (room : ℕ) (xs ys : List Bit) → length xs ≤ room → drop room (xs ++ ys) ≡ drop (room - length xs) ys
drop-whole room xs ys h =
    let e : room ≡ length xs + (room - length xs) = omega arith in
    ap (λ (n : ℕ). drop n (xs ++ ys)) e ∙ drop-append-add xs ys (room - length xs)

-- the late bits of a line are its own
line_first : (lines : List ℤ) (k other room : ℕ) (rest : List Bit) → room < length (late_at lines k) → first_line other (drop room (late_at lines k) ++ rest) ≡ k
line_first lines k other zero rest h = refl
line_first lines k other (suc zero) rest h = by-test (eqb (magnitude_at lines k) 1) (λ e. rw e refl) (λ e. absurd (omega (arith, rw e at h)))
line_first lines k other (suc (suc room)) rest h =
    by-test (eqb (magnitude_at lines k) 1) (λ e. absurd (omega (arith, rw e at h))) (λ e. absurd (omega (arith, rw e at h)))

module _ (lines : List ℤ) (p n room : ℕ) where
  abbrev a : List Bit
  a = late_at lines (2 * p)

  abbrev b : List Bit
  b = late_at lines (2 * p + 1)

  abbrev later : List Bit
  later = late_pairs lines (p + 1) n

  end : 2 * (p + suc n) ≡ 2 * (p + 1 + n)
  end = omega arith

  -- one pair more: its late bits, and those of the others
  module _ (e : ltb 0 (escapes_at lines p) ≡ true) where
    pub pair-more : late_pairs lines p (suc n) ≡ a ++ (b ++ later)
    unfolding late_pairs
    pair-more = rw e (append_assoc a b later)

    pub cut-first : room < length a → cut_line lines p (suc n) room ≡ 2 * p
    cut-first h = rw (pair-more, drop-append-le room a (b ++ later) (omega arith)) (line_first lines (2 * p) (2 * (p + suc n)) room (b ++ later) h)

    module _ (h : length a ≤ room) where
      pub cut-second : room - length a < length b → cut_line lines p (suc n) room ≡ 2 * p + 1
      cut-second l = rw (pair-more, drop-whole room a (b ++ later) h, drop-append-le (room - length a) b later (omega arith)) (line_first lines (2 * p + 1) (2 * (p + suc n)) (room - length a) later l)

      pub cut_later : length b ≤ room - length a → cut_line lines p (suc n) room ≡ cut_line lines (p + 1) n (room - length a - length b)
      cut_later l = rw (pair-more, drop-whole room a (b ++ later) h, drop-whole (room - length a) b later l, end) refl

  -- a pair that is not escaped has none
  module _ (e : ltb 0 (escapes_at lines p) ≡ false) where
    pub pair-kept : late_pairs lines p (suc n) ≡ later
    unfolding late_pairs
    pair-kept = rw e refl

    pub cut-kept : cut_line lines p (suc n) room ≡ cut_line lines (p + 1) n room
    cut-kept = rw (pair-kept, end) refl

  -- a pair by its cases: not escaped, or room for the late bits of neither line, of the first alone, or of both
  pub by-room : {C : Type 0} → (ltb 0 (escapes_at lines p) ≡ false → C) → (ltb 0 (escapes_at lines p) ≡ true → room < length a → C) → (ltb 0 (escapes_at lines p) ≡ true → length a ≤ room → room - length a < length b → C) → (ltb 0 (escapes_at lines p) ≡ true → length a ≤ room → length b ≤ room - length a → C) → C
  by-room kept first second both =
      by-test (ltb 0 (escapes_at lines p))
      (λ e. by-test (leb (length a) room)
      (λ l. by-test (leb (length b) (room - length a)) (λ m. both e (leb-true (length a) room l) (leb-true (length b) (room - length a) m)) (λ m. second e (leb-true (length a) room l) (leb-false (length b) (room - length a) m)))
      (λ l. first e (leb-false (length a) room l)))
      kept

-- it is one of the lines from the first on
pub cut-least : (lines : List ℤ) (p n room : ℕ) → 2 * p ≤ cut_line lines p n room
unfolding late_pairs
cut-least lines p zero room = rw (drop-nil {A = Bit} room) (omega arith)
cut-least lines p (suc n) room =
    by-test (ltb 0 (escapes_at lines p))
    (λ e. by-test (leb (length (late_at lines (2 * p))) room)
    (λ l. let h = leb-true (length (late_at lines (2 * p))) room l in
    by-test (leb (length (late_at lines (2 * p + 1))) (room - length (late_at lines (2 * p))))
    (λ m. omega (arith, cut_later lines p n room e h (leb-true (length (late_at lines (2 * p + 1))) (room - length (late_at lines (2 * p))) m), cut-least lines (p + 1) n (room - length (late_at lines (2 * p)) - length (late_at lines (2 * p + 1)))))
    (λ m. omega (arith, cut-second lines p n room e h (leb-false (length (late_at lines (2 * p + 1))) (room - length (late_at lines (2 * p))) m))))
    (λ l. omega (arith, cut-first lines p n room e (leb-false (length (late_at lines (2 * p))) room l))))
    (λ e. omega (arith, cut-kept lines p n room e, cut-least lines (p + 1) n room))

-- where all late bits have room it is the line behind all
pub cut-none : (lines : List ℤ) (p n room : ℕ) → length (late_pairs lines p n) ≤ room → cut_line lines p n room ≡ 2 * (p + n)
cut-none lines p n room h = rw (drop_of_length-le (late_pairs lines p n) h) refl

-- from it on lines are as before what comes late
pub back_early : (lines : List ℤ) (cut p n : ℕ) → cut ≤ 2 * p → back_lines lines cut p n ≡ early_lines lines p n
unfolding back_lines early_lines
back_early lines cut p zero h = refl
back_early lines cut p (suc n) h =
    rw (le-ltb (2 * p) cut (omega arith), le-ltb (2 * p + 1) cut (omega arith), back_early lines cut (p + 1) n (omega arith)) refl

-- line k of them
pub back_at : (lines : List ℤ) (cut p n k : ℕ) → k < 2 * n → get_or (back_lines lines cut p n) k (pos 0) ≡ back_line lines cut (p + k / 2) (2 * p + k)
unfolding back_lines
back_at lines cut p zero k h = absurd (omega arith)
back_at lines cut p (suc n) zero h = let e : p + 0 / 2 ≡ p = omega arith in let i : 2 * p + 0 ≡ 2 * p = omega arith in rw (e, i) refl
back_at lines cut p (suc n) (suc zero) h = let e : p + 1 / 2 ≡ p = omega arith in rw e refl
back_at lines cut p (suc n) (suc (suc k)) h =
    let e : p + suc (suc k) / 2 ≡ p + 1 + k / 2 = omega arith in
    let i : 2 * p + suc (suc k) ≡ 2 * (p + 1) + k = omega arith in
    rw (e, i) (back_at lines cut (p + 1) n k (omega arith))

-- before it all are whole
pub back_whole : (lines : List ℤ) (cut p n : ℕ) → 2 * (p + n) ≤ cut → 2 * (p + n) ≤ length lines → back_lines lines cut p n ≡ take (2 * n) (drop (2 * p) lines)
unfolding back_lines
back_whole lines cut p zero h enough = refl
back_whole lines cut p (suc n) h enough =
    let next : suc (2 * p) ≡ 2 * p + 1 = omega arith in
    let last : suc (2 * p + 1) ≡ 2 * (p + 1) = omega arith in
    let more : 2 * suc n ≡ suc (suc (2 * n)) = omega arith in
    let two : drop (2 * p) lines ≡ line_at lines (2 * p) ∷ line_at lines (2 * p + 1) ∷ drop (2 * (p + 1)) lines =
    drop-cons lines (2 * p) (pos 0) (omega arith) ∙ rw (next, drop-cons lines (2 * p + 1) (pos 0) (omega arith), last) refl in
    rw (lt-ltb (2 * p) cut (omega arith), lt-ltb (2 * p + 1) cut (omega arith), back_whole lines cut (p + 1) n (omega arith) (omega arith), two, more) refl
