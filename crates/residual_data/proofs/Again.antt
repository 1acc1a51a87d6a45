-- What came late is sent again: the residual list as it is; and of lines as many bits as were read, for a line that took its bits sends as
-- many, a 1 without room for its sign being a 0 then, and a line without room is even. Assumes nothing.
use Rattle.std.proofs.Common.{◌≡◌, ℕ, zero, suc, ◌+◌, ◌-◌, ◌*◌, ◌/◌, ◌%◌, ◌<◌, ◌≤◌, min, Bool, true, false, cond, eqb, ltb, List, ◌∷◌, ◌++◌, map, length, get_or, take, drop, replicate, ℤ, pos, negsuc, neg_ℤ, nat_abs, sym, refl, ap, ◌∙◌, subst, append-nil, add-zero, mod-eq_of_lt, arith, get_or-drop, take_all, drop-drop, eqb-true}
use borrow.Author.Tests.{eqb-false}
use lib.Seq.{take-nil}
use Rattle.common.proofs.Bools.{by-test}
use Rattle.buffer_reader.specs.Tail.{tail_bit}
use Rattle.buffer_reader.proofs.Tails.{bit-lt}
use Rattle.contexts.specs.Lines.{line_at, escapes_at, evened}
use Rattle.sending.specs.Sending.{Bit}
use Rattle.residual_data.specs.Residual.{bits_from, nonzero, residual_list, Late, larger, late_line, late_from, escaped_by}
use Rattle.residual_data.specs.Sent.{late_at, late_pairs, early_lines, cut_line, back_lines}
use Rattle.residual_data.specs.Private.{held}
use Rattle.residual_data.proofs.Cuts.{by-room}
use Rattle.residual_data.proofs.Lates.{line_low, line-more, line-short, line-signed, larger-size}
use Rattle.residual_data.proofs.Residuals.{residual-length}
use Rattle.residual_data.proofs.Puts.{late-alone, late-signed}
use Rattle.residual_data.proofs.Back.{late_all, same-late, Comes, start, start-kept, comes-kept, comes-first, comes-second, comes-later, written-escaped}

-- outside least-bit mode
bits-again : (f : List ℕ) (tail n : ℕ) → map (λ (b : ℕ). b % 2) (bits_from f tail n) ≡ bits_from f tail n
unfolding bits_from
bits-again f tail zero = refl
bits-again f tail (suc n) = rw (mod-eq_of_lt (bit-lt f tail), bits-again f (tail + 1) n) refl

pub residual-again : (f : List ℕ) (tail room : ℕ) (lines : List ℤ) →
    let bits = residual_list f tail room lines in
    map (λ (b : ℕ). b % 2) (take room bits) ++ replicate (min room (nonzero lines) - min room (length bits)) 0 ≡ bits
residual-again f tail room lines =
    let bits = residual_list f tail room lines in
    let size = residual-length f tail room lines in
    let none : min room (nonzero lines) - min room (length bits) ≡ 0 = omega (arith, size) in
    rw (take_all room bits (omega (arith, size)), none, bits-again f tail (min room (nonzero lines))) (append-nil bits)

-- in it
negated_size : (n : ℕ) → nat_abs (neg_ℤ (pos n)) ≡ n
negated_size zero = refl
negated_size (suc n) = refl

evened-low : (x : ℤ) → nat_abs (evened x) % 2 ≡ 0
evened-low (pos m) = omega arith
evened-low (negsuc m) = omega (arith, negated_size ((m + 1) / 2 * 2))

-- a line that came, by its late bits: all of them were read, or there was no room
module _ (f : List ℕ) (lines : List ℤ) (k tail room : ℕ) where
  abbrev early : ℤ
  early = evened (line_at lines k)

  abbrev bits : List Bit
  bits = late_at lines k

  module _ (came : line_at lines k ≡ (late_line f early tail room).line) where
    abbrev Read : Type 0
    Read = (length bits ≤ room) × (late_line f early tail room ≡ held (line_at lines k) (tail + length bits) (room - length bits))

    -- what it came to, where that is a magnitude 1 and where it is not
    module _ (z : ℤ) (some : room ≡ 0 → ⊥) where
      alone : late_line f early tail room ≡ held z (tail + 1) (room - 1) → (nat_abs z ≡ 1 → ⊥) → Read
      alone e other =
          let is : line_at lines k ≡ z = came ∙ ap (λ l. l.line) e in
          let size : length bits ≡ 1 = ap length (late-alone lines k (nat_abs z) (ap nat_abs (sym is)) other) in
          (omega (arith, some), e ∙ rw (size, is) refl)

      signed : 1 < room → late_line f early tail room ≡ held z (tail + 2) (room - 2) → nat_abs z ≡ 1 → Read
      signed two e one =
          let is : line_at lines k ≡ z = came ∙ ap (λ l. l.line) e in
          let size : length bits ≡ 2 = ap length (late-signed lines k (nat_abs z) (ap nat_abs (sym is)) one) in
          (omega (arith, two), e ∙ rw (size, is) refl)

    one_size : (b : Bool) → nat_abs (cond b (negsuc 0) (pos 1)) ≡ 1
    one_size true = refl
    one_size false = refl

    read : (room ≡ 0 → ⊥) → Read
    read some =
        let even = evened-low (line_at lines k) in
        by-test (eqb (tail_bit f tail) 0)
        (λ b. alone early some (sym (line_low f early tail room some (eqb-true (tail_bit f tail) 0 b))) (λ o. omega (arith, even, o)))
        (λ b. let set = eqb-false (tail_bit f tail) 0 b in
        by-test (eqb (nat_abs early) 0)
        (λ z. by-test (eqb room 1)
        (λ o. let one = eqb-true room 1 o in
        let left : 0 ≡ room - 1 = omega arith in
        alone early some (sym (line-short f early tail room some set z one) ∙ ap (held early (tail + 1)) left) (λ o. omega (arith, even, o)))
        (λ o. let more = eqb-false room 1 o in
        let sign = eqb (tail_bit f (tail + 1)) 1 in
        signed (cond sign (negsuc 0) (pos 1)) some (omega (arith, some, more)) (sym (line-signed f early tail room some set z more)) (one_size sign)))
        (λ z. alone (larger early) some (sym (line-more f early tail room some set z)) (λ o. omega (arith, larger-size early, eqb-false (nat_abs early) 0 z, o))))

    came-whole : length bits ≤ room → late_line f early tail room ≡ held (line_at lines k) (tail + length bits) (room - length bits)
    came-whole enough = (read (λ z. omega (arith, enough, z))).1

    came-cut : room < length bits → late_line f early tail room ≡ held early (tail + room) 0
    came-cut less =
        by-test (eqb room 0)
        (λ e. let z = eqb-true room 0 e in rw (z, add-zero tail) refl)
        (λ e. absurd (omega (arith, less, (read (eqb-false room 0 e)).0)))

-- the two lines of pair p, and those behind them
pair-apart : (lines : List ℤ) (p : ℕ) (u v : ℤ) (r : List ℤ) → drop (2 * p) lines ≡ u ∷ v ∷ r → (line_at lines (2 * p) ≡ u) × (line_at lines (2 * p + 1) ≡ v) × (drop (2 * (p + 1)) lines ≡ r)
pair-apart lines p u v r e =
    let here : 2 * p + 0 ≡ 2 * p = omega arith in
    let next : 2 * p + 2 ≡ 2 * (p + 1) = omega arith in (
      sym (ap (line_at lines) here) ∙ sym (get_or-drop (2 * p) lines 0 (pos 0)) ∙ ap (λ (l : List ℤ). line_at l 0) e,
      sym (get_or-drop (2 * p) lines 1 (pos 0)) ∙ ap (λ (l : List ℤ). line_at l 1) e,
      sym (ap (λ (n : ℕ). drop n lines) next) ∙ sym (drop-drop 2 (2 * p) lines) ∙ ap (λ (l : List ℤ). drop 2 l) e,
    )

module _ (f : List ℕ) (lines : List ℤ) (escaped : ℕ → Bool) where
  -- the lines from pair p on begin with those that came
  abbrev Came : List ℤ → ℕ → ℕ → ℕ → ℕ → Type 0
  Came others p n tail room = drop (2 * p) lines ≡ (late_from f escaped p (early_lines lines p n) tail room).lines ++ others

  module _ (others : List ℤ) (p n tail room : ℕ) (same : escaped p ≡ ltb 0 (escapes_at lines p)) (came : Came others p (suc n) tail room) where
    abbrev x : ℤ
    x = line_at lines (2 * p)

    abbrev y : ℤ
    y = line_at lines (2 * p + 1)

    abbrev rest : List ℤ
    rest = early_lines lines (p + 1) n

    abbrev i : ℕ
    i = length (late_at lines (2 * p))

    abbrev j : ℕ
    j = length (late_at lines (2 * p + 1))

    -- a pair that is not escaped
    behind-kept : ltb 0 (escapes_at lines p) ≡ false → Came others (p + 1) n tail room
    unfolding late_from
    behind-kept e =
        let at : escaped p ≡ false = same ∙ e in
        (pair-apart lines p x y ((late_from f escaped (p + 1) rest tail room).lines ++ others) (came ∙ rw (start-kept f lines escaped p n tail room same e, at) refl)).2

    -- an escaped pair: its two lines, and those behind it
    module _ (e : ltb 0 (escapes_at lines p) ≡ true) where
      abbrev a : Late
      a = late_line f (evened x) tail room

      abbrev b : Late
      b = late_line f (evened y) a.tail a.room

      apart : (x ≡ a.line) × (y ≡ b.line) × (drop (2 * (p + 1)) lines ≡ (late_from f escaped (p + 1) rest b.tail b.room).lines ++ others)
      unfolding late_from
      apart =
          let at : escaped p ≡ true = same ∙ e in
          pair-apart lines p a.line b.line ((late_from f escaped (p + 1) rest b.tail b.room).lines ++ others) (came ∙ rw (start f lines escaped p n tail room same e, at) refl)

      again-first : room < i → Comes f lines escaped p (suc n) tail room
      again-first l = comes-first f lines escaped p n tail room same e l (came-cut f lines (2 * p) tail room apart.0 l)

      module _ (h : i ≤ room) where
        abbrev left : ℕ
        left = room - i

        one : a ≡ held x (tail + i) left
        one = came-whole f lines (2 * p) tail room apart.0 h

        second : y ≡ (late_line f (evened y) (tail + i) left).line
        second = subst (λ (l : Late). y ≡ (late_line f (evened y) l.tail l.room).line) one apart.1

        again-second : left < j → Comes f lines escaped p (suc n) tail room
        again-second l = comes-second f lines escaped p n tail room same e h l one (came-cut f lines (2 * p + 1) (tail + i) left second l)

        module _ (l : j ≤ left) where
          two : late_line f (evened y) (tail + i) left ≡ held y (tail + i + j) (left - j)
          two = came-whole f lines (2 * p + 1) (tail + i) left second l

          behind-later : Came others (p + 1) n (tail + i + j) (left - j)
          behind-later =
              subst (λ (m : Late). drop (2 * (p + 1)) lines ≡ (late_from f escaped (p + 1) rest m.tail m.room).lines ++ others)
              (ap (λ (m : Late). late_line f (evened y) m.tail m.room) one ∙ two)
              apart.2

          again-later : Comes f lines escaped (p + 1) n (tail + i + j) (left - j) → Comes f lines escaped p (suc n) tail room
          again-later come = comes-later f lines escaped p n tail room same e h l one two come

  -- what is late alters the early lines to these lines, so it is what they send
  pub late-again : (others : List ℤ) (p n tail room : ℕ) → ((q : ℕ) → p ≤ q → q < p + n → escaped q ≡ ltb 0 (escapes_at lines q)) → Came others p n tail room → Comes f lines escaped p n tail room
  unfolding late_pairs early_lines back_lines late_from
  late-again others p zero tail room same came = rw (take-nil {A = Bit} room) (same-late refl (omega arith) (omega arith))
  late-again others p (suc n) tail room same came =
      let here = same p (omega arith) (omega arith) in
      let later : (q : ℕ) → p + 1 ≤ q → q < p + 1 + n → escaped q ≡ ltb 0 (escapes_at lines q) = λ q l m. same q (omega arith) (omega arith) in
      by-room lines p n room
      (λ e. comes-kept f lines escaped p n tail room here e (late-again others (p + 1) n tail room later (behind-kept others p n tail room here came e)))
      (λ e l. again-first others p n tail room here came e l)
      (λ e l m. again-second others p n tail room here came e l m)
      (λ e l m. again-later others p n tail room here came e l m (late-again others (p + 1) n _ _ later (behind-later others p n tail room here came e l m)))

-- in the standard reading, by the levels that the lines have
pub standard-again : (f : List ℕ) (lines others : List ℤ) (levels : List ℕ) (n reading tail room : ℕ) → eqb reading 0 ≡ false → ((q : ℕ) → q < n → get_or levels q 0 ≡ escapes_at lines q) →
    let all = late_from f (escaped_by reading levels) 0 (early_lines lines 0 n) tail room in
    lines ≡ all.lines ++ others → all ≡ late_all (back_lines lines (cut_line lines 0 n room) 0 n) tail room (length (take room (late_pairs lines 0 n)))
standard-again f lines others levels n reading tail room standard same came =
    late-again f lines (escaped_by reading levels) others 0 n tail room (λ q l m. written-escaped f lines levels n same reading q standard (omega arith)) came
