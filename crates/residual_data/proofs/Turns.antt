-- One turn of the loop over the pairs: what is left from pair p on, behind the lines that are passed, is what the whole asks.
-- Assumes nothing.
use Rattle.std.proofs.Common.{◌≡◌, ℕ, suc, ◌+◌, ◌*◌, ◌<◌, ◌≤◌, Bool, true, false, List, [], ◌∷◌, ◌++◌, length, get_or, take, drop, set, ℤ, pos, nat_abs, sym, refl, ap, ◌∙◌, append_assoc, append-nil, add-zero, arith, length-set, take-append-drop, drop_of_length-le, length-take-le, get_or-drop, drop-cons, get_or-take, take-suc, drop-drop, take-suc-set, drop-set-lt}
use Rattle.residual_data.specs.Residual.{Late, late_line, AllLate, late_from}
use Rattle.residual_data.specs.Private.{AtMost}
use Rattle.residual_data.proofs.Lates.{line-spends}

module _ (f : List ℕ) (escaped : ℕ → Bool) (lines₀ : List ℤ) (pairs tail room : ℕ) where
  -- the lines that are asked for, and what is left of them from pair p on
  abbrev asked : List ℤ
  asked = take (2 * pairs) lines₀

  abbrev pub rest : ℕ → ℕ → ℕ → AllLate
  rest p at left = late_from f escaped p (drop (2 * p) asked) at left

  abbrev pub all : AllLate
  all = late_from f escaped 0 asked tail room

  -- where the loop stands
  pub record Passed (lines : List ℤ) (at left p : ℕ) : Type 0 where
    pub size : length lines ≡ length lines₀
    pub behind : drop (2 * p) lines ≡ drop (2 * p) lines₀
    pub whole : take (2 * p) lines ++ (rest p at left).lines ≡ all.lines
    pub tail-same : (rest p at left).tail ≡ all.tail
    pub spent : at + left ≡ tail + room

  pub passed_start : Passed lines₀ tail room 0
  passed_start = record { size = refl; behind = refl; whole = refl; tail-same = refl; spent = refl }

  module _ (enough : 2 * pairs ≤ length lines₀) (lines : List ℤ) (at left p : ℕ) (h : p < pairs) (so : Passed lines at left p) where
    abbrev x : ℤ
    x = get_or lines (2 * p) (pos 0)

    abbrev y : ℤ
    y = get_or lines (2 * p + 1) (pos 0)

    -- the lines ahead are as they were
    ahead : (i : ℕ) → get_or lines (2 * p + i) (pos 0) ≡ get_or lines₀ (2 * p + i) (pos 0)
    ahead i = sym (get_or-drop (2 * p) lines i (pos 0)) ∙ ap (λ l. get_or l i (pos 0)) so.behind ∙ get_or-drop (2 * p) lines₀ i (pos 0)

    first : x ≡ get_or lines₀ (2 * p) (pos 0)
    first = rw add-zero at (ahead 0)

    pub ahead-most : (m : ℕ) → AtMost m lines₀ → (nat_abs x ≤ m) × (nat_abs y ≤ m)
    ahead-most m most = (rw first (most (2 * p)), rw (ahead 1) (most (2 * p + 1)))

    two-more : drop (2 * p) asked ≡ x ∷ y ∷ drop (2 * (p + 1)) asked
    two-more =
        let size : length asked ≡ 2 * pairs = length-take-le (2 * pairs) lines₀ enough in
        let next : suc (2 * p) ≡ 2 * p + 1 = omega arith in
        let last : suc (2 * p + 1) ≡ 2 * (p + 1) = omega arith in
        let one : get_or asked (2 * p) (pos 0) ≡ x = get_or-take (2 * pairs) lines₀ (2 * p) (pos 0) (omega arith) ∙ sym first in
        let two : get_or asked (2 * p + 1) (pos 0) ≡ y = get_or-take (2 * pairs) lines₀ (2 * p + 1) (pos 0) (omega arith) ∙ sym (ahead 1) in
        drop-cons asked (2 * p) (pos 0) (omega arith) ∙
        rw (next, drop-cons asked (2 * p + 1) (pos 0) (omega arith), last, one, two) refl

    pair-kept : escaped p ≡ false → rest p at left ≡ record { lines = x ∷ y ∷ (rest (p + 1) at left).lines; tail = (rest (p + 1) at left).tail; room = (rest (p + 1) at left).room }
    unfolding late_from
    pair-kept e = rw (two-more, e) refl

    pair-late : escaped p ≡ true → (a b : Late) → a ≡ late_line f x at left → b ≡ late_line f y a.tail a.room → rest p at left ≡ record { lines = a.line ∷ b.line ∷ (rest (p + 1) b.tail b.room).lines; tail = (rest (p + 1) b.tail b.room).tail; room = (rest (p + 1) b.tail b.room).room }
    unfolding late_from
    pair-late e a b ea eb = rw (two-more, e, ← ea, ← eb) refl

    -- two lines more behind those that are passed
    two-passed : (ls : List ℤ) (u v : ℤ) → take (2 * (p + 1)) ls ≡ take (2 * p) lines ++ (u ∷ v ∷ []) → (r : List ℤ) → take (2 * (p + 1)) ls ++ r ≡ take (2 * p) lines ++ (u ∷ v ∷ r)
    two-passed ls u v e r = rw (e, append_assoc) refl

    behind_more : drop (2 * (p + 1)) lines ≡ drop (2 * (p + 1)) lines₀
    behind_more =
        let e : 2 * p + 2 ≡ 2 * (p + 1) = omega arith in
        rw (← e, ← drop-drop 2 (2 * p) lines, ← drop-drop 2 (2 * p) lines₀, so.behind) refl

    -- a pair that is not escaped stays
    pub passed-kept : escaped p ≡ false → Passed lines at left (p + 1)
    passed-kept e =
        let next : suc (2 * p) ≡ 2 * p + 1 = omega arith in
        let last : suc (2 * p + 1) ≡ 2 * (p + 1) = omega arith in
        let more : take (2 * (p + 1)) lines ≡ take (2 * p) lines ++ (x ∷ y ∷ []) =
        rw (← last, take-suc lines (2 * p + 1) (pos 0) (omega (arith, so.size)), ← next, take-suc lines (2 * p) (pos 0) (omega (arith, so.size)), append_assoc) refl in
        record {
          size = so.size;
          behind = behind_more;
          whole = two-passed lines x y more (rest (p + 1) at left).lines ∙ ap (λ (r : AllLate). take (2 * p) lines ++ r.lines) (sym (pair-kept e)) ∙ so.whole;
          tail-same = ap (λ (r : AllLate). r.tail) (sym (pair-kept e)) ∙ so.tail-same;
          spent = so.spent;
        }

    -- an escaped pair takes its late bits
    pub passed-late : escaped p ≡ true → (a b : Late) → a ≡ late_line f x at left → b ≡ late_line f y a.tail a.room → Passed (set (set lines (2 * p) a.line) (2 * p + 1) b.line) b.tail b.room (p + 1)
    passed-late e a b ea eb =
        let u = a.line in
        let v = b.line in
        let l = set lines (2 * p) u in
        let next : suc (2 * p) ≡ 2 * p + 1 = omega arith in
        let last : suc (2 * p + 1) ≡ 2 * (p + 1) = omega arith in
        let long : length l ≡ length lines = length-set lines (2 * p) u in
        let more : take (2 * (p + 1)) (set l (2 * p + 1) v) ≡ take (2 * p) lines ++ (u ∷ v ∷ []) =
        rw (← last, take-suc-set l (2 * p + 1) v (omega (arith, so.size)), ← next, take-suc-set lines (2 * p) u (omega (arith, so.size)), append_assoc) refl in
        let spends : b.tail + b.room ≡ at + left = rw (eb, line-spends f y a.tail a.room, ea) (line-spends f x at left) in
        record {
          size = rw (length-set, length-set) so.size;
          behind = rw (drop-set-lt (2 * (p + 1)) l (2 * p + 1) v (omega arith), drop-set-lt (2 * (p + 1)) lines (2 * p) u (omega arith)) behind_more;
          whole = two-passed (set l (2 * p + 1) v) u v more (rest (p + 1) b.tail b.room).lines ∙ ap (λ (r : AllLate). take (2 * p) lines ++ r.lines) (sym (pair-late e a b ea eb)) ∙ so.whole;
          tail-same = ap (λ (r : AllLate). r.tail) (sym (pair-late e a b ea eb)) ∙ so.tail-same;
          spent = spends ∙ so.spent;
        }

  -- past the last pair
  pub passed-end : 2 * pairs ≤ length lines₀ → (lines : List ℤ) (at left p : ℕ) → p ≡ pairs → Passed lines at left p → (at ≡ all.tail) × (lines ≡ all.lines ++ drop (2 * pairs) lines₀)
  unfolding late_from
  passed-end enough lines at left p e so =
      let size : length asked ≤ 2 * pairs = omega (arith, length-take-le (2 * pairs) lines₀ enough) in
      let none : drop (2 * p) asked ≡ [] = rw e (drop_of_length-le asked size) in
      let end : rest p at left ≡ record { lines = []; tail = at; room = left } = rw none refl in
      let front : take (2 * pairs) lines ≡ all.lines = sym (append-nil (take (2 * pairs) lines)) ∙ ap (λ n. take (2 * n) lines ++ []) (sym e) ∙ ap (λ (r : AllLate). take (2 * p) lines ++ r.lines) (sym end) ∙ so.whole in (
        ap (λ (r : AllLate). r.tail) (sym end) ∙ so.tail-same,
        sym (take-append-drop (2 * pairs) lines) ∙ rw (front, ← e, so.behind) refl,
      )
