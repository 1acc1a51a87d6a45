-- What comes late is read back: outside least-bit mode the list's low bits as far as there was room, then zeros; in it every line before
-- the one place in line order whole, and from there on the lines of escaped pairs without their lowest bits. Assumes nothing.
use Rattle.std.proofs.Common.{◌≡◌, ℕ, zero, suc, ◌+◌, ◌-◌, ◌*◌, ◌%◌, ◌<◌, ◌≤◌, min, Bool, true, false, eqb, ltb, List, [], ◌∷◌, ◌++◌, map, length, get_or, take, replicate, ℤ, sym, refl, ap, ◌∙◌, subst, add-zero, zero-add, arith, length-append, length-take, length-take-le, le-ltb, lt-ltb}
use lib.Seq.{take-nil, take-append-le}
use Rattle.buffer_reader.specs.Tail.{tail_bit}
use Rattle.contexts.specs.Lines.{line_at, escapes_at, evened}
use Rattle.sending.specs.Sending.{Bit, Stands}
use Rattle.sending.proofs.Stands.{stands-append}
use Rattle.residual_data.specs.Residual.{bits_from, nonzero, residual_list, late_line, AllLate, late_from, escaped_by}
use Rattle.residual_data.specs.Sent.{residual_bits, late_at, late_pairs, early_lines, cut_line, back_lines}
use Rattle.residual_data.specs.Private.{held}
use Rattle.residual_data.proofs.Lates.{late-full}
use Rattle.residual_data.proofs.Puts.{residual-values, residual-count}
use Rattle.residual_data.proofs.Evened.{line-whole, line-cut}
use Rattle.residual_data.proofs.Cuts.{take_whole, pair-more, pair-kept, cut-first, cut-second, cut_later, cut-kept, cut-least, cut-none, by-room, back_early, back_whole}

-- bits that stand are read, and so are zeros
stands_read : (f : List ℕ) (i : ℕ) (bits : List Bit) → Stands f i bits → bits_from f i (length bits) ≡ map (λ (b : Bit). b.value) bits
unfolding Stands bits_from
stands_read f i [] h = refl
stands_read f i (b ∷ bits) h = rw (h.0, stands_read f (i + 1) bits h.1) refl

zeros-read : (f : List ℕ) (i n : ℕ) → ((j : ℕ) → i ≤ j → j < i + n → tail_bit f j ≡ 0) → bits_from f i n ≡ replicate n 0
unfolding bits_from
zeros-read f i zero h = refl
zeros-read f i (suc n) h = rw (h i (omega arith) (omega arith), zeros-read f (i + 1) n (λ j l m. h j (omega arith) (omega arith))) refl

bits-split : (f : List ℕ) (i n m : ℕ) → bits_from f i (n + m) ≡ bits_from f i n ++ bits_from f (i + n) m
unfolding bits_from
bits-split f i zero m = rw (zero-add m, add-zero i) refl
bits-split f i (suc n) m =
    let more : suc n + m ≡ suc (n + m) = omega arith in
    let at : i + 1 + n ≡ i + suc n = omega arith in
    rw (more, bits-split f (i + 1) n m, at) refl

map-take : {A : Type 0} (g : A → ℕ) (n : ℕ) (xs : List A) → map g (take n xs) ≡ take n (map g xs)
map-take g zero xs = refl
map-take g (suc n) [] = refl
map-take g (suc n) (x ∷ xs) = ap (λ (l : List ℕ). g x ∷ l) (map-take g n xs)

-- outside least-bit mode
module _ (f : List ℕ) (tail room : ℕ) (lines : List ℤ) (residual : List ℕ) (enough : length residual ≤ nonzero lines) where
  abbrev sent : List Bit
  sent = take room (residual_bits 0 lines residual)

  pub residual-back : Stands f tail sent → ((i : ℕ) → tail + length sent ≤ i → i < tail + room → tail_bit f i ≡ 0) → residual_list f tail room lines ≡ map (λ (b : ℕ). b % 2) (take room residual) ++ replicate (min room (nonzero lines) - min room (length residual)) 0
  residual-back stands zeros =
      let size : length sent ≡ min room (length residual) = length-take room (residual_bits 0 lines residual) ∙ ap (min room) (residual-count lines residual enough) in
      let left = min room (nonzero lines) - min room (length residual) in
      let whole : min room (nonzero lines) ≡ length sent + left = omega arith in
      let values : map (λ (b : Bit). b.value) sent ≡ map (λ (b : ℕ). b % 2) (take room residual) =
      map-take (λ (b : Bit). b.value) room (residual_bits 0 lines residual) ∙ ap (take room) (residual-values 0 lines residual enough) ∙ sym (map-take (λ (b : ℕ). b % 2) room residual) in
      ap (bits_from f tail) whole ∙
      bits-split f tail (length sent) left ∙
      rw (stands_read f tail sent stands, values, zeros-read f (tail + length sent) left (λ j l m. zeros j l (omega arith))) refl

-- in it: all lines behind what comes late
abbrev pub late_all : List ℤ → ℕ → ℕ → ℕ → AllLate
late_all lines tail room used = record { lines = lines; tail = tail + used; room = room - used }

pub same-late : {l m : List ℤ} {t u r s : ℕ} → l ≡ m → t ≡ u → r ≡ s → ◌≡◌ {A = AllLate} (record { lines = l; tail = t; room = r }) (record { lines = m; tail = u; room = s })
same-late a b c = cc

module _ (f : List ℕ) (lines : List ℤ) (escaped : ℕ → Bool) where
  -- two lines of an escaped pair, by what each is behind its late bits
  pair-late : (p : ℕ) (x y : ℤ) (rest : List ℤ) (tail room : ℕ) (u v : ℤ) (t₁ r₁ t₂ r₂ : ℕ) → escaped p ≡ true → late_line f x tail room ≡ held u t₁ r₁ → late_line f y t₁ r₁ ≡ held v t₂ r₂ → (all : AllLate) → late_from f escaped (p + 1) rest t₂ r₂ ≡ all → late_from f escaped p (x ∷ y ∷ rest) tail room ≡ record { lines = u ∷ v ∷ all.lines; tail = all.tail; room = all.room }
  unfolding late_from
  pair-late p x y rest tail room u v t₁ r₁ t₂ r₂ e a b all later = rw (e, a, b, later) refl

  pair_same : (p : ℕ) (x y : ℤ) (rest : List ℤ) (tail room : ℕ) → escaped p ≡ false → (all : AllLate) → late_from f escaped (p + 1) rest tail room ≡ all → late_from f escaped p (x ∷ y ∷ rest) tail room ≡ record { lines = x ∷ y ∷ all.lines; tail = all.tail; room = all.room }
  unfolding late_from
  pair_same p x y rest tail room e all later = rw (e, later) refl

  -- what is to be shown of n pairs from pair p on, and of bits that stand
  abbrev pub Comes : ℕ → ℕ → ℕ → ℕ → Type 0
  Comes p n tail room =
      late_from f escaped p (early_lines lines p n) tail room ≡ late_all (back_lines lines (cut_line lines p n room) p n) tail room (length (take room (late_pairs lines p n)))

  abbrev Backs : ℕ → ℕ → ℕ → ℕ → Type 0
  Backs p n tail room = Stands f tail (take room (late_pairs lines p n)) → Comes p n tail room

  module _ (p n tail room : ℕ) (same : escaped p ≡ ltb 0 (escapes_at lines p)) where
    abbrev x : ℤ
    x = line_at lines (2 * p)

    abbrev y : ℤ
    y = line_at lines (2 * p + 1)

    abbrev a : List Bit
    a = late_at lines (2 * p)

    abbrev b : List Bit
    b = late_at lines (2 * p + 1)

    abbrev later : List Bit
    later = late_pairs lines (p + 1) n

    abbrev rest : List ℤ
    rest = early_lines lines (p + 1) n

    both-whole : (cut : ℕ) → 2 * (p + 1) ≤ cut → x ∷ y ∷ back_lines lines cut (p + 1) n ≡ back_lines lines cut p (suc n)
    unfolding back_lines
    both-whole cut h = rw (lt-ltb (2 * p) cut (omega arith), lt-ltb (2 * p + 1) cut (omega arith)) refl

    -- a pair that is not escaped
    module _ (e : ltb 0 (escapes_at lines p) ≡ false) where
      kept-taken : take room (late_pairs lines p (suc n)) ≡ take room later
      kept-taken = ap (take room) (pair-kept lines p n room e)

      pub start-kept : early_lines lines p (suc n) ≡ x ∷ y ∷ rest
      unfolding early_lines
      start-kept = rw e refl

      pub comes-kept : Comes (p + 1) n tail room → Comes p (suc n) tail room
      comes-kept come =
          let at : cut_line lines p (suc n) room ≡ cut_line lines (p + 1) n room = cut-kept lines p n room e in
          ap (λ (l : List ℤ). late_from f escaped p l tail room) start-kept ∙
          pair_same p x y rest tail room (same ∙ e) _ come ∙
          rw (kept-taken, at) (same-late (both-whole (cut_line lines (p + 1) n room) (cut-least lines (p + 1) n room)) refl refl)

      when-kept : Backs (p + 1) n tail room → Backs p (suc n) tail room
      when-kept back stands = comes-kept (back (subst (Stands f tail) kept-taken stands))

    module _ (e : ltb 0 (escapes_at lines p) ≡ true) where
      pub start : early_lines lines p (suc n) ≡ evened x ∷ evened y ∷ rest
      unfolding early_lines
      start = rw e refl

      -- the first line's bits do not all have room
      module _ (l : room < length a) where
        first_taken : take room (late_pairs lines p (suc n)) ≡ take room a
        first_taken = ap (take room) (pair-more lines p n room e) ∙ take-append-le room a (b ++ later) (omega arith)

        pub comes-first : late_line f (evened x) tail room ≡ held (evened x) (tail + room) 0 → Comes p (suc n) tail room
        comes-first cut =
            let size : length (take room (late_pairs lines p (suc n))) ≡ room = ap length first_taken ∙ length-take-le room a (omega arith) in
            let at : cut_line lines p (suc n) room ≡ 2 * p = cut-first lines p n room e l in
            ap (λ (l : List ℤ). late_from f escaped p l tail room) start ∙
            pair-late p (evened x) (evened y) rest tail room (evened x) (evened y) (tail + room) 0 (tail + room) 0 (same ∙ e) cut refl _ (late-full f escaped (p + 1) rest (tail + room)) ∙
            rw (size, at) (same-late (sym start ∙ sym (back_early lines (2 * p) p (suc n) (omega arith))) refl (omega arith))

        when-first : Backs p (suc n) tail room
        when-first stands = comes-first (line-cut f lines (2 * p) tail room l (subst (Stands f tail) first_taken stands))

      module _ (h : length a ≤ room) where
        abbrev left : ℕ
        left = room - length a

        front : take room (late_pairs lines p (suc n)) ≡ a ++ take left (b ++ later)
        front = ap (take room) (pair-more lines p n room e) ∙ take_whole room a (b ++ later) h

        -- the second line's do not
        module _ (l : left < length b) where
          second-taken : take room (late_pairs lines p (suc n)) ≡ a ++ take left b
          second-taken = front ∙ ap (λ (r : List Bit). a ++ r) (take-append-le left b later (omega arith))

          -- the lines behind the one place, as they come back
          lines-second : x ∷ evened y ∷ rest ≡ back_lines lines (2 * p + 1) p (suc n)
          unfolding back_lines
          lines-second =
              rw (lt-ltb (2 * p) (2 * p + 1) (omega arith), le-ltb (2 * p + 1) (2 * p + 1) (omega arith), e, back_early lines (2 * p + 1) (p + 1) n (omega arith)) refl

          pub comes-second : late_line f (evened x) tail room ≡ held x (tail + length a) left → late_line f (evened y) (tail + length a) left ≡ held (evened y) (tail + length a + left) 0 → Comes p (suc n) tail room
          comes-second one cut =
              let size : length (take room (late_pairs lines p (suc n))) ≡ room = omega (arith, ap length second-taken, length-append a (take left b), length-take-le left b (omega arith)) in
              let at : cut_line lines p (suc n) room ≡ 2 * p + 1 = cut-second lines p n room e h l in
              let end : tail + length a + left ≡ tail + room = omega arith in
              ap (λ (l : List ℤ). late_from f escaped p l tail room) start ∙
              pair-late p (evened x) (evened y) rest tail room x (evened y) (tail + length a) left (tail + length a + left) 0 (same ∙ e) one cut _ (late-full f escaped (p + 1) rest (tail + length a + left)) ∙
              rw (size, at) (same-late lines-second end (omega arith))

          when-second : Backs p (suc n) tail room
          when-second stands =
              let s = stands-append f tail a (take left b) (subst (Stands f tail) second-taken stands) in
              comes-second (line-whole f lines (2 * p) tail room h s.0) (line-cut f lines (2 * p + 1) (tail + length a) left l s.1)

        -- both have room
        module _ (l : length b ≤ left) where
          abbrev r : ℕ
          r = left - length b

          both-taken : take room (late_pairs lines p (suc n)) ≡ a ++ (b ++ take r later)
          both-taken = front ∙ ap (λ (q : List Bit). a ++ q) (take_whole left b later l)

          pub comes-later : late_line f (evened x) tail room ≡ held x (tail + length a) left → late_line f (evened y) (tail + length a) left ≡ held y (tail + length a + length b) r → Comes (p + 1) n (tail + length a + length b) r → Comes p (suc n) tail room
          comes-later one two come =
              let size : length (take room (late_pairs lines p (suc n))) ≡ length a + (length b + length (take r later)) = omega (arith, ap length both-taken, length-append a (b ++ take r later), length-append b (take r later)) in
              let at : cut_line lines p (suc n) room ≡ cut_line lines (p + 1) n r = cut_later lines p n room e h l in
              ap (λ (l : List ℤ). late_from f escaped p l tail room) start ∙
              pair-late p (evened x) (evened y) rest tail room x y (tail + length a) left (tail + length a + length b) r (same ∙ e) one two _ come ∙
              rw (size, at) (same-late (both-whole (cut_line lines (p + 1) n r) (cut-least lines (p + 1) n r)) (omega arith) (omega arith))

          when-later : Backs (p + 1) n (tail + length a + length b) r → Backs p (suc n) tail room
          when-later back stands =
              let s = stands-append f tail a (b ++ take r later) (subst (Stands f tail) both-taken stands) in
              let t = stands-append f (tail + length a) b (take r later) s.1 in
              comes-later (line-whole f lines (2 * p) tail room h s.0) (line-whole f lines (2 * p + 1) (tail + length a) left l t.0) (back t.1)

  pub late-back : (p n tail room : ℕ) → ((q : ℕ) → p ≤ q → q < p + n → escaped q ≡ ltb 0 (escapes_at lines q)) → Backs p n tail room
  unfolding late_pairs early_lines back_lines late_from
  late-back p zero tail room same stands = rw (take-nil {A = Bit} room) (same-late refl (omega arith) (omega arith))
  late-back p (suc n) tail room same stands =
      let here = same p (omega arith) (omega arith) in
      let others : (q : ℕ) → p + 1 ≤ q → q < p + 1 + n → escaped q ≡ ltb 0 (escapes_at lines q) = λ q l m. same q (omega arith) (omega arith) in
      by-room lines p n room
      (λ e. when-kept p n tail room here e (late-back (p + 1) n tail room others) stands)
      (λ e l. when-first p n tail room here e l stands)
      (λ e l m. when-second p n tail room here e l m stands)
      (λ e l m. when-later p n tail room here e l m (late-back (p + 1) n _ _ others) stands)

-- the levels as they were written make the reader of the standard find the pairs that are escaped
module _ (f : List ℕ) (lines : List ℤ) (levels : List ℕ) (n : ℕ) (written : (q : ℕ) → q < n → get_or levels q 0 ≡ escapes_at lines q) where
  pub written-escaped : (reading q : ℕ) → eqb reading 0 ≡ false → q < n → escaped_by reading levels q ≡ ltb 0 (escapes_at lines q)
  written-escaped reading q e h = rw (e, written q h) refl

  module _ (reading : ℕ) (standard : eqb reading 0 ≡ false) (tail room : ℕ) (stands : Stands f tail (take room (late_pairs lines 0 n))) where
    abbrev all : AllLate
    all = late_from f (escaped_by reading levels) 0 (early_lines lines 0 n) tail room

    pub standard-back : all ≡ late_all (back_lines lines (cut_line lines 0 n room) 0 n) tail room (length (take room (late_pairs lines 0 n)))
    standard-back = late-back f lines (escaped_by reading levels) 0 n tail room (λ q l m. written-escaped reading q standard (omega arith)) stands

    -- and where nothing was cut every line is whole
    pub standard-whole : 2 * n ≤ length lines → length (late_pairs lines 0 n) ≤ room → all.lines ≡ take (2 * n) lines
    standard-whole enough fits =
        ap (λ (l : AllLate). l.lines) standard-back ∙
        ap (λ (cut : ℕ). back_lines lines cut 0 n) (cut-none lines 0 n room fits) ∙
        back_whole lines (2 * (0 + n)) 0 n (omega arith) (omega arith)
