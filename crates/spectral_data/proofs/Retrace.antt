-- What an accepted reading of pairs leaves, where some lines are read as these pairs: the symbols read are those that the lines send, so
-- the range and the head are where these leave the coder, and the tail has gone on by the lines' bits. Assumes nothing.
use Prim.Native.Nat.{ℕ, zero, suc, ◌+◌, ◌*◌, ◌^◌, ◌<◌}
use mathlib.Core.Path.{◌≡◌, refl, sym, ap, subst, ◌∙◌}
use mathlib.Core.Bool.{Bool, true, false, cond, ◌&&◌}
use mathlib.Core.List.{List, [], ◌∷◌, ◌++◌, append-nil}
use native.Mathlib.Omega.{arith}
use native.Mathlib.Nat.{add-zero}
use borrow.Author.Tests.{ltb-false}
use lib.Dec.{ltb, eqb}
use lib.IntN.{ℤ, pos, neg_ℤ, nat_abs}
use lib.ListN.{length, length-append}
use Rattle.common.specs.Reply.{accepted, symbol, bit, fourteen_escapes}
use Rattle.common.specs.Tables.{row_at, lookup_passes, part_passes}
use Rattle.common.proofs.Replies.{accepted-same, then-split, given-split}
use Rattle.contexts.specs.Contexts.{lookup_start, row_of, escape_symbol, first_part, second_part, pair_symbol, next_context, context_behind}
use Rattle.contexts.specs.Lines.{line_at, magnitude_at, minus, escapes_at, early_line}
use Rattle.buffer_reader.specs.declared.Cursor.{Cursor}
use Rattle.range_decoder.specs.declared.DecoderState.{DecoderState}
use Rattle.range_encoder.specs.Interval.{Sent}
use Rattle.sending.specs.Sending.{Bit, sent, owned, sign}
use Rattle.sending.proofs.Tracing.{Traced, traced-done, traced-on, traced-as, traced-bit, traced-symbol, found-low}
use Rattle.coding.specs.Coding.{Coded, Coding, done, onward, met, tail_bit_by}
use Rattle.spectral_data.specs.Spectral.{Pair, Levels, behind_escape, read_levels, read_sign, read_pair, read_pairs}
use Rattle.spectral_data.specs.Sent.{sent_escapes, sent_pair, sent_pairs, low_at, lows_from, early, sign_at, pair_bits, pairs_bits, pair_at, pairs_of}
use Rattle.spectral_data.specs.Private.{signs_by, Modest}
use Rattle.spectral_data.proofs.Sizes.{signed-size}
use Rattle.spectral_data.proofs.Bounds.{row_ok}
use Rattle.spectral_data.proofs.Sends.{row-long}
use Rattle.spectral_data.proofs.Symbols.{symbol_at, levels_on}
use Rattle.spectral_data.proofs.Back.{early_magnitude, first_of, second_of, pair-escapes, early-sign, early-size, context-back}

-- ---- a level's bits

module _ (p level : ℕ) (s : DecoderState) (f : List ℕ) (c : Cursor) where
  bits-traced : (t : Bool) (x y : Bit) (r : Coded (ℕ × ℕ) × Cursor) →
      cond {A = Coding (ℕ × ℕ)} t (done (0, 0)) (onward (met (bit p level) tail_bit_by) (λ a. onward (met (bit p level) tail_bit_by) (λ b. done (a, b)))) s f c ≡ accepted r →
      Traced s c [] (length (cond t [] (x ∷ y ∷ []))) r
  bits-traced true x y r e = traced-done (0, 0) s f c r e
  bits-traced false x y r e =
      let u = then-split (met (bit p level) tail_bit_by s f c) (λ q. onward (met (bit p level) tail_bit_by) (λ b. done (q.0.value, b)) q.0.state f q.1) e in
      let v = then-split (met (bit p level) tail_bit_by u.0.0.state f u.0.1) (λ q. done (u.0.0.value, q.0.value) q.0.state f q.1) u.2 in
      traced-on s c [] [] 1 1 u.0 r (traced-bit (bit p level) s f c u.0 u.1)
      (traced-on u.0.0.state u.0.1 [] [] 1 0 v.0 r (traced-bit (bit p level) u.0.0.state f u.0.1 v.0 v.1)
      (traced-done (u.0.0.value, v.0.0.value) v.0.0.state f v.0.1 r v.2))

  -- ---- a sign

  -- one bit where the magnitude is above 0, and a line of that magnitude
  record SignTraced (m : ℕ) (r : Coded ℤ × Cursor) : Type 0 where
    traced : Traced s c [] (cond (ltb 0 m) 1 0) r
    size : nat_abs r.0.value ≡ m

  sign-go : (t : Bool) (m : ℕ) (r : Coded ℤ × Cursor) → ltb 0 m ≡ t →
      cond t (onward (met (bit p level) tail_bit_by) (λ minus. done (cond (eqb minus 1) (neg_ℤ (pos m)) (pos m)))) (done (pos 0)) s f c ≡ accepted r →
      SignTraced m r
  sign-go true m r test e =
      let u = then-split (met (bit p level) tail_bit_by s f c) (λ q. done (cond (eqb q.0.value 1) (neg_ℤ (pos m)) (pos m)) q.0.state f q.1) e in
      record {
        traced = rw test
            (traced-on s c [] [] 1 0 u.0 r (traced-bit (bit p level) s f c u.0 u.1) (traced-done (cond (eqb u.0.0.value 1) (neg_ℤ (pos m)) (pos m)) u.0.0.state f u.0.1 r u.2));
        size = ap (λ (q : Coded ℤ × Cursor). nat_abs q.0.value) (sym (accepted-same u.2)) ∙ signed-size (eqb u.0.0.value 1) m;
      }
  sign-go false m r test e =
      record {
        traced = rw test (traced-done (pos 0) s f c r e);
        size = ap (λ (q : Coded ℤ × Cursor). nat_abs q.0.value) (sym (accepted-same e)) ∙ omega (arith, ltb-false 0 m test);
      }

  sign-traced : (m : ℕ) (r : Coded ℤ × Cursor) → read_sign p level m s f c ≡ accepted r → SignTraced m r
  sign-traced m r e = sign-go (ltb 0 m) m r refl e

-- ---- the levels

module _ (lookup frequencies : List ℕ) (looked : lookup_passes lookup ≡ true) (rows : part_passes 64 17 frequencies ≡ true) (standard lsb : Bool) (p t k a b : ℕ) where
  abbrev symbol_sent : ℕ → ℕ → Sent
  symbol_sent level n = sent (row_at 17 (row_of lookup t level) frequencies) n

  -- some escapes from a level on, and the last symbol
  record LevelsTraced (level : ℕ) (s : DecoderState) (c : Cursor) (r : Coded Levels × Cursor) : Type 0 where
    more : ℕ
    count : r.0.value.escapes ≡ level + more
    traced : Traced s c (sent_escapes lookup frequencies t level more ++ (symbol_sent r.0.value.escapes r.0.value.last ∷ [])) (length (lows_from lsb k a b level more)) r

  -- the last symbol at once
  levels-last : (left level x y n : ℕ) (s : DecoderState) (f : List ℕ) (c : Cursor) (q : Coded ℕ × Cursor) (r : Coded Levels × Cursor) → q.0.value ≡ n → Traced s c (symbol_sent level n ∷ []) 0 q →
      done (record { escapes = level; last = n; low_first = x; low_second = y }) q.0.state f q.1 ≡ accepted r → LevelsTraced level s c r
  unfolding sent_escapes lows_from
  levels-last left level x y n s f c q r same one e =
      subst (LevelsTraced level s c) (accepted-same e)
      (record { more = 0; count = sym (add-zero level); traced = traced-as (record { escapes = level; last = n; low_first = x; low_second = y }) one })

  -- an escape, its bits, and the levels behind it
  levels-more : (level : ℕ) (s : DecoderState) (c : Cursor) (q : Coded ℕ × Cursor) (v : Coded (ℕ × ℕ) × Cursor) (r : Coded Levels × Cursor) →
      Traced s c (symbol_sent level escape_symbol ∷ []) 0 q → Traced q.0.state q.1 [] (length (low_at lsb k a b level)) v → LevelsTraced (level + 1) v.0.state v.1 r → LevelsTraced level s c r
  unfolding sent_escapes lows_from
  levels-more level s c q v r one two rest =
      let size : 0 + (length (low_at lsb k a b level) + length (lows_from lsb k a b (level + 1) rest.more)) ≡ length (low_at lsb k a b level ++ lows_from lsb k a b (level + 1) rest.more) =
      omega (arith, length-append (low_at lsb k a b level) (lows_from lsb k a b (level + 1) rest.more)) in
      record {
        more = suc rest.more;
        count = omega (arith, rest.count);
        traced = subst (λ (n : ℕ). Traced s c (sent_escapes lookup frequencies t level (suc rest.more) ++ (symbol_sent r.0.value.escapes r.0.value.last ∷ [])) n r) size
            (traced-on s c (symbol_sent level escape_symbol ∷ []) _ 0 _ q r one
            (traced-on q.0.state q.1 [] _ (length (low_at lsb k a b level)) _ v r two rest.traced));
      }

  levels-traced : (left level x y : ℕ) (s : DecoderState) (f : List ℕ) (c : Cursor) (r : Coded Levels × Cursor) → level + left ≡ 14 → r.0.value.escapes < 14 →
      read_levels lookup frequencies standard lsb p t left level x y s f c ≡ accepted r → LevelsTraced level s c r
  unfolding read_levels
  levels-traced zero level x y s f c r all few e =
      let full : level ≡ r.0.value.escapes = ap (λ (q : Coded Levels × Cursor). q.0.value.escapes) (accepted-same e) in
      absurd (omega arith)
  levels-traced (suc left) level x y s f c r all few e =
      let u = then-split (symbol_at lookup frequencies standard lsb p t level s f c) (λ q. levels_on lookup frequencies standard lsb p t left level x y q.0.value q.0.state f q.1) e in
      let row = row_at 17 (row_of lookup t level) frequencies in
      let one = traced-symbol (symbol p level) row s f c u.0 u.1 in
      let there = found-low (symbol p level) row s f c u.0 (row_ok lookup frequencies looked rows t level) u.1 in
      go (λ x y s c e. levels-traced left (level + 1) x y s f c r (omega arith) few e) u.0 one there (ltb u.0.0.value escape_symbol) refl u.2
    where
      go : ((x y : ℕ) (s : DecoderState) (c : Cursor) → read_levels lookup frequencies standard lsb p t left (level + 1) x y s f c ≡ accepted r → LevelsTraced (level + 1) s c r) →
          (q : Coded ℕ × Cursor) → Traced s c (symbol_sent level q.0.value ∷ []) 0 q → q.0.value < length (row_at 17 (row_of lookup t level) frequencies) → (small : Bool) → ltb q.0.value escape_symbol ≡ small →
          cond small (done (record { escapes = level; last = q.0.value; low_first = x; low_second = y }))
          (onward (behind_escape standard lsb p level) (λ low. read_levels lookup frequencies standard lsb p t left (level + 1) (x + low.0 * 2 ^ level) (y + low.1 * 2 ^ level))) q.0.state f q.1 ≡ accepted r →
          LevelsTraced level s c r
      go rest q one there true test e = levels-last left level x y q.0.value s f c q r refl one e
      go rest q one there false test e =
          let is : q.0.value ≡ escape_symbol = omega (arith, ltb-false q.0.value escape_symbol test, there, row-long lookup frequencies looked rows t level) in
          let v = then-split (behind_escape standard lsb p level q.0.state f q.1) (λ w. read_levels lookup frequencies standard lsb p t left (level + 1) (x + w.0.value.0 * 2 ^ level) (y + w.0.value.1 * 2 ^ level) w.0.state f w.1) e in
          levels-more level s c q v.0 r (subst (λ (n : ℕ). Traced s c (symbol_sent level n ∷ []) 0 q) is one)
          (bits-traced p level q.0.state f q.1 (lsb && eqb level 0) _ _ v.0 (given-split (standard && eqb level 13) (fourteen_escapes p) _ v.1).1)
          (rest _ _ v.0.0.state v.0.1 v.2)

-- ---- a pair

-- a sign is one bit
pub sign-length : (t : Bool) (x : Bit) → length (cond t (x ∷ []) []) ≡ cond t 1 0
sign-length true x = refl
sign-length false x = refl

-- the signs leave the escapes and the last symbol
pub signs-keep : (p : ℕ) (l : Levels) (s : DecoderState) (f : List ℕ) (c : Cursor) (r : Coded Pair × Cursor) → signs_by p l s f c ≡ accepted r → (r.0.value.escapes ≡ l.escapes) × (r.0.value.last ≡ l.last)
signs-keep p l s f c r e =
    let m1 = l.low_first + first_part l.last * 2 ^ l.escapes in
    let m2 = l.low_second + second_part l.last * 2 ^ l.escapes in
    let u = then-split (read_sign p l.escapes m1 s f c) (λ q. onward (read_sign p l.escapes m2) (λ second. done (record { escapes = l.escapes; last = l.last; first = q.0.value; second = second })) q.0.state f q.1) e in
    let v = then-split (read_sign p l.escapes m2 u.0.0.state f u.0.1) (λ q. done (record { escapes = l.escapes; last = l.last; first = u.0.0.value; second = q.0.value }) q.0.state f q.1) u.2 in
    let is = accepted-same v.2 in
    (ap (λ (q : Coded Pair × Cursor). q.0.value.escapes) (sym is), ap (λ (q : Coded Pair × Cursor). q.0.value.last) (sym is))

module _ (lookup frequencies : List ℕ) (looked : lookup_passes lookup ≡ true) (rows : part_passes 64 17 frequencies ≡ true) (standard lsb : Bool) (lines : List ℤ) (modest : Modest lines) where
  module _ (p : ℕ) where
    -- a line's sign stands where its magnitude, as it was read, is above 0
    sign-bits : (k m : ℕ) (z : ℤ) → nat_abs z ≡ m → z ≡ early_line lsb (escapes_at lines p) (line_at lines k) → cond (ltb 0 m) 1 0 ≡ length (sign_at lsb (escapes_at lines p) lines k)
    sign-bits k m z size is =
        let n = escapes_at lines p in
        let same : m ≡ early_magnitude lsb n (magnitude_at lines k) = sym size ∙ ap nat_abs is ∙ early-size lsb n (line_at lines k) in
        ap (λ (q : ℕ). cond (ltb 0 q) 1 0) same
        ∙ ap (λ (q : Bool). cond q 1 0) (sym (early-sign lsb n (magnitude_at lines k)))
        ∙ sym (sign-length (ltb 0 (early lsb n (magnitude_at lines k))) (owned (sign k) (minus (line_at lines k))))

    -- the symbols of the levels are the pair's
    levels-as : (t : ℕ) (s : DecoderState) (c : Cursor) (q : Coded Levels × Cursor) → q.0.value.escapes ≡ escapes_at lines p → q.0.value.last ≡ pair_symbol (first_of lines p) (second_of lines p) →
        LevelsTraced lookup frequencies looked rows standard lsb p t (2 * p) (first_of lines p) (second_of lines p) 0 s c q →
        Traced s c (sent_pair lookup frequencies t (first_of lines p) (second_of lines p)) (length (lows_from lsb (2 * p) (first_of lines p) (second_of lines p) 0 (escapes_at lines p))) q
    levels-as t s c q escaped ended l =
        let count : l.more ≡ escapes_at lines p = omega (arith, l.count, escaped) in
        let bits : ℕ → ℕ = λ n. length (lows_from lsb (2 * p) (first_of lines p) (second_of lines p) 0 n) in
        let symbols : ℕ → ℕ → ℕ → List Sent = λ m n k. sent_escapes lookup frequencies t 0 m ++ (sent (row_at 17 (row_of lookup t n) frequencies) k ∷ []) in
        subst (λ (k : ℕ). Traced s c (symbols (escapes_at lines p) (escapes_at lines p) k) (bits (escapes_at lines p)) q) ended
        (subst (λ (n : ℕ). Traced s c (symbols (escapes_at lines p) n q.0.value.last) (bits (escapes_at lines p)) q) escaped
        (subst (λ (m : ℕ). Traced s c (symbols m q.0.value.escapes q.0.value.last) (bits m) q) count l.traced))

    signs-traced : (l : Levels) (s : DecoderState) (f : List ℕ) (c : Cursor) (r : Coded Pair × Cursor) → l.escapes ≡ escapes_at lines p → r.0.value ≡ pair_at lsb lines p →
        signs_by p l s f c ≡ accepted r → Traced s c [] (length (sign_at lsb (escapes_at lines p) lines (2 * p)) + length (sign_at lsb (escapes_at lines p) lines (2 * p + 1))) r
    signs-traced l s f c r escaped same e =
        let m1 = l.low_first + first_part l.last * 2 ^ l.escapes in
        let m2 = l.low_second + second_part l.last * 2 ^ l.escapes in
        let u = then-split (read_sign p l.escapes m1 s f c) (λ q. onward (read_sign p l.escapes m2) (λ second. done (record { escapes = l.escapes; last = l.last; first = q.0.value; second = second })) q.0.state f q.1) e in
        let v = then-split (read_sign p l.escapes m2 u.0.0.state f u.0.1) (λ q. done (record { escapes = l.escapes; last = l.last; first = u.0.0.value; second = q.0.value }) q.0.state f q.1) u.2 in
        let one = sign-traced p l.escapes s f c m1 u.0 u.1 in
        let two = sign-traced p l.escapes u.0.0.state f u.0.1 m2 v.0 v.1 in
        let read : ◌≡◌ {A = Pair} (record { escapes = l.escapes; last = l.last; first = u.0.0.value; second = v.0.0.value }) (pair_at lsb lines p) =
        ap (λ (q : Coded Pair × Cursor). q.0.value) (accepted-same v.2) ∙ same in
        let first = sign-bits (2 * p) m1 u.0.0.value one.size (ap (λ (q : Pair). q.first) read) in
        let second = sign-bits (2 * p + 1) m2 v.0.0.value two.size (ap (λ (q : Pair). q.second) read) in
        subst (λ (n : ℕ). Traced s c [] (n + length (sign_at lsb (escapes_at lines p) lines (2 * p + 1))) r) first
        (subst (λ (n : ℕ). Traced s c [] (cond (ltb 0 m1) 1 0 + n) r) (add-zero (cond (ltb 0 m2) 1 0) ∙ second)
        (traced-on s c [] [] (cond (ltb 0 m1) 1 0) (cond (ltb 0 m2) 1 0 + 0) u.0 r one.traced
        (traced-on u.0.0.state u.0.1 [] [] (cond (ltb 0 m2) 1 0) 0 v.0 r two.traced
        (traced-done (record { escapes = l.escapes; last = l.last; first = u.0.0.value; second = v.0.0.value }) v.0.0.state f v.0.1 r v.2))))

    pub pair-traced : (t : ℕ) (s : DecoderState) (f : List ℕ) (c : Cursor) (r : Coded Pair × Cursor) → r.0.value ≡ pair_at lsb lines p → read_pair lookup frequencies standard lsb p t s f c ≡ accepted r →
        Traced s c (sent_pair lookup frequencies t (first_of lines p) (second_of lines p)) (length (pair_bits lsb lines p)) r
    pair-traced t s f c r same e =
        let n = escapes_at lines p in
        let symbols = sent_pair lookup frequencies t (first_of lines p) (second_of lines p) in
        let lows = lows_from lsb (2 * p) (first_of lines p) (second_of lines p) 0 n in
        let u = then-split (read_levels lookup frequencies standard lsb p t 14 0 0 0 s f c) (λ q. signs_by p q.0.value q.0.state f q.1) e in
        let kept = signs-keep p u.0.0.value u.0.0.state f u.0.1 r u.2 in
        let escaped : u.0.0.value.escapes ≡ n = sym kept.0 ∙ ap (λ (x : Pair). x.escapes) same in
        let ended : u.0.0.value.last ≡ pair_symbol (first_of lines p) (second_of lines p) = sym kept.1 ∙ ap (λ (x : Pair). x.last) same in
        let one = levels-as t s c u.0 escaped ended
        (levels-traced lookup frequencies looked rows standard lsb p t (2 * p) (first_of lines p) (second_of lines p) 14 0 0 0 s f c u.0 refl (omega (arith, escaped, pair-escapes lines modest p)) u.1) in
        let two = signs-traced u.0.0.value u.0.0.state f u.0.1 r escaped same u.2 in
        let first = sign_at lsb n lines (2 * p) in
        let second = sign_at lsb n lines (2 * p + 1) in
        let size : length lows + (length first + length second) ≡ length (pair_bits lsb lines p) =
        omega (arith, length-append (lows ++ first) second, length-append lows first) in
        subst (λ (b : ℕ). Traced s c symbols b r) size
        (subst (λ (xs : List Sent). Traced s c xs (length lows + (length first + length second)) r) (append-nil symbols)
        (traced-on s c symbols [] (length lows) (length first + length second) u.0 r one two))

  -- all pairs: n of them from pair p on
  pub pairs-retrace : (rate ne p n context : ℕ) (s : DecoderState) (f : List ℕ) (c : Cursor) (r : Coded (List Pair) × Cursor) → r.0.value ≡ pairs_of lsb lines p n →
      read_pairs lookup frequencies standard lsb rate ne p n context s f c ≡ accepted r →
      Traced s c (sent_pairs lookup frequencies rate ne lines p n context) (length (pairs_bits lsb lines p n)) r
  unfolding read_pairs sent_pairs pairs_bits pairs_of
  pairs-retrace rate ne p zero context s f c r same e = traced-done [] s f c r e
  pairs-retrace rate ne p (suc n) context s f c r same e =
      let t = lookup_start context rate ne (2 * p) in
      let behind = context_behind context (first_of lines p) (second_of lines p) in
      let u = then-split (read_pair lookup frequencies standard lsb p t s f c) (λ q. onward (read_pairs lookup frequencies standard lsb rate ne (p + 1) n (next_context context (first_part q.0.value.last) (second_part q.0.value.last) q.0.value.escapes)) (λ rest. done (q.0.value ∷ rest)) q.0.state f q.1) e in
      let x = u.0.0.value in
      let v = then-split (read_pairs lookup frequencies standard lsb rate ne (p + 1) n (next_context context (first_part x.last) (second_part x.last) x.escapes) u.0.0.state f u.0.1) (λ q. done (x ∷ q.0.value) q.0.state f q.1) u.2 in
      let all : x ∷ v.0.0.value ≡ pair_at lsb lines p ∷ pairs_of lsb lines (p + 1) n = ap (λ (q : Coded (List Pair) × Cursor). q.0.value) (accepted-same v.2) ∙ same in
      let here : x ≡ pair_at lsb lines p = cc all in
      let later : v.0.0.value ≡ pairs_of lsb lines (p + 1) n = cc all in
      let next : next_context context (first_part x.last) (second_part x.last) x.escapes ≡ behind =
      ap (λ (y : Pair). next_context context (first_part y.last) (second_part y.last) y.escapes) here ∙ context-back lines modest p context in
      let one = pair-traced p t s f c u.0 here u.1 in
      let two = pairs-retrace rate ne (p + 1) n behind u.0.0.state f u.0.1 v.0 later
      (subst (λ (k : ℕ). read_pairs lookup frequencies standard lsb rate ne (p + 1) n k u.0.0.state f u.0.1 ≡ accepted v.0) next v.1) in
      let size : length (pair_bits lsb lines p) + length (pairs_bits lsb lines (p + 1) n) ≡ length (pair_bits lsb lines p ++ pairs_bits lsb lines (p + 1) n) =
      sym (length-append (pair_bits lsb lines p) (pairs_bits lsb lines (p + 1) n)) in
      subst (λ (b : ℕ). Traced s c (sent_pair lookup frequencies t (first_of lines p) (second_of lines p) ++ sent_pairs lookup frequencies rate ne lines (p + 1) n behind) b r) size
      (traced-on s c _ _ (length (pair_bits lsb lines p)) (length (pairs_bits lsb lines (p + 1) n)) u.0 r one (subst (Traced u.0.0.state u.0.1 _ _) (accepted-same v.2) (traced-as (x ∷ v.0.0.value) two)))
