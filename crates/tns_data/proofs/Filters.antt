-- A filter as the code lays it into the sixteen places is the definition's, and two of them, the second from place 8 on, are the
-- definition's sixteen. Assumes nothing.
use Prim.Native.Nat.{ℕ, zero, suc, ◌+◌, ◌-◌, ◌≤◌, ◌<◌}
use mathlib.Core.Path.{◌≡◌, refl, sym, ap, ◌∙◌}
use mathlib.Core.Bool.{true}
use mathlib.Core.List.{List, ◌∷◌, ◌++◌, append_assoc}
use native.Mathlib.Omega.{arith}
use native.Mathlib.Nat.{sub-zero, zero-add}
use lib.ListN.{length, take, drop, replicate, length-append, length-replicate}
use lib.Seq.{sets, sets-eq, length-sets, take-append-add, drop-append-add}
use Rattle.std.specs.Prelude.{Result, Ok}
use Rattle.common.specs.Reply.{Reply, Answer, accepted, refused}
use Rattle.common.specs.Tables.{part_passes}
use Rattle.common.proofs.Replies.{no-refusal, refusal_in, accepted-same}
use Rattle.buffer_reader.specs.declared.Cursor.{Cursor}
use Rattle.range_decoder.specs.Decoder.{range_passes}
use Rattle.range_decoder.specs.declared.DecoderState.{DecoderState}
use Rattle.coding.specs.Coding.{Coded}
use Rattle.coding.specs.declared.Met.{Met}
use Rattle.coding.proofs.Keeps.{head-here, keeps-at}
use Rattle.tns_data.specs.Tns.{Filter, Tns, read_filter, read_tns, sixteen_of}
use Rattle.tns_data.specs.Private.{Laid, Told, filter_of, laid, told}
use Rattle.tns_data.proofs.Within.{filter-keeps}

-- what a call that read a filter says of its definition
pub told-order : (r : Result (ℕ × DecoderState × Cursor) Met) (places : List ℕ) {a : Answer Laid} {n : ℕ} {s : DecoderState} {c : Cursor} → filter_of r places ≡ a → r ≡ Ok (n, s, c) → a ≡ accepted (record { order = n; places = places; state = s; cursor = c })
told-order r places e g = sym e ∙ ap (λ q. filter_of q places) g

-- what was laid, by the filter that was read
pub record Read (l : List ℕ) (at : ℕ) (a : Answer (Coded Filter × Cursor)) (x : Laid) : Type 0 where
  pub filter : Filter
  pub was : a ≡ accepted (record { value = filter; state = x.state }, x.cursor)
  pub order_is : x.order ≡ filter.order
  pub places-are : x.places ≡ sets l at filter.indices

pub laid-read : (l : List ℕ) (at : ℕ) (a : Answer (Coded Filter × Cursor)) (x : Laid) → laid l at a ≡ accepted x → Read l at a x
laid-read l at (accepted r) x e =
    let q = accepted-same e in
    record {
      filter = r.0.value;
      was = ap (λ (y : Laid). accepted (record { value = r.0.value; state = y.state }, y.cursor)) q;
      order_is = sym (ap (λ (y : Laid). y.order) q);
      places-are = sym (ap (λ (y : Laid). y.places) q);
    }
laid-read l at (refused r) x e = absurd (no-refusal (sym e))

abbrev pub zeros : ℕ → List ℕ
zeros n = replicate n 0

-- zeros behind a list
take-zeros : (m n : ℕ) → m ≤ n → take m (zeros n) ≡ zeros m
take-zeros zero n h = refl
take-zeros (suc m) zero h = absurd (omega arith)
take-zeros (suc m) (suc n) h = ap (λ (r : List ℕ). 0 ∷ r) (take-zeros m n (omega arith))

drop-zeros : (m n : ℕ) → m ≤ n → drop m (zeros n) ≡ zeros (n - m)
drop-zeros zero n h = rw (sub-zero n) refl
drop-zeros (suc m) zero h = absurd (omega arith)
drop-zeros (suc m) (suc n) h = let e : suc n - suc m ≡ n - m = omega arith in rw e (drop-zeros m n (omega arith))

module _ (xs : List ℕ) (n m : ℕ) (within : length xs ≤ n) (enough : n ≤ m + length xs) where
  pub take-padded : take n (xs ++ zeros m) ≡ xs ++ zeros (n - length xs)
  take-padded =
      let e : n ≡ length xs + (n - length xs) = omega arith in
      ap (λ (k : ℕ). take k (xs ++ zeros m)) e ∙
      take-append-add xs (zeros m) (n - length xs) ∙
      ap (λ (r : List ℕ). xs ++ r) (take-zeros (n - length xs) m (omega arith))

  drop-padded : drop n (xs ++ zeros m) ≡ zeros (m + length xs - n)
  drop-padded =
      let e : n ≡ length xs + (n - length xs) = omega arith in
      let left : m - (n - length xs) ≡ m + length xs - n = omega arith in
      ap (λ (k : ℕ). drop k (xs ++ zeros m)) e ∙
      drop-append-add xs (zeros m) (n - length xs) ∙
      drop-zeros (n - length xs) m (omega arith) ∙
      ap (λ (k : ℕ). zeros k) left

-- a filter's indices from place 0 on, and another's from place 8 on, are the sixteen
module _ (xs ys : List ℕ) (few : length xs ≤ 8) (also : length ys ≤ 8) where
  first-laid : sets (zeros 16) 0 xs ≡ xs ++ zeros (16 - length xs)
  first-laid =
      sets-eq xs (zeros 16) 0 (omega arith) ∙
      ap (λ (r : List ℕ). xs ++ r) (ap (λ (k : ℕ). drop k (zeros 16)) (zero-add (length xs)) ∙ drop-zeros (length xs) 16 (omega arith))

  both-laid : sets (sets (zeros 16) 0 xs) 8 ys ≡ take 8 (xs ++ zeros 8) ++ take 8 (ys ++ zeros 8)
  both-laid =
      let p : List ℕ = xs ++ zeros (16 - length xs) in
      let size : length p ≡ 16 = simp (length-append, length-replicate) (omega arith) in
      let left : 16 - length xs + length xs - (8 + length ys) ≡ 8 - length ys = omega arith in
      let front : take 8 p ≡ take 8 (xs ++ zeros 8) = take-padded xs 8 (16 - length xs) few (omega arith) ∙ sym (take-padded xs 8 8 few (omega arith)) in
      let back : drop (8 + length ys) p ≡ zeros (8 - length ys) = drop-padded xs (8 + length ys) (16 - length xs) (omega arith) (omega arith) ∙ ap (λ (k : ℕ). zeros k) left in
      ap (λ (r : List ℕ). sets r 8 ys) first-laid ∙
      sets-eq ys p 8 (omega arith) ∙
      rw (front, back, take-padded ys 8 8 also (omega arith)) (append_assoc (take 8 (xs ++ zeros 8)) ys (zeros (8 - length ys)))

same-told : (first second : Filter) (s : DecoderState) (c : Cursor) {m n : ℕ} {places : List ℕ} → m ≡ first.order → n ≡ second.order → places ≡ sixteen_of (record { first = first; second = second }) →
    told (accepted (record { value = record { first = first; second = second }; state = s }, c)) ≡ accepted (record { first = m; second = n; places = places; state = s; cursor = c })
same-told first second s c p q r = rw (p, q, r) refl

module _ (orders coefficients : List ℕ) (weighting : ℕ) (orders_pass : part_passes 2 8 orders ≡ true) (coefficients_pass : part_passes 8 17 coefficients ≡ true) (listed : weighting ≤ 1) (frame : List ℕ) (short : length frame ≤ 65535) where
  -- behind a filter that was laid: the range passes, and it has at most eight indices
  filter-behind : (f flag : ℕ) → f < 2 → (s : DecoderState) (c : Cursor) → range_passes s.range ≡ true → (l : List ℕ) (at : ℕ) {x : Laid} →
      (read : Read l at (read_filter orders coefficients weighting f flag s frame c) x) → (range_passes x.state.range ≡ true) × (length read.filter.indices ≤ 8)
  filter-behind f flag few s c ok l at read =
      let b = keeps-at (filter-keeps orders coefficients weighting orders_pass coefficients_pass listed f flag few) s frame c short ok (head-here frame c) read.was in
      (b.range, omega (arith, b.known.most, b.known.indices.sized))

  module _ (first_flag second_flag : ℕ) (s : DecoderState) (c : Cursor) (ok : range_passes s.range ≡ true) (l : List ℕ) where
    pub first_range : {x : Laid} → laid l 0 (read_filter orders coefficients weighting 0 first_flag s frame c) ≡ accepted x → range_passes x.state.range ≡ true
    first_range {x} e =
        (filter-behind 0 first_flag (omega arith) s c ok l 0 (laid-read l 0 (read_filter orders coefficients weighting 0 first_flag s frame c) x e)).0

    pub first-length : {x : Laid} → laid l 0 (read_filter orders coefficients weighting 0 first_flag s frame c) ≡ accepted x → length x.places ≡ length l
    first-length {x} e =
        let read = laid-read l 0 (read_filter orders coefficients weighting 0 first_flag s frame c) x e in
        ap length read.places-are ∙ length-sets l 0 read.filter.indices

    module _ {x : Laid} (first : laid l 0 (read_filter orders coefficients weighting 0 first_flag s frame c) ≡ accepted x) where
      pub tns-both : {y : Laid} → l ≡ replicate 16 0 → laid x.places 8 (read_filter orders coefficients weighting 1 second_flag x.state frame x.cursor) ≡ accepted y →
          told (read_tns orders coefficients weighting first_flag second_flag s frame c) ≡ accepted (record { first = x.order; second = y.order; places = y.places; state = y.state; cursor = y.cursor })
      tns-both {y} clear e =
          let one = laid-read l 0 (read_filter orders coefficients weighting 0 first_flag s frame c) x first in
          let two = laid-read x.places 8 (read_filter orders coefficients weighting 1 second_flag x.state frame x.cursor) y e in
          let b = filter-behind 0 first_flag (omega arith) s c ok l 0 one in
          let d = filter-behind 1 second_flag (omega arith) x.state x.cursor b.0 x.places 8 two in
          let places : y.places ≡ sixteen_of (record { first = one.filter; second = two.filter }) =
          two.places-are ∙
          ap (λ (p : List ℕ). sets p 8 two.filter.indices) (one.places-are ∙ ap (λ (z : List ℕ). sets z 0 one.filter.indices) clear) ∙
          both-laid one.filter.indices two.filter.indices b.1 d.1 in
          rw (one.was, two.was) (same-told one.filter two.filter y.state y.cursor one.order_is two.order_is places)

-- what the code tells of both filters, by the TNS data that was read
pub record BothRead (a : Answer (Coded Tns × Cursor)) (x : Told) : Type 0 where
  pub tns : Tns
  pub was : a ≡ accepted (record { value = tns; state = x.state }, x.cursor)
  pub first-is : x.first ≡ tns.first.order
  pub second_is : x.second ≡ tns.second.order
  pub places-are : x.places ≡ sixteen_of tns

pub told-read : (a : Answer (Coded Tns × Cursor)) (x : Told) → told a ≡ accepted x → BothRead a x
told-read (accepted r) x e =
    let q = accepted-same e in
    record {
      tns = r.0.value;
      was = ap (λ (y : Told). accepted (record { value = r.0.value; state = y.state }, y.cursor)) q;
      first-is = sym (ap (λ (y : Told). y.first) q);
      second_is = sym (ap (λ (y : Told). y.second) q);
      places-are = sym (ap (λ (y : Told). y.places) q);
    }
told-read (refused r) x e = absurd (no-refusal (sym e))

pub told-refused : (a : Answer (Coded Tns × Cursor)) {r : Reply} → told a ≡ refused r → a ≡ refused r
told-refused (accepted x) e = absurd (no-refusal e)
told-refused (refused q) e = ap (λ x. refused (refusal_in q x)) e
