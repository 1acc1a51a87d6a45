-- What is known of TNS data that was read, by the forms of codings: an order is 0 without its flag and 1 to 8 with it, there are as
-- many indices, each 0 to 16; and a refusal is 10 or 11, in a step of the two filters. Assumes nothing.
use Prim.Native.Nat.{ℕ, zero, suc, ◌+◌, ◌*◌, ◌≤◌, ◌<◌}
use mathlib.Core.Path.{◌≡◌, refl, sym, ap, ◌∙◌}
use mathlib.Core.Bool.{Bool, true, false, ◌&&◌, true≢false}
use mathlib.Core.List.{List, [], ◌∷◌}
use native.Mathlib.Omega.{arith}
use borrow.Author.Tests.{le-leb, lt-ltb, leb-true, eqb-true}
use lib.Dec.{leb, ltb, eqb}
use lib.ListN.{length, drop, length-take}
use Rattle.common.specs.Reply.{Step, nowhere, side, start, order, coef, symbol, bit, Reply, accepted, refused, in_step, head_past_end, low_beyond_limit}
use Rattle.common.specs.Tables.{row_at, row_passes, rows_pass, part_passes, all_at_most}
use Rattle.common.proofs.Bools.{and_left, and_right, and_both}
use Rattle.common.proofs.Cumulatives.{row-passed}
use Rattle.common.proofs.Replies.{in-step-given}
use Rattle.buffer_reader.specs.declared.Cursor.{Cursor}
use Rattle.range_decoder.specs.Decoder.{range_passes}
use Rattle.range_decoder.specs.declared.DecoderState.{DecoderState}
use Rattle.coding.specs.Coding.{Coded, done, met, symbol_by}
use Rattle.coding.proofs.Keeps.{HeadMoved, head-here, head_byte, Behind, Keeps, keeps-at, keeps-refused, keeps-done, keeps-onward, keeps-if, met-symbol, symbol-behind}
use Rattle.tns_data.specs.Tns.{Filter, no_filter, Tns, read_indices, read_filter, read_tns}

-- the steps of the two filters
abbrev pub tns_step : Step → Bool
tns_step nowhere = false
tns_step side = false
tns_step start = false
tns_step (order f) = ltb f 2
tns_step (coef f k) = ltb f 2 && ltb k 8
tns_step (symbol p level) = false
tns_step (bit p level) = false

-- 10 or 11
abbrev pub TenOrEleven : Reply → Type 0
TenOrEleven r = (leb 10 r.number && leb r.number 11) ≡ true

pub record TnsRefusal (r : Reply) : Type 0 where
  pub number : TenOrEleven r
  pub place : tns_step r.step ≡ true

-- so many indices, each 0 to 16
pub record Indices (n : ℕ) (xs : List ℕ) : Type 0 where
  pub sized : length xs ≡ n
  pub low : all_at_most 16 xs ≡ true

-- a filter by its flag
pub record FilterWithin (flag : ℕ) (filter : Filter) : Type 0 where
  pub absent : eqb flag 1 ≡ false → filter.order ≡ 0
  pub there : eqb flag 1 ≡ true → 1 ≤ filter.order
  pub most : filter.order ≤ 8
  pub indices : Indices filter.order filter.indices

pub record TnsWithin (first_flag second_flag : ℕ) (tns : Tns) : Type 0 where
  pub first : FilterWithin first_flag tns.first
  pub second : FilterWithin second_flag tns.second

-- a refusal 10 or 11, met in a step of a filter
in-filter : (step : Step) → tns_step step ≡ true → (r : Reply) → TenOrEleven r → TnsRefusal (in_step step r)
in-filter step ok r e =
    let ten = leb-true 10 r.number (and_left (leb 10 r.number) (leb r.number 11) e) in
    let both = and_both (leb 9 r.number) (leb r.number 11) (le-leb 9 r.number (omega arith)) (and_right (leb 10 r.number) (leb r.number 11) e) in
    rw (in-step-given step r both) (record { number = e; place = ok })

-- a row of a part that passes, and how long it is
pub part-row : (rows width r : ℕ) (xs : List ℕ) → part_passes rows width xs ≡ true → r < rows → row_passes (row_at width r xs) ≡ true
part-row rows width r xs e h = row-passed rows width r xs (and_right (eqb (length xs) (rows * width)) (rows_pass rows width xs) e) h

pub part_length : (rows width : ℕ) (xs : List ℕ) → part_passes rows width xs ≡ true → length xs ≡ rows * width
part_length rows width xs e = eqb-true (length xs) (rows * width) (and_left (eqb (length xs) (rows * width)) (rows_pass rows width xs) e)

row-length : (width k : ℕ) (xs : List ℕ) → length (row_at width k xs) ≤ width
row-length width k xs = omega (arith, length-take width (drop (k * width) xs))

-- behind an order's symbol: it is 0 to 7, and the range passes
pub order-behind : (orders : List ℕ) (weighting : ℕ) → part_passes 2 8 orders ≡ true → weighting ≤ 1 → (s : DecoderState) (f : List ℕ) (c : Cursor) → length f ≤ 65535 → range_passes s.range ≡ true → {r : Coded ℕ × Cursor} → symbol_by (row_at 8 weighting orders) s f c ≡ accepted r → (r.0.value ≤ 7) × (range_passes r.0.state.range ≡ true)
order-behind orders weighting passed listed s f c short ok e =
    let b = symbol-behind (row_at 8 weighting orders) (part-row 2 8 weighting orders passed (omega arith)) s f c short ok e in
    (omega (arith, b.known, row-length 8 weighting orders), b.range)

-- a symbol by a row, met in a step of a filter
symbol-keeps : (step : Step) → tns_step step ≡ true → (row : List ℕ) → row_passes row ≡ true → Keeps HeadMoved TnsRefusal (λ k. k < length row) (met step (symbol_by row))
symbol-keeps step ok row passed =
    met-symbol TnsRefusal step (λ head. in-filter step ok (head_past_end head) refl) (λ low limit. in-filter step ok (low_beyond_limit low limit) refl) head_byte row passed

no-indices : Indices 0 []
unfolding all_at_most
no-indices = record { sized = refl; low = refl }

never : {t : Bool} → t ≡ true → t ≡ false → ⊥
never a b = true≢false (sym a ∙ b)

module _ (coefficients : List ℕ) (passed : part_passes 8 17 coefficients ≡ true) (f : ℕ) (few : f < 2) where
  pub indices-keep : (n k : ℕ) → k + n ≤ 8 → Keeps HeadMoved TnsRefusal (Indices n) (read_indices coefficients f k n)
  unfolding read_indices all_at_most
  indices-keep zero k h = keeps-done TnsRefusal (Indices 0) [] no-indices
  indices-keep (suc n) k h =
      let row : List ℕ = row_at 17 k coefficients in
      keeps-onward TnsRefusal (λ i. i < length row) (Indices (suc n)) (met (coef f k) (symbol_by row)) _
      (symbol-keeps (coef f k) (and_both (ltb f 2) (ltb k 8) (lt-ltb f 2 few) (lt-ltb k 8 (omega arith))) row (part-row 8 17 k coefficients passed (omega arith)))
      (λ i there. keeps-onward TnsRefusal (Indices n) (Indices (suc n)) (read_indices coefficients f (k + 1) n) (λ rest. done (i ∷ rest))
      (indices-keep n (k + 1) (omega arith))
      (λ xs known. keeps-done TnsRefusal (Indices (suc n)) (i ∷ xs) (record {
        sized = ap suc known.sized;
        low = rw (le-leb i 16 (omega (arith, row-length 17 k coefficients))) known.low;
      })))

module _ (orders coefficients : List ℕ) (weighting : ℕ) (orders_pass : part_passes 2 8 orders ≡ true) (coefficients_pass : part_passes 8 17 coefficients ≡ true) (listed : weighting ≤ 1) where
  pub filter-keeps : (f flag : ℕ) → f < 2 → Keeps HeadMoved TnsRefusal (FilterWithin flag) (read_filter orders coefficients weighting f flag)
  filter-keeps f flag few =
      let row : List ℕ = row_at 8 weighting orders in
      keeps-if TnsRefusal (FilterWithin flag) (eqb flag 1) _ (done no_filter)
      (λ set. keeps-onward TnsRefusal (λ k. k < length row) (FilterWithin flag) (met (order f) (symbol_by row)) _
      (symbol-keeps (order f) (lt-ltb f 2 few) row (part-row 2 8 weighting orders orders_pass (omega arith)))
      (λ k there. keeps-onward TnsRefusal (Indices (k + 1)) (FilterWithin flag) (read_indices coefficients f 0 (k + 1)) (λ indices. done (record { order = k + 1; indices = indices }))
      (indices-keep coefficients coefficients_pass f few (k + 1) 0 (omega (arith, row-length 8 weighting orders)))
      (λ xs known. keeps-done TnsRefusal (FilterWithin flag) (record { order = k + 1; indices = xs }) (record {
        absent = λ e. absurd (never set e);
        there = λ e. omega arith;
        most = omega (arith, row-length 8 weighting orders);
        indices = known;
      }))))
      (λ unset. keeps-done TnsRefusal (FilterWithin flag) no_filter (record {
        absent = λ e. refl;
        there = λ e. absurd (never e unset);
        most = omega arith;
        indices = no-indices;
      }))

  pub tns-keeps : (first_flag second_flag : ℕ) → Keeps HeadMoved TnsRefusal (TnsWithin first_flag second_flag) (read_tns orders coefficients weighting first_flag second_flag)
  tns-keeps first_flag second_flag =
      keeps-onward TnsRefusal (FilterWithin first_flag) (TnsWithin first_flag second_flag) (read_filter orders coefficients weighting 0 first_flag) _
      (filter-keeps 0 first_flag (omega arith))
      (λ first known. keeps-onward TnsRefusal (FilterWithin second_flag) (TnsWithin first_flag second_flag) (read_filter orders coefficients weighting 1 second_flag) (λ second. done (record { first = first; second = second }))
      (filter-keeps 1 second_flag (omega arith))
      (λ second also. keeps-done TnsRefusal (TnsWithin first_flag second_flag) (record { first = first; second = second }) (record { first = known; second = also })))

  -- the theorems, of TNS data that was read and of a refusal
  module _ (first_flag second_flag : ℕ) (s : DecoderState) (f : List ℕ) (c : Cursor) (short : length f ≤ 65535) (ok : range_passes s.range ≡ true) where
    -- the range passes again, the head has not gone back nor out of the frame, the tail is as it was, and the orders and indices are within their limits
    pub tns-behind : {r : Coded Tns × Cursor} → read_tns orders coefficients weighting first_flag second_flag s f c ≡ accepted r → Behind HeadMoved (TnsWithin first_flag second_flag) f c r
    tns-behind e = keeps-at (tns-keeps first_flag second_flag) s f c short ok (head-here f c) e

    pub tns-refusal : {r : Reply} → read_tns orders coefficients weighting first_flag second_flag s f c ≡ refused r → TnsRefusal r
    tns-refusal e = keeps-refused (tns-keeps first_flag second_flag) s f c short ok (head-here f c) e
