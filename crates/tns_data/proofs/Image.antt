-- What the reader returns, the writer takes: an order is 0 exactly without its flag, its indices are 0 to 16, and the places behind
-- them hold 0; so two orders and sixteen places are the two filters again. Assumes nothing.
use Prim.Native.Nat.{ℕ, zero, suc, ◌-◌, ◌≤◌}
use mathlib.Core.Path.{◌≡◌, refl, ap, subst, ◌∙◌}
use mathlib.Core.Bool.{true, cond}
use mathlib.Core.List.{List, [], ◌∷◌, ◌++◌}
use native.Mathlib.Omega.{arith}
use borrow.Author.Tests.{le-leb, eq-eqb, ne_eqb, eqb-false}
use lib.Dec.{leb, eqb}
use lib.ListN.{length, take, drop, length-append, length-replicate}
use lib.Seq.{length-take-le, take-append-le, take-take, take_at, drop_at}
use Rattle.common.specs.Reply.{accepted}
use Rattle.common.specs.Tables.{part_passes, all_at_most}
use Rattle.common.proofs.Bools.{by-test, and_left, and_right, and_both}
use Rattle.buffer_reader.specs.declared.Cursor.{Cursor}
use Rattle.range_decoder.specs.Decoder.{range_passes}
use Rattle.range_decoder.specs.declared.DecoderState.{DecoderState}
use Rattle.coding.specs.Coding.{Coded}
use Rattle.tns_data.specs.Tns.{Filter, Tns, read_tns, eight_of, sixteen_of}
use Rattle.tns_data.specs.Sent.{tns_of, places_pass, filter_passes, tns_passes}
use Rattle.tns_data.proofs.Within.{FilterWithin, TnsWithin, tns-behind}
use Rattle.tns_data.proofs.Filters.{zeros, take-padded}

-- indices 0 to 16, and zeros behind them
zeros-pass : (n : ℕ) → places_pass 0 (zeros n) ≡ true
unfolding places_pass
zeros-pass zero = refl
zeros-pass (suc n) = zeros-pass n

padded-passes : (xs : List ℕ) (n : ℕ) → all_at_most 16 xs ≡ true → places_pass (length xs) (xs ++ zeros n) ≡ true
unfolding places_pass all_at_most
padded-passes [] n low = zeros-pass n
padded-passes (x ∷ xs) n low =
    and_both (leb x 16) (places_pass (length xs) (xs ++ zeros n)) (and_left (leb x 16) (all_at_most 16 xs) low) (padded-passes xs n (and_right (leb x 16) (all_at_most 16 xs) low))

-- the places are eight, and sixteen
eight-length : (filter : Filter) → length (eight_of filter) ≡ 8
eight-length filter =
    length-take-le 8 (filter.indices ++ zeros 8) (omega (arith, length-append filter.indices (zeros 8), length-replicate {A = ℕ} 8 0))

pub sixteen-length : (tns : Tns) → length (sixteen_of tns) ≡ 16
sixteen-length tns =
    omega (arith, length-append (eight_of tns.first) (eight_of tns.second), eight-length tns.first, eight-length tns.second)

module _ (flag : ℕ) (filter : Filter) (listed : flag ≤ 1) (known : FilterWithin flag filter) where
  flag-given : eqb flag (cond (eqb filter.order 0) 0 1) ≡ true
  flag-given =
      by-test (eqb flag 1)
      (λ e. rw (ne_eqb filter.order 0 (λ z. absurd (omega (arith, known.there e)))) e)
      (λ e. let unset = eqb-false flag 1 e in rw (known.absent e) (eq-eqb flag 0 (omega arith)))

  -- a filter that was read passes beside its flag
  image-passes : filter_passes flag filter.order (eight_of filter) ≡ true
  image-passes =
      let xs = filter.indices in
      let size = known.indices.sized in
      let places = subst (λ (n : ℕ). places_pass n (xs ++ zeros (8 - length xs)) ≡ true) size (padded-passes xs (8 - length xs) known.indices.low) in
      rw (take-padded xs 8 8 (omega (arith, known.most)) (omega arith), le-leb filter.order 8 known.most, flag-given) places

  image-indices : take filter.order (eight_of filter) ≡ filter.indices
  image-indices =
      take-take filter.order 8 (filter.indices ++ zeros 8) known.most ∙
      take_at filter.indices (zeros 8) filter.order known.indices.sized

-- both filters, from the sixteen places
module _ (first_flag second_flag : ℕ) (tns : Tns) (listed : first_flag ≤ 1) (also : second_flag ≤ 1) (known : TnsWithin first_flag second_flag tns) where
  front : take 8 (sixteen_of tns) ≡ eight_of tns.first
  front = take_at (eight_of tns.first) (eight_of tns.second) 8 (eight-length tns.first)

  back : drop 8 (sixteen_of tns) ≡ eight_of tns.second
  back = drop_at (eight_of tns.first) (eight_of tns.second) 8 (eight-length tns.first)

  within-passes : tns_passes first_flag second_flag tns.first.order tns.second.order (sixteen_of tns) ≡ true
  within-passes =
      rw (front, back)
      (and_both (filter_passes first_flag tns.first.order (eight_of tns.first)) (filter_passes second_flag tns.second.order (eight_of tns.second))
      (image-passes first_flag tns.first listed known.first)
      (image-passes second_flag tns.second also known.second))

  within_same : tns_of tns.first.order tns.second.order (sixteen_of tns) ≡ tns
  within_same =
      let size = eight-length tns.first in
      let one : take tns.first.order (sixteen_of tns) ≡ tns.first.indices =
      take-append-le tns.first.order (eight_of tns.first) (eight_of tns.second) (omega (arith, known.first.most)) ∙
      image-indices first_flag tns.first listed known.first in
      let two : take tns.second.order (drop 8 (sixteen_of tns)) ≡ tns.second.indices =
      ap (take tns.second.order) back ∙ image-indices second_flag tns.second also known.second in
      rw (one, two) refl

-- the law, of any TNS data that was read
module _ (orders coefficients : List ℕ) (weighting : ℕ) (orders_pass : part_passes 2 8 orders ≡ true) (coefficients_pass : part_passes 8 17 coefficients ≡ true) (listed : weighting ≤ 1) where
  pub tns-image : (first_flag second_flag : ℕ) → first_flag ≤ 1 → second_flag ≤ 1 → (s : DecoderState) (f : List ℕ) (c : Cursor) → length f ≤ 65535 → range_passes s.range ≡ true →
      {r : Coded Tns × Cursor} → read_tns orders coefficients weighting first_flag second_flag s f c ≡ accepted r →
      (tns_passes first_flag second_flag r.0.value.first.order r.0.value.second.order (sixteen_of r.0.value) ≡ true) ×
      (tns_of r.0.value.first.order r.0.value.second.order (sixteen_of r.0.value) ≡ r.0.value)
  tns-image first_flag second_flag one two s f c short ok {r} e =
      let b = tns-behind orders coefficients weighting orders_pass coefficients_pass listed first_flag second_flag s f c short ok e in
      (within-passes first_flag second_flag r.0.value one two b.known, within_same first_flag second_flag r.0.value one two b.known)
