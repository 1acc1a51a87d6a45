-- The symbols of TNS data that passes: an order 1 to 8 is a symbol of its row, each index 0 to 16 of its own, and they are at most
-- eighteen. Assumes nothing.
use Prim.Native.Nat.{ℕ, zero, suc, ◌+◌, ◌-◌, ◌*◌, ◌≤◌}
use mathlib.Core.Path.{◌≡◌, refl, ap, ◌∙◌}
use mathlib.Core.Bool.{Bool, true, cond, ◌&&◌}
use mathlib.Core.List.{List, [], ◌∷◌}
use native.Mathlib.Omega.{arith}
use borrow.Author.Tests.{leb-true, eqb-true, ne_eqb}
use lib.Dec.{leb, eqb}
use lib.ListN.{length, take, drop, length-append, length-take, length-drop}
use lib.Seq.{take-take}
use Rattle.common.specs.Tables.{row_at, part_passes, all_at_most}
use Rattle.common.proofs.Bools.{and_left, and_right, and_both}
use Rattle.range_encoder.specs.Runs.{Passes, AllPass, none, more}
use Rattle.sending.specs.Sending.{sent}
use Rattle.sending.proofs.Sends.{pass-append}
use Rattle.tns_data.specs.Sent.{sent_indices, sent_filter, sent_tns, tns_of, places_pass, filter_passes, tns_passes}
use Rattle.tns_data.specs.Private.{filter_at}
use Rattle.tns_data.proofs.Within.{part-row, part_length}

-- what a filter that passes is
pub record FilterGiven (flag order : ℕ) (places : List ℕ) : Type 0 where
  pub most : order ≤ 8
  pub flag_is : flag ≡ cond (eqb order 0) 0 1
  pub low : places_pass order places ≡ true

pub filter-given : (flag order : ℕ) (places : List ℕ) → filter_passes flag order places ≡ true → FilterGiven flag order places
filter-given flag order places e =
    let flagged : Bool = eqb flag (cond (eqb order 0) 0 1) in
    let two = and_left (leb order 8 && flagged) (places_pass order places) e in
    record {
      most = leb-true order 8 (and_left (leb order 8) flagged two);
      flag_is = eqb-true flag (cond (eqb order 0) 0 1) (and_right (leb order 8) flagged two);
      low = and_right (leb order 8 && flagged) (places_pass order places) e;
    }

pub tns-given : (first_flag second_flag first second : ℕ) (indices : List ℕ) → tns_passes first_flag second_flag first second indices ≡ true →
    FilterGiven first_flag first (take 8 indices) × FilterGiven second_flag second (drop 8 indices)
tns-given first_flag second_flag first second indices e =
    let one : Bool = filter_passes first_flag first (take 8 indices) in
    let two : Bool = filter_passes second_flag second (drop 8 indices) in
    (filter-given first_flag first (take 8 indices) (and_left one two e), filter-given second_flag second (drop 8 indices) (and_right one two e))

-- the indices below an order are 0 to 16
pub places-low : (n : ℕ) (places : List ℕ) → places_pass n places ≡ true → all_at_most 16 (take n places) ≡ true
unfolding places_pass all_at_most
places-low zero places e = refl
places-low (suc n) [] e = refl
places-low (suc n) (x ∷ xs) e =
    and_both (leb x 16) (all_at_most 16 (take n xs)) (and_left (leb x 16) (places_pass n xs) e) (places-low n xs (and_right (leb x 16) (places_pass n xs) e))

-- a row of a part that passes has the part's width
pub row_sized : (rows width k : ℕ) (xs : List ℕ) → part_passes rows width xs ≡ true → k * width + width ≤ rows * width → length (row_at width k xs) ≡ width
row_sized rows width k xs e h =
    let size = part_length rows width xs e in
    length-take width (drop (k * width) xs) ∙ omega (arith, length-drop (k * width) xs)

module _ (orders coefficients : List ℕ) (weighting : ℕ) (orders_pass : part_passes 2 8 orders ≡ true) (coefficients_pass : part_passes 8 17 coefficients ≡ true) (listed : weighting ≤ 1) where
  pub indices-pass : (k : ℕ) (xs : List ℕ) → k + length xs ≤ 8 → all_at_most 16 xs ≡ true → AllPass (sent_indices coefficients k xs)
  unfolding sent_indices all_at_most
  indices-pass k [] few low = none
  indices-pass k (x ∷ xs) few low =
      let size = row_sized 8 17 k coefficients coefficients_pass (omega arith) in
      let there : Passes (sent (row_at 17 k coefficients) x) =
      record {
        row-passes = part-row 8 17 k coefficients coefficients_pass (omega arith);
        symbol-there = omega (arith, size, leb-true x 16 (and_left (leb x 16) (all_at_most 16 xs) low));
      } in
      more there
      (indices-pass (k + 1) xs (omega arith) (and_right (leb x 16) (all_at_most 16 xs) low))

  pub filter_passes-sent : (n : ℕ) (xs : List ℕ) → n ≤ 8 → length xs ≤ 8 → all_at_most 16 xs ≡ true → AllPass (sent_filter orders coefficients weighting (record { order = n; indices = xs }))
  filter_passes-sent zero xs most few low = none
  filter_passes-sent (suc n) xs most few low =
      let size = row_sized 2 8 weighting orders orders_pass (omega arith) in
      let there : Passes (sent (row_at 8 weighting orders) (suc n - 1)) =
      record { row-passes = part-row 2 8 weighting orders orders_pass (omega arith); symbol-there = omega (arith, size) } in
      rw (ne_eqb (suc n) 0 (λ e. absurd (omega arith))) (more there (indices-pass 0 xs (omega arith) low))

  pub tns-all-pass : (first_flag second_flag first second : ℕ) (indices : List ℕ) → tns_passes first_flag second_flag first second indices ≡ true →
      AllPass (sent_tns orders coefficients weighting (tns_of first second indices))
  tns-all-pass first_flag second_flag first second indices e =
      let g = tns-given first_flag second_flag first second indices e in
      let low : all_at_most 16 (take first indices) ≡ true = rw (take-take first 8 indices g.0.most) at (places-low first (take 8 indices) g.0.low) in
      pass-append (sent_filter orders coefficients weighting (filter_at 0 first indices)) (sent_filter orders coefficients weighting (filter_at 8 second indices))
      (filter_passes-sent first (take first indices) g.0.most (omega (arith, g.0.most, length-take first indices)) low)
      (filter_passes-sent second (take second (drop 8 indices)) g.1.most (omega (arith, g.1.most, length-take second (drop 8 indices))) (places-low second (drop 8 indices) g.1.low))

module _ (orders coefficients : List ℕ) (weighting : ℕ) where
  pub indices-few : (k : ℕ) (xs : List ℕ) → length (sent_indices coefficients k xs) ≡ length xs
  unfolding sent_indices
  indices-few k [] = refl
  indices-few k (x ∷ xs) = ap suc (indices-few (k + 1) xs)

  filter-few : (n : ℕ) (xs : List ℕ) → length xs ≤ 8 → length (sent_filter orders coefficients weighting (record { order = n; indices = xs })) ≤ 9
  filter-few zero xs few = omega arith
  filter-few (suc n) xs few =
      rw (ne_eqb (suc n) 0 (λ e. absurd (omega arith))) (omega (arith, indices-few 0 xs))

  pub tns-few : (first second : ℕ) (indices : List ℕ) → first ≤ 8 → second ≤ 8 → length (sent_tns orders coefficients weighting (tns_of first second indices)) ≤ 18
  tns-few first second indices one two =
      let a = sent_filter orders coefficients weighting (record { order = first; indices = take first indices }) in
      let b = sent_filter orders coefficients weighting (record { order = second; indices = take second (drop 8 indices) }) in
      omega (arith, length-append a b, filter-few first (take first indices) (omega (arith, length-take first indices)), filter-few second (take second (drop 8 indices)) (omega (arith, length-take second (drop 8 indices))))
