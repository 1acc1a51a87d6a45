-- TNS data read back, by the forms of codings: a frame that holds its symbols gives each index, each order and so each filter that was
-- sent, and no tail bit. Assumes nothing.
use Prim.Native.Nat.{ℕ, zero, suc, ◌+◌, ◌-◌, ◌≤◌}
use mathlib.Core.Path.{◌≡◌, sym, subst, ◌∙◌}
use mathlib.Core.Bool.{true, cond}
use mathlib.Core.List.{List, [], ◌∷◌, ◌++◌}
use native.Mathlib.Omega.{arith}
use native.Mathlib.Nat.{add-zero}
use native.Mathlib.Numerals.{add-one}
use borrow.Author.Tests.{ne_eqb}
use lib.Dec.{eqb}
use lib.ListN.{length, drop, length-drop}
use lib.Seq.{length-take-le}
use Rattle.common.specs.Reply.{accepted, order, coef}
use Rattle.common.specs.Tables.{row_at}
use Rattle.buffer_reader.specs.Tail.{Bytes}
use Rattle.range_encoder.specs.Interval.{Sent, Interval, behind}
use Rattle.range_encoder.specs.Runs.{AllPass}
use Rattle.range_encoder.specs.Theory.{Within, Inside, state_at, cursor_at}
use Rattle.coding.specs.Coding.{met, symbol_by}
use Rattle.sending.specs.Sending.{sent, Stands}
use Rattle.sending.proofs.Standing.{came-whole, Back, back_done, back-onward, back_last, back-symbol}
use Rattle.tns_data.specs.Tns.{Filter, Tns, no_filter, read_indices, read_filter, read_tns}
use Rattle.tns_data.specs.Sent.{sent_indices, sent_filter, sent_tns, tns_of, tns_passes}
use Rattle.tns_data.proofs.Sends.{tns-given}

module _ (f : List ℕ) (bytes : Bytes f) (short : length f ≤ 65535) (At : ℕ → ℕ → Type 0) (orders coefficients : List ℕ) (weighting : ℕ) where
  -- indices, by as many as there are
  indices-back : (filter k : ℕ) (xs : List ℕ) → Back f bytes short At (read_indices coefficients filter k (length xs)) (sent_indices coefficients k xs) [] xs
  unfolding read_indices sent_indices
  indices-back filter k [] = back_done f bytes short At []
  indices-back filter k (x ∷ xs) =
      let row = row_at 17 k coefficients in
      back-onward f bytes short At (met (coef filter k) (symbol_by row)) _ (back-symbol f bytes short At (coef filter k) (sent row x))
      (back_last f bytes short At (read_indices coefficients filter (k + 1) (length xs)) (λ rest. x ∷ rest) (indices-back filter (k + 1) xs))

  -- a filter that is there: its order, then as many indices
  filter-some : (filter n : ℕ) (xs : List ℕ) → length xs ≡ n + 1 → Back f bytes short At (read_filter orders coefficients weighting filter 1) (sent (row_at 8 weighting orders) n ∷ sent_indices coefficients 0 xs) [] (record { order = n + 1; indices = xs })
  filter-some filter n xs size =
      let row = row_at 8 weighting orders in
      let all = back_last f bytes short At {B = Filter} (read_indices coefficients filter 0 (length xs)) (λ indices. record { order = n + 1; indices = indices }) (indices-back filter 0 xs) in
      back-onward f bytes short At (met (order filter) (symbol_by row)) _ (back-symbol f bytes short At (order filter) (sent row n)) (rw size at all)

  -- a filter by its flag, which is set exactly where the order is not 0
  filter-back : (filter flag n : ℕ) (xs : List ℕ) → length xs ≡ n → flag ≡ cond (eqb n 0) 0 1 →
      Back f bytes short At (read_filter orders coefficients weighting filter flag) (sent_filter orders coefficients weighting (record { order = n; indices = xs })) [] (record { order = n; indices = xs })
  filter-back filter flag zero [] size set = rw set (back_done f bytes short At no_filter)
  filter-back filter flag zero (x ∷ xs) size set = absurd (omega arith)
  filter-back filter flag (suc n) xs size set =
      let one : suc n - 1 ≡ n = omega arith in
      let some = subst (λ (m : ℕ). Back f bytes short At (read_filter orders coefficients weighting filter 1) (sent (row_at 8 weighting orders) n ∷ sent_indices coefficients 0 xs) [] (record { order = m; indices = xs })) (add-one n) (filter-some filter n xs (size ∙ sym (add-one n))) in
      rw (set, ne_eqb (suc n) 0 (λ e. absurd (omega arith)), one) some

  both-back : (first_flag second_flag : ℕ) (tns : Tns) → length tns.first.indices ≡ tns.first.order → length tns.second.indices ≡ tns.second.order →
      first_flag ≡ cond (eqb tns.first.order 0) 0 1 → second_flag ≡ cond (eqb tns.second.order 0) 0 1 →
      Back f bytes short At (read_tns orders coefficients weighting first_flag second_flag) (sent_tns orders coefficients weighting tns) [] tns
  both-back first_flag second_flag tns one two set also =
      back-onward f bytes short At (read_filter orders coefficients weighting 0 first_flag) _
      (filter-back 0 first_flag tns.first.order tns.first.indices one set)
      (back_last f bytes short At {B = Tns} (read_filter orders coefficients weighting 1 second_flag) (λ b. record { first = tns.first; second = b })
      (filter-back 1 second_flag tns.second.order tns.second.indices two also))

  -- the law: what passes is read back as it was written
  pub tns-held : (first_flag second_flag first second : ℕ) (indices : List ℕ) → length indices ≡ 16 → tns_passes first_flag second_flag first second indices ≡ true →
      Back f bytes short At (read_tns orders coefficients weighting first_flag second_flag) (sent_tns orders coefficients weighting (tns_of first second indices)) [] (tns_of first second indices)
  tns-held first_flag second_flag first second indices size passes =
      let g = tns-given first_flag second_flag first second indices passes in
      both-back first_flag second_flag (tns_of first second indices)
      (length-take-le first indices (omega (arith, g.0.most)))
      (length-take-le second (drop 8 indices) (omega (arith, g.1.most, length-drop 8 indices)))
      g.0.flag_is
      g.1.flag_is

module _ (orders coefficients : List ℕ) (weighting : ℕ) where
  -- the stage on a frame that holds its symbols, whatever symbols follow, from any tail
  pub tns-back : (first_flag second_flag first second : ℕ) (indices : List ℕ) → length indices ≡ 16 → tns_passes first_flag second_flag first second indices ≡ true →
      (f : List ℕ) (tail : ℕ) (i : Interval) (rest : List Sent) →
      let xs = sent_tns orders coefficients weighting (tns_of first second indices) in
      Bytes f → length f ≤ 65535 → Within i → AllPass (xs ++ rest) → 3 + (behind i (xs ++ rest)).shifts ≤ length f → Inside f 0 (behind i (xs ++ rest)) →
      read_tns orders coefficients weighting first_flag second_flag (state_at f 0 i) f (cursor_at (record { head = 0; tail = tail }) i)
      ≡ accepted (record { value = tns_of first second indices; state = state_at f 0 (behind i xs) }, cursor_at (record { head = 0; tail = tail }) (behind i xs))
  unfolding Stands
  tns-back first_flag second_flag first second indices size passes f tail i rest bytes short within all head inside =
      rw (add-zero tail) at
      (came-whole
      ((tns-held f bytes short (λ p level. ⊥) orders coefficients weighting first_flag second_flag first second indices size passes).at i tail rest []
      (record { within = within; all = all; inside = inside; head = head; stands = tt }))
      (λ some. absurd (omega arith)))
