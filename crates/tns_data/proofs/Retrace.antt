-- What an accepted reading of TNS data leaves: the symbols read are those that its filters send, so the range and the head are where
-- these leave the coder, and the tail is as it was. Assumes nothing.
use Prim.Native.Nat.{ℕ, zero, suc, ◌+◌, ◌-◌}
use mathlib.Core.Path.{◌≡◌, refl, sym, subst}
use mathlib.Core.Bool.{Bool, true, false, cond}
use mathlib.Core.List.{List, [], ◌∷◌}
use native.Mathlib.Omega.{arith}
use native.Mathlib.Nat.{add-zero}
use borrow.Author.Tests.{ne_eqb}
use lib.Dec.{eqb}
use Rattle.common.specs.Reply.{accepted, order, coef}
use Rattle.common.specs.Tables.{row_at}
use Rattle.common.proofs.Replies.{accepted-same, then-split}
use Rattle.buffer_reader.specs.declared.Cursor.{Cursor}
use Rattle.range_decoder.specs.declared.DecoderState.{DecoderState}
use Rattle.range_encoder.specs.Interval.{Interval, behind}
use Rattle.coding.specs.Coding.{Coded, done, onward, met, symbol_by}
use Rattle.sending.specs.Sending.{sent}
use Rattle.sending.proofs.Tracing.{Traced, traced-done, traced-on, traced-as, traced-symbol}
use Rattle.tns_data.specs.Tns.{Filter, no_filter, Tns, read_indices, read_filter, read_tns}
use Rattle.tns_data.specs.Sent.{sent_indices, sent_filter, sent_tns}

indices-traced : (coefficients : List ℕ) (filter k n : ℕ) (s : DecoderState) (f : List ℕ) (c : Cursor) (r : Coded (List ℕ) × Cursor) → read_indices coefficients filter k n s f c ≡ accepted r → Traced s c (sent_indices coefficients k r.0.value) 0 r
unfolding read_indices sent_indices
indices-traced coefficients filter k zero s f c r e =
    subst (λ (q : Coded (List ℕ) × Cursor). Traced s c (sent_indices coefficients k q.0.value) 0 q) (accepted-same e) (traced-done [] s f c _ refl)
indices-traced coefficients filter k (suc n) s f c r e =
    let row = row_at 17 k coefficients in
    let u = then-split (met (coef filter k) (symbol_by row) s f c) (λ q. onward (read_indices coefficients filter (k + 1) n) (λ rest. done (q.0.value ∷ rest)) q.0.state f q.1) e in
    let v = then-split (read_indices coefficients filter (k + 1) n u.0.0.state f u.0.1) (λ q. done (u.0.0.value ∷ q.0.value) q.0.state f q.1) u.2 in
    let one = traced-symbol (coef filter k) row s f c u.0 u.1 in
    let rest = indices-traced coefficients filter (k + 1) n u.0.0.state f u.0.1 v.0 v.1 in
    subst (λ (q : Coded (List ℕ) × Cursor). Traced s c (sent_indices coefficients k q.0.value) 0 q) (accepted-same v.2)
    (traced-as (u.0.0.value ∷ v.0.0.value) (traced-on s c (sent row u.0.0.value ∷ []) (sent_indices coefficients (k + 1) v.0.0.value) 0 0 u.0 v.0 one rest))

module _ (orders coefficients : List ℕ) (weighting : ℕ) where
  filter-traced : (filter : ℕ) (set : Bool) (s : DecoderState) (f : List ℕ) (c : Cursor) (r : Coded Filter × Cursor) →
      cond set (onward (met (order filter) (symbol_by (row_at 8 weighting orders))) (λ n. onward (read_indices coefficients filter 0 (n + 1)) (λ indices. done (record { order = n + 1; indices = indices })))) (done no_filter) s f c ≡ accepted r →
      Traced s c (sent_filter orders coefficients weighting r.0.value) 0 r
  filter-traced filter false s f c r e =
      subst (λ (q : Coded Filter × Cursor). Traced s c (sent_filter orders coefficients weighting q.0.value) 0 q) (accepted-same e) (traced-done no_filter s f c _ refl)
  filter-traced filter true s f c r e =
      let row = row_at 8 weighting orders in
      let u = then-split (met (order filter) (symbol_by row) s f c) (λ q. onward (read_indices coefficients filter 0 (q.0.value + 1)) (λ indices. done {A = Filter} (record { order = q.0.value + 1; indices = indices })) q.0.state f q.1) e in
      let n = u.0.0.value in
      let v = then-split (read_indices coefficients filter 0 (n + 1) u.0.0.state f u.0.1) (λ q. done {A = Filter} (record { order = n + 1; indices = q.0.value }) q.0.state f q.1) u.2 in
      let one = traced-symbol (order filter) row s f c u.0 u.1 in
      let rest = indices-traced coefficients filter 0 (n + 1) u.0.0.state f u.0.1 v.0 v.1 in
      let same : n + 1 - 1 ≡ n = omega arith in
      subst (λ (q : Coded Filter × Cursor). Traced s c (sent_filter orders coefficients weighting q.0.value) 0 q) (accepted-same v.2)
      (rw (ne_eqb (n + 1) 0 (λ z. absurd (omega arith)), same)
      (traced-as {B = Filter} (record { order = n + 1; indices = v.0.0.value }) (traced-on s c (sent row n ∷ []) (sent_indices coefficients 0 v.0.0.value) 0 0 u.0 v.0 one rest)))

  module _ (first_flag second_flag : ℕ) (s : DecoderState) (f : List ℕ) (c : Cursor) {r : Coded Tns × Cursor} (read : read_tns orders coefficients weighting first_flag second_flag s f c ≡ accepted r) where
    -- the law, from any interval where the coder is
    pub tns-along : Traced s c (sent_tns orders coefficients weighting r.0.value) 0 r
    tns-along =
        let u = then-split (read_filter orders coefficients weighting 0 first_flag s f c) (λ q. onward (read_filter orders coefficients weighting 1 second_flag) (λ second. done {A = Tns} (record { first = q.0.value; second = second })) q.0.state f q.1) read in
        let v = then-split (read_filter orders coefficients weighting 1 second_flag u.0.0.state f u.0.1) (λ q. done {A = Tns} (record { first = u.0.0.value; second = q.0.value }) q.0.state f q.1) u.2 in
        let one = filter-traced 0 (eqb first_flag 1) s f c u.0 u.1 in
        let two = filter-traced 1 (eqb second_flag 1) u.0.0.state f u.0.1 v.0 v.1 in
        subst (λ (q : Coded Tns × Cursor). Traced s c (sent_tns orders coefficients weighting q.0.value) 0 q) (accepted-same v.2)
        (traced-as {B = Tns} (record { first = u.0.0.value; second = v.0.0.value })
        (traced-on s c (sent_filter orders coefficients weighting u.0.0.value) (sent_filter orders coefficients weighting v.0.0.value) 0 0 u.0 v.0 one two))

    -- and from the one that begins there
    pub tns-retraces : let i : Interval = record { base = 0; range = s.range; shifts = 0 } in
        ((behind i (sent_tns orders coefficients weighting r.0.value)).range ≡ r.0.state.range) ×
        (r.1.head ≡ c.head + (behind i (sent_tns orders coefficients weighting r.0.value)).shifts)
    tns-retraces =
        let at = tns-along.place (record { base = 0; range = s.range; shifts = 0 }) c.head (record { range = refl; head = sym (add-zero c.head) }) in
        (sym at.range, at.head)
