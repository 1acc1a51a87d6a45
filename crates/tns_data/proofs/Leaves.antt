-- A loop that sends a filter's indices: what is left to send from place k on, from the state and the buffer as they are, makes what all
-- of them make from the start; and behind a filter's order its indices are left. Assumes nothing.
use Prim.Native.Nat.{ℕ, suc, ◌+◌, ◌-◌, ◌≤◌, ◌<◌}
use mathlib.Core.Path.{◌≡◌, refl, sym, subst}
use mathlib.Core.Bool.{Bool}
use mathlib.Core.List.{List, [], ◌∷◌}
use native.Mathlib.Omega.{arith}
use native.Mathlib.Nat.{add-zero, sub-zero}
use borrow.Author.Tests.{eq-eqb, ne_eqb}
use lib.ListN.{length, take, drop, get_or}
use lib.Seq.{drop-cons}
use Rattle.common.specs.Tables.{row_at}
use Rattle.range_encoder.specs.Interval.{Sent}
use Rattle.range_encoder.specs.declared.EncoderState.{EncoderState}
use Rattle.sending.specs.Sending.{sent}
use Rattle.sending.specs.Private.{Ready, sent_one, laid_one, sent_all, laid_all}
use Rattle.sending.proofs.Left.{Left, left-start, left-next, left-none}
use Rattle.sending.proofs.Sends.{sent-none, laid_none, ready-first}
use Rattle.tns_data.specs.Sent.{sent_indices, sent_filter}
use Rattle.tns_data.specs.Private.{filter_at}

-- a filter's indices, and what is left of them from place k on
abbrev pub all_indices : List ℕ → List ℕ → ℕ → ℕ → List Sent
all_indices coefficients indices from order = sent_indices coefficients 0 (take order (drop from indices))

abbrev pub indices_from : List ℕ → List ℕ → ℕ → ℕ → ℕ → List Sent
indices_from coefficients indices from order k = sent_indices coefficients k (take (order - k) (drop (from + k) indices))

module _ (coefficients indices : List ℕ) (from order : ℕ) where
  pub from_start : indices_from coefficients indices from order 0 ≡ all_indices coefficients indices from order
  from_start = rw (add-zero from, sub-zero order) refl

  pub from-turn : (k : ℕ) → k < order → from + order ≤ length indices →
      indices_from coefficients indices from order k ≡ sent (row_at 17 k coefficients) (get_or indices (from + k) 0) ∷ indices_from coefficients indices from order (k + 1)
  unfolding sent_indices
  from-turn k some within =
      let more : order - k ≡ suc (order - (k + 1)) = omega arith in
      let on : from + (k + 1) ≡ suc (from + k) = omega arith in
      rw (more, on, drop-cons indices (from + k) 0 (omega arith)) refl

  pub from_end : (k : ℕ) → order ≤ k → indices_from coefficients indices from order k ≡ []
  unfolding sent_indices
  from_end k none = let nothing : order - k ≡ 0 = omega arith in rw nothing refl

-- the loop: its start, what a turn asks for and leaves, and its end
module _ (writing : Bool) (s₀ : EncoderState) (f₀ : List ℕ) (coefficients indices : List ℕ) (from order : ℕ) where
  pub indices-leave : Ready writing s₀ (length f₀) (all_indices coefficients indices from order) →
      Left writing s₀ f₀ (all_indices coefficients indices from order) s₀ f₀ (indices_from coefficients indices from order 0)
  indices-leave h =
      subst (Left writing s₀ f₀ (all_indices coefficients indices from order) s₀ f₀) (sym (from_start coefficients indices from order)) (left-start writing s₀ f₀ (all_indices coefficients indices from order) h)

  module _ (s : EncoderState) (f : List ℕ) (k : ℕ) (h : Left writing s₀ f₀ (all_indices coefficients indices from order) s f (indices_from coefficients indices from order k)) where
    pub indices-ready : k < order → from + order ≤ length indices → Ready writing s (length f) (sent (row_at 17 k coefficients) (get_or indices (from + k) 0) ∷ [])
    indices-ready some within =
        let x = sent (row_at 17 k coefficients) (get_or indices (from + k) 0) in
        let xs = indices_from coefficients indices from order (k + 1) in
        ready-first writing s (length f) x xs (subst (Ready writing s (length f)) (from-turn coefficients indices from order k some within) h.ready)

    pub indices-next : k < order → from + order ≤ length indices → {r : EncoderState} {g : List ℕ} → r ≡ sent_one writing s (sent (row_at 17 k coefficients) (get_or indices (from + k) 0)) → g ≡ laid_one writing s f (sent (row_at 17 k coefficients) (get_or indices (from + k) 0)) →
        Left writing s₀ f₀ (all_indices coefficients indices from order) r g (indices_from coefficients indices from order (k + 1))
    indices-next some within state lent =
        let x = sent (row_at 17 k coefficients) (get_or indices (from + k) 0) in
        let xs = indices_from coefficients indices from order (k + 1) in
        left-next writing s₀ f₀ (all_indices coefficients indices from order) s f x xs _ _ (subst (Left writing s₀ f₀ (all_indices coefficients indices from order) s f) (from-turn coefficients indices from order k some within) h) state lent

    pub indices-done : order ≤ k → (s ≡ sent_all writing s₀ (all_indices coefficients indices from order)) × (f ≡ laid_all writing s₀ f₀ (all_indices coefficients indices from order))
    indices-done none =
        left-none writing s₀ f₀ (all_indices coefficients indices from order) s f (subst (Left writing s₀ f₀ (all_indices coefficients indices from order) s f) (from_end coefficients indices from order k none) h)

-- a filter by its order
module _ (orders coefficients : List ℕ) (weighting from order : ℕ) (indices : List ℕ) where
  pub filter_none : order ≡ 0 → sent_filter orders coefficients weighting (filter_at from order indices) ≡ []
  filter_none e = rw (eq-eqb order 0 e) refl

  pub filter-some : (order ≡ 0 → ⊥) → sent_filter orders coefficients weighting (filter_at from order indices) ≡ sent (row_at 8 weighting orders) (order - 1) ∷ all_indices coefficients indices from order
  filter-some h = rw (ne_eqb order 0 h) refl

  module _ (writing : Bool) (s : EncoderState) (f : List ℕ) where
    pub filter-empty : order ≡ 0 → (s ≡ sent_all writing s (sent_filter orders coefficients weighting (filter_at from order indices))) × (f ≡ laid_all writing s f (sent_filter orders coefficients weighting (filter_at from order indices)))
    filter-empty e = rw (filter_none e) (sym (sent-none writing s), sym (laid_none writing s f))

    module _ (some : order ≡ 0 → ⊥) (h : Ready writing s (length f) (sent_filter orders coefficients weighting (filter_at from order indices))) where
      pub order-ready : Ready writing s (length f) (sent (row_at 8 weighting orders) (order - 1) ∷ [])
      order-ready =
          ready-first writing s (length f) (sent (row_at 8 weighting orders) (order - 1)) (all_indices coefficients indices from order) (subst (Ready writing s (length f)) (filter-some some) h)

      -- behind the order its indices are left
      pub order-next : {r : EncoderState} {g : List ℕ} → r ≡ sent_one writing s (sent (row_at 8 weighting orders) (order - 1)) → g ≡ laid_one writing s f (sent (row_at 8 weighting orders) (order - 1)) →
          Left writing s f (sent_filter orders coefficients weighting (filter_at from order indices)) r g (all_indices coefficients indices from order)
      order-next state lent =
          let whole = sent_filter orders coefficients weighting (filter_at from order indices) in
          left-next writing s f whole s f (sent (row_at 8 weighting orders) (order - 1)) (all_indices coefficients indices from order) _ _
          (subst (Left writing s f whole s f) (filter-some some) (left-start writing s f whole h)) state lent
