-- Symbols that are left to send, of those that are all: from the state and the buffer so far they make what all make from the first.
-- Assumes nothing.
use Prim.Native.Nat.{ℕ}
use mathlib.Core.Path.{◌≡◌, refl, sym, subst, ◌∙◌}
use mathlib.Core.Bool.{Bool}
use mathlib.Core.List.{List, [], ◌∷◌, ◌++◌}
use lib.ListN.{length}
use Rattle.range_encoder.specs.Interval.{Sent}
use Rattle.range_encoder.specs.declared.EncoderState.{EncoderState}
use Rattle.sending.specs.Private.{Ready, sent_one, laid_one, sent_all, laid_all}
use Rattle.sending.proofs.Sends.{sent-append, laid-append, laid-all-length, sent-none, laid_none, ready-behind}

pub record Left (writing : Bool) (s₀ : EncoderState) (f₀ : List ℕ) (all : List Sent) (s : EncoderState) (f : List ℕ) (left : List Sent) : Type 0 where
  pub ready : Ready writing s (length f) left
  pub size : length f ≡ length f₀
  pub state : sent_all writing s left ≡ sent_all writing s₀ all
  pub lent : laid_all writing s f left ≡ laid_all writing s₀ f₀ all

module _ (writing : Bool) (s₀ : EncoderState) (f₀ : List ℕ) (all : List Sent) where
  -- at the start all are left
  pub left-start : Ready writing s₀ (length f₀) all → Left writing s₀ f₀ all s₀ f₀ all
  left-start h = record { ready = h; size = refl; state = refl; lent = refl }

  module _ (s : EncoderState) (f : List ℕ) where
    -- several sent
    pub left-on : (xs ys : List Sent) (r : EncoderState) (g : List ℕ) → Left writing s₀ f₀ all s f (xs ++ ys) → r ≡ sent_all writing s xs → g ≡ laid_all writing s f xs → Left writing s₀ f₀ all r g ys
    left-on xs ys r g l state lent =
        let size : length (laid_all writing s f xs) ≡ length f = laid-all-length writing s f xs in
        rw (state, lent)
        (record {
          ready = subst (λ (n : ℕ). Ready writing (sent_all writing s xs) n ys) (sym size) (ready-behind writing s (length f) xs ys l.ready);
          size = size ∙ l.size;
          state = sym (sent-append writing s xs ys) ∙ l.state;
          lent = sym (laid-append writing s f xs ys) ∙ l.lent;
        })

    -- and one
    pub left-next : (x : Sent) (xs : List Sent) (r : EncoderState) (g : List ℕ) → Left writing s₀ f₀ all s f (x ∷ xs) → r ≡ sent_one writing s x → g ≡ laid_one writing s f x → Left writing s₀ f₀ all r g xs
    unfolding sent_all laid_all
    left-next x xs = left-on (x ∷ []) xs

    -- and all that are left
    pub left-all : (xs : List Sent) (r : EncoderState) (g : List ℕ) → Left writing s₀ f₀ all s f xs → r ≡ sent_all writing s xs → g ≡ laid_all writing s f xs → (r ≡ sent_all writing s₀ all) × (g ≡ laid_all writing s₀ f₀ all)
    left-all xs r g l state lent = (state ∙ l.state, lent ∙ l.lent)

    -- at the end none are
    pub left-none : Left writing s₀ f₀ all s f [] → (s ≡ sent_all writing s₀ all) × (f ≡ laid_all writing s₀ f₀ all)
    left-none l = (sym (sent-none writing s) ∙ l.state, sym (laid_none writing s f) ∙ l.lent)
