-- The symbols of the pairs: each is one of a row that passes, and a pair has at most fourteen, thirteen escapes and its last. And the
-- symbols from here on, one escape and one pair at a time. Assumes nothing.
use Prim.Native.Nat.{ℕ, zero, suc, ◌+◌, ◌-◌, ◌*◌, ◌≤◌, ◌<◌}
use mathlib.Core.Path.{◌≡◌, refl, sym, ap, subst, ◌∙◌}
use mathlib.Core.Bool.{Bool, true}
use mathlib.Core.List.{List, [], ◌∷◌, ◌++◌, append_assoc}
use native.Mathlib.Omega.{arith}
use native.Mathlib.Nat.{zero-add}
use borrow.Author.Tests.{eqb-true}
use lib.Dec.{eqb}
use lib.IntN.{ℤ}
use lib.ListN.{length, drop, length-append, length-take, length-drop}
use Rattle.common.specs.Tables.{row_at, rows_pass, lookup_passes, part_passes}
use Rattle.common.proofs.Bools.{and_left}
use Rattle.contexts.specs.Contexts.{lookup_start, row_of, escape_symbol, escapes, pair_symbol, context_behind}
use Rattle.contexts.specs.Lines.{magnitude_at}
use Rattle.contexts.proofs.Escapes.{escapes-most, pair-symbol-low}
use Rattle.contexts.proofs.Lookups.{row_low}
use Rattle.range_encoder.specs.Interval.{Sent}
use Rattle.range_encoder.specs.Runs.{Passes, AllPass, none, more}
use Rattle.range_encoder.specs.declared.EncoderState.{EncoderState}
use Rattle.sending.specs.Sending.{sent}
use Rattle.sending.specs.Private.{Ready, sent_one, laid_one, sent_all, laid_all}
use Rattle.sending.proofs.Left.{Left, left-next, left-on}
use Rattle.sending.proofs.Sends.{pass-append, ready-before}
use Rattle.spectral_data.specs.Sent.{sent_escapes, sent_pair, sent_pairs}
use Rattle.spectral_data.specs.Private.{Modest}
use Rattle.spectral_data.proofs.Bounds.{row_ok}

module _ (lookup frequencies : List ℕ) (looked : lookup_passes lookup ≡ true) (rows : part_passes 64 17 frequencies ≡ true) where
  pub frequencies-length : length frequencies ≡ 64 * 17
  frequencies-length = eqb-true (length frequencies) (64 * 17) (and_left (eqb (length frequencies) (64 * 17)) (rows_pass 64 17 frequencies) rows)

  -- a row that a lookup names has its 17 entries
  pub row-long : (t level : ℕ) → length (row_at 17 (row_of lookup t level) frequencies) ≡ 17
  row-long t level =
      omega (arith, length-take 17 (drop (row_of lookup t level * 17) frequencies), length-drop (row_of lookup t level * 17) frequencies, row_low lookup looked t level, frequencies-length)

  pub symbol-passes : (t level k : ℕ) → k ≤ escape_symbol → Passes (sent (row_at 17 (row_of lookup t level) frequencies) k)
  symbol-passes t level k h =
      record { row-passes = row_ok lookup frequencies looked rows t level; symbol-there = omega (arith, row-long t level) }

  pub escapes-all-pass : (t level n : ℕ) → AllPass (sent_escapes lookup frequencies t level n)
  unfolding sent_escapes
  escapes-all-pass t level zero = none
  escapes-all-pass t level (suc n) = more (symbol-passes t level escape_symbol (omega arith)) (escapes-all-pass t (level + 1) n)

  pub pair-all-pass : (t a b : ℕ) → a ≤ 32767 → b ≤ 32767 → AllPass (sent_pair lookup frequencies t a b)
  pair-all-pass t a b p q =
      pass-append (sent_escapes lookup frequencies t 0 (escapes a b)) _ (escapes-all-pass t 0 (escapes a b))
      (more (symbol-passes t (escapes a b) (pair_symbol a b) (omega (arith, pair-symbol-low a b (omega arith) (omega arith)))) none)

  pub pairs-all-pass : (rate ne : ℕ) (lines : List ℤ) → Modest lines → (p n context : ℕ) → AllPass (sent_pairs lookup frequencies rate ne lines p n context)
  unfolding sent_pairs
  pairs-all-pass rate ne lines modest p zero context = none
  pairs-all-pass rate ne lines modest p (suc n) context =
      let a = magnitude_at lines (2 * p) in
      let b = magnitude_at lines (2 * p + 1) in
      pass-append (sent_pair lookup frequencies (lookup_start context rate ne (2 * p)) a b) _
      (pair-all-pass (lookup_start context rate ne (2 * p)) a b (modest (2 * p)) (modest (2 * p + 1)))
      (pairs-all-pass rate ne lines modest (p + 1) n (context_behind context a b))

-- ---- how many they are

module _ (lookup frequencies : List ℕ) where
  pub escapes-count : (t level n : ℕ) → length (sent_escapes lookup frequencies t level n) ≡ n
  unfolding sent_escapes
  escapes-count t level zero = refl
  escapes-count t level (suc n) = omega (arith, escapes-count t (level + 1) n)

  pub pair-few : (t a b : ℕ) → a ≤ 32767 → b ≤ 32767 → length (sent_pair lookup frequencies t a b) ≤ 14
  pair-few t a b p q =
      rw (length-append (sent_escapes lookup frequencies t 0 (escapes a b)))
      (omega (arith, escapes-count t 0 (escapes a b), escapes-most a b (omega arith) (omega arith)))

  pub pairs-few : (rate ne : ℕ) (lines : List ℤ) → Modest lines → (p n context : ℕ) → length (sent_pairs lookup frequencies rate ne lines p n context) ≤ 14 * n
  unfolding sent_pairs
  pairs-few rate ne lines modest p zero context = omega arith
  pairs-few rate ne lines modest p (suc n) context =
      let a = magnitude_at lines (2 * p) in
      let b = magnitude_at lines (2 * p + 1) in
      rw (length-append (sent_pair lookup frequencies (lookup_start context rate ne (2 * p)) a b))
      (omega (arith, pair-few (lookup_start context rate ne (2 * p)) a b (modest (2 * p)) (modest (2 * p + 1)), pairs-few rate ne lines modest (p + 1) n (context_behind context a b)))

  -- ---- what is left to send

  -- those of the first pairs begin those of all
  pub sent_front : (rate ne : ℕ) (lines : List ℤ) (p m r context : ℕ) → (rest : List Sent) × (sent_pairs lookup frequencies rate ne lines p (m + r) context ≡ sent_pairs lookup frequencies rate ne lines p m context ++ rest)
  unfolding sent_pairs
  sent_front rate ne lines p zero r context =
      (sent_pairs lookup frequencies rate ne lines p r context, rw (zero-add r) refl)
  sent_front rate ne lines p (suc m) r context =
      let a = magnitude_at lines (2 * p) in
      let b = magnitude_at lines (2 * p + 1) in
      let later = sent_front rate ne lines (p + 1) m r (context_behind context a b) in
      let one = sent_pair lookup frequencies (lookup_start context rate ne (2 * p)) a b in
      let more : suc m + r ≡ suc (m + r) = omega arith in
      (later.0, rw more (ap (λ (xs : List Sent). one ++ xs) later.1 ∙ sym (append_assoc one (sent_pairs lookup frequencies rate ne lines (p + 1) m (context_behind context a b)) later.0)))

-- one symbol sent, by the row and the number that the code has
pub left-symbol : (writing : Bool) (s₀ : EncoderState) (f₀ : List ℕ) (all : List Sent) (s : EncoderState) (f : List ℕ) (part : List ℕ) (row row' symbol symbol' : ℕ) (xs : List Sent) (r : EncoderState) (g : List ℕ) → row ≡ row' → symbol ≡ symbol' →
    Left writing s₀ f₀ all s f (sent (row_at 17 row' part) symbol' ∷ xs) → r ≡ sent_one writing s (sent (row_at 17 row part) symbol) → g ≡ laid_one writing s f (sent (row_at 17 row part) symbol) → Left writing s₀ f₀ all r g xs
left-symbol writing s₀ f₀ all s f part row row' symbol symbol' xs r g e d l state lent =
    left-next writing s₀ f₀ all s f (sent (row_at 17 row part) symbol) xs r g (rw (e, d) l) state lent

-- ---- one turn of each loop

module _ (lookup frequencies : List ℕ) where
  pub escapes-turn : (t level n : ℕ) → level < n → sent_escapes lookup frequencies t level (n - level) ≡ sent (row_at 17 (row_of lookup t level) frequencies) escape_symbol ∷ sent_escapes lookup frequencies t (level + 1) (n - (level + 1))
  unfolding sent_escapes
  escapes-turn t level n h = let one : n - level ≡ suc (n - (level + 1)) = omega arith in rw one refl

  pub escapes-end : (t level n : ℕ) → n ≤ level → sent_escapes lookup frequencies t level (n - level) ≡ []
  unfolding sent_escapes
  escapes-end t level n h = let none : n - level ≡ 0 = omega arith in rw none refl

  module _ (rate ne : ℕ) (lines : List ℤ) where
    pub pairs-turn : (p n context : ℕ) → p < n →
        let a = magnitude_at lines (2 * p) in
        let b = magnitude_at lines (2 * p + 1) in
        sent_pairs lookup frequencies rate ne lines p (n - p) context ≡ sent_pair lookup frequencies (lookup_start context rate ne (2 * p)) a b ++ sent_pairs lookup frequencies rate ne lines (p + 1) (n - (p + 1)) (context_behind context a b)
    unfolding sent_pairs
    pairs-turn p n context h = let one : n - p ≡ suc (n - (p + 1)) = omega arith in rw one refl

    pub pairs_end : (p n context : ℕ) → n ≤ p → sent_pairs lookup frequencies rate ne lines p (n - p) context ≡ []
    unfolding sent_pairs
    pairs_end p n context h = let none : n - p ≡ 0 = omega arith in rw none refl

    -- a pair, by the numbers that the code has
    module _ (p n context start a b : ℕ) (h : p < n) (at : start ≡ lookup_start context rate ne (2 * p)) (first : a ≡ magnitude_at lines (2 * p)) (second : b ≡ magnitude_at lines (2 * p + 1)) where
      pair_turn : sent_pairs lookup frequencies rate ne lines p (n - p) context ≡ sent_pair lookup frequencies start a b ++ sent_pairs lookup frequencies rate ne lines (p + 1) (n - (p + 1)) (context_behind context a b)
      pair_turn = rw (at, first, second) (pairs-turn p n context h)

      module _ (writing : Bool) (s₀ : EncoderState) (f₀ : List ℕ) (all : List Sent) (s : EncoderState) (f : List ℕ) (l : Left writing s₀ f₀ all s f (sent_pairs lookup frequencies rate ne lines p (n - p) context)) where
        pair_left : Left writing s₀ f₀ all s f (sent_pair lookup frequencies start a b ++ sent_pairs lookup frequencies rate ne lines (p + 1) (n - (p + 1)) (context_behind context a b))
        pair_left = subst (Left writing s₀ f₀ all s f) pair_turn l

        pub ready-pair : Ready writing s (length f) (sent_pair lookup frequencies start a b)
        ready-pair = ready-before writing s (length f) (sent_pair lookup frequencies start a b) _ pair_left.ready

        pub left-pair : (behind : ℕ) (r : EncoderState) (g : List ℕ) → behind ≡ context_behind context a b → r ≡ sent_all writing s (sent_pair lookup frequencies start a b) → g ≡ laid_all writing s f (sent_pair lookup frequencies start a b) →
            Left writing s₀ f₀ all r g (sent_pairs lookup frequencies rate ne lines (p + 1) (n - (p + 1)) behind)
        left-pair behind r g e state lent =
            subst (λ (k : ℕ). Left writing s₀ f₀ all r g (sent_pairs lookup frequencies rate ne lines (p + 1) (n - (p + 1)) k)) (sym e)
            (left-on writing s₀ f₀ all s f (sent_pair lookup frequencies start a b) _ r g pair_left state lent)
