-- What stands at an offset, case by case: the end, 18, a field; and what is known of a field that was found.
-- Assumes nothing.
use Prim.Native.Nat.{ℕ, ◌+◌, ◌≤◌, ◌<◌}
use mathlib.Core.Path.{◌≡◌, refl, sym, ap, ◌∙◌}
use mathlib.Core.Bool.{Bool, true, false, cond, not, ◌&&◌}
use mathlib.Core.List.{List}
use native.Mathlib.Omega.{arith}
use borrow.Author.Tests.{eq-eqb, ne_eqb, lt-leb, leb-true, eqb-true}
use lib.Dec.{leb, eqb}
use lib.ListN.{length}
use Rattle.common.specs.Reply.{Reply, accepted, refused, given, field_malformed}
use Rattle.common.proofs.Bools.{and_left, and_right}
use Rattle.common.proofs.Replies.{no-refusal}
use Rattle.recording.specs.Tagged.{found, ends, header_at, end_of, complete, formed, field_at}
use Rattle.recording.specs.declared.reader.Before.{Before}
use Rattle.recording.specs.declared.reader.Field.{Field}

module _ (most : ℕ) (b : Before) (input : List ℕ) (at : ℕ) where
  pub field_end : at ≡ length input → field_at most b input at ≡ accepted ends
  field_end e = rw (eq-eqb at (length input) e) refl

  pub field-bad : (at ≡ length input → ⊥) → (complete most (length input) (header_at input at) && formed b (header_at input at)) ≡ false → field_at most b input at ≡ refused (field_malformed at)
  field-bad n e = rw (ne_eqb at (length input) n, e) refl

  -- no room for the header alone
  pub field_cut : (at ≡ length input → ⊥) → length input < at + 3 → field_at most b input at ≡ refused (field_malformed at)
  field_cut n h =
      field-bad n (rw (lt-leb (end_of (header_at input at)) (length input) (omega arith)) refl)

  pub field_found : (at ≡ length input → ⊥) → (complete most (length input) (header_at input at) && formed b (header_at input at)) ≡ true → field_at most b input at ≡ accepted (found (header_at input at))
  field_found n e = rw (ne_eqb at (length input) n, e) refl

-- which of its cases an answer is
split-found : (t g : Bool) (r : Reply) (h x : Field) → cond t (accepted ends) (given (not g) r (accepted (found h))) ≡ accepted (found x) → (t ≡ false) × (g ≡ true) × (h ≡ x)
split-found true g r h x e = let z : ◌≡◌ {A = ℕ} 0 1 = cc in absurd (omega arith)
split-found false true r h x e = (refl, refl, cc)
split-found false false r h x e = absurd (no-refusal (sym e))

split-refused : (t g : Bool) (r q : Reply) (h : Field) → cond t (accepted ends) (given (not g) r (accepted (found h))) ≡ refused q → r ≡ q
split-refused true g r q h e = absurd (no-refusal e)
split-refused false true r q h e = absurd (no-refusal e)
split-refused false false r q h e = cc

split-ends : (t g : Bool) (r : Reply) (h : Field) → cond t (accepted ends) (given (not g) r (accepted (found h))) ≡ accepted ends → t ≡ true
split-ends true g r h e = refl
split-ends false true r h e = let z : ◌≡◌ {A = ℕ} 0 1 = cc in absurd (omega arith)
split-ends false false r h e = absurd (no-refusal (sym e))

-- what is known of a field that was found
pub record Known (most : ℕ) (b : Before) (input : List ℕ) (at : ℕ) (x : Field) : Type 0 where
  pub header : header_at input at ≡ x
  pub place : x.at ≡ at
  pub content : x.content ≡ at + 3
  pub there : end_of x ≤ length input
  pub bound : end_of x ≤ most
  pub good : formed b x ≡ true

module _ (most : ℕ) (b : Before) (input : List ℕ) (at : ℕ) where
  pub field-known : (x : Field) → field_at most b input at ≡ accepted (found x) → Known most b input at x
  field-known x e =
      let s = split-found (eqb at (length input)) (complete most (length input) (header_at input at) && formed b (header_at input at)) (field_malformed at) (header_at input at) x e in
      let judged : (complete most (length input) x && formed b x) ≡ true = ap (λ (y : Field). complete most (length input) y && formed b y) (sym s.2) ∙ s.1 in
      let whole = and_left (complete most (length input) x) (formed b x) judged in
      record {
        header = s.2;
        place = sym (ap (λ (y : Field). y.at) s.2);
        content = sym (ap (λ (y : Field). y.content) s.2);
        there = leb-true (end_of x) (length input) (and_left (leb (end_of x) (length input)) (leb (end_of x) most) whole);
        bound = leb-true (end_of x) most (and_right (leb (end_of x) (length input)) (leb (end_of x) most) whole);
        good = and_right (complete most (length input) x) (formed b x) judged;
      }

  pub field-refusal : (r : Reply) → field_at most b input at ≡ refused r → r ≡ field_malformed at
  field-refusal r e =
      sym (split-refused (eqb at (length input)) (complete most (length input) (header_at input at) && formed b (header_at input at)) (field_malformed at) r (header_at input at) e)

  pub field-ends : field_at most b input at ≡ accepted ends → at ≡ length input
  field-ends e =
      eqb-true at (length input) (split-ends (eqb at (length input)) (complete most (length input) (header_at input at) && formed b (header_at input at)) (field_malformed at) (header_at input at) e)
