-- The tables keep their sizes, and a table that was taken is its field's content: of a field that was found, tag and length go together.
-- Assumes nothing.
use Prim.Native.Nat.{ℕ, ◌+◌, ◌*◌, ◌/◌, ◌≤◌}
use mathlib.Core.Path.{◌≡◌, refl, sym, ap, ◌∙◌}
use mathlib.Core.Bool.{Bool, true, false, ◌&&◌}
use mathlib.Core.List.{List, ◌++◌, append-nil}
use native.Mathlib.Omega.{arith}
use borrow.Author.Tests.{eq-eqb, eqb-true}
use lib.Dec.{leb, eqb}
use lib.ListN.{length, drop, length-drop, drop_of_length-le, length-replicate}
use lib.Seq.{sets, sets-eq, length-sets, length-take-le}
use Rattle.common.specs.Reply.{accepted}
use Rattle.common.specs.Tables.{Tables}
use Rattle.common.proofs.Bools.{and_left}
use Rattle.recording.specs.Tagged.{found, field_at, suits, in_order, field_most}
use Rattle.recording.specs.Contents.{content_of, words_of}
use Rattle.recording.specs.declared.reader.Before.{Before}
use Rattle.recording.specs.declared.reader.Field.{Field}
use Rattle.recording.proofs.Answers.{field-known}
use Rattle.recording.proofs.Words.{words-length}
use Rattle.dumping.specs.Dump.{dump_most, laid_if, tables_with, blank}
use Rattle.dumping.specs.Stated.{Sized, Taken}

-- a list over one as long is that list
laid-whole : (place xs : List ℕ) → length place ≡ length xs → sets place 0 xs ≡ xs
laid-whole place xs e =
    let past : length place ≤ 0 + length xs = omega arith in
    sets-eq xs place 0 (omega arith) ∙ ap (λ (r : List ℕ). xs ++ r) (drop_of_length-le place past) ∙ append-nil xs

laid-length : (there : Bool) (place xs : List ℕ) → length (laid_if there place xs) ≡ length place
laid-length true place xs = length-sets place 0 xs
laid-length false place xs = refl

pub blank-sized : Sized blank
blank-sized =
    record {
      lookup = length-replicate {A = ℕ} (4096) 0;
      frequencies = length-replicate {A = ℕ} (64 * 17) 0;
      bits = length-replicate {A = ℕ} (64 * 17) 0;
      orders = length-replicate {A = ℕ} (2 * 8) 0;
      coefficients = length-replicate {A = ℕ} (8 * 17) 0;
    }

pub sized-kept : (t : Tables) (tag : ℕ) (content : List ℕ) → Sized t → Sized (tables_with t tag content)
sized-kept t tag content s =
    record {
      lookup = laid-length (eqb tag 0x10) t.lookup content ∙ s.lookup;
      frequencies = laid-length (eqb tag 0x11) t.frequencies (words_of content) ∙ s.frequencies;
      bits = laid-length (eqb tag 0x12) t.bits (words_of content) ∙ s.bits;
      orders = laid-length (eqb tag 0x13) t.orders (words_of content) ∙ s.orders;
      coefficients = laid-length (eqb tag 0x14) t.coefficients (words_of content) ∙ s.coefficients;
    }

module _ (t : Tables) (s : Sized t) (b : Before) (input : List ℕ) (at : ℕ) (x : Field) (e : field_at dump_most b input at ≡ accepted (found x)) where
  content-length : length (content_of input x) ≡ x.size
  content-length =
      let k = field-known dump_most b input at x e in
      length-take-le x.size (drop x.content input) (simp length-drop (omega (arith, k.there)))

  -- the length that goes with a tag
  size-by : (tag : ℕ) → x.tag ≡ tag → suits tag x.size ≡ true
  size-by tag g =
      let k = field-known dump_most b input at x e in
      ap (λ (n : ℕ). suits n x.size) (sym g) ∙
      and_left (suits x.tag x.size) (leb x.size field_most)
      (and_left (suits x.tag x.size && leb x.size field_most) (in_order b x.tag) k.good)

  laid-here : (tag : ℕ) (place xs : List ℕ) → x.tag ≡ tag → length place ≡ length xs → laid_if (eqb x.tag tag) place xs ≡ xs
  laid-here tag place xs g l = rw (eq-eqb x.tag tag g) (laid-whole place xs l)

  words-here : (tag rows : ℕ) (place : List ℕ) → x.tag ≡ tag → x.size ≡ 2 * rows → length place ≡ rows → laid_if (eqb x.tag tag) place (words_of (content_of input x)) ≡ words_of (content_of input x)
  words-here tag rows place g size l =
      let words : length (words_of (content_of input x)) ≡ length (content_of input x) / 2 = words-length (content_of input x) in
      laid-here tag place (words_of (content_of input x)) g (omega (arith, content-length))

  pub table_taken : Taken x.tag (content_of input x) (tables_with t x.tag (content_of input x))
  table_taken =
      record {
        lookup =
            λ g.
            laid-here 0x10 t.lookup (content_of input x) g
            (s.lookup ∙ sym (eqb-true x.size 4096 (size-by 0x10 g)) ∙ sym content-length);
        frequencies =
            λ g. words-here 0x11 (64 * 17) t.frequencies g (eqb-true x.size 2176 (size-by 0x11 g)) s.frequencies;
        bits = λ g. words-here 0x12 (64 * 17) t.bits g (eqb-true x.size 2176 (size-by 0x12 g)) s.bits;
        orders = λ g. words-here 0x13 (2 * 8) t.orders g (eqb-true x.size 32 (size-by 0x13 g)) s.orders;
        coefficients =
            λ g. words-here 0x14 (8 * 17) t.coefficients g (eqb-true x.size 272 (size-by 0x14 g)) s.coefficients;
      }
