-- From what the reader returned to the text of what the definition read: refused, its reply; accepted, its numbers and lists, which are
-- within their limits. Assumes nothing.
use Prim.Native.Nat.{ℕ, zero, suc, ◌+◌, ◌-◌, ◌*◌, ◌/◌, ◌%◌, ◌≤◌}
use mathlib.Core.Path.{◌≡◌, refl, sym, ap, ◌∙◌}
use mathlib.Core.List.{List, ◌++◌}
use native.Mathlib.Omega.{arith}
use lib.ListN.{length, get_or, replicate, length-append}
use lib.Seq.{sets, take-append_seam}
use lib.IntN.{ℤ, pos, nat_abs}
use Rattle.common.specs.Reply.{Reply, Answer, accepted, refused}
use Rattle.common.specs.Tables.{Tables}
use Rattle.common.specs.declared.configuration.Configuration.{Configuration}
use Rattle.common.proofs.Replies.{accepted-same, then-split}
use Rattle.tns_data.specs.Tns.{sixteen_of}
use Rattle.residual_data.specs.Private.{AtMost}
use Rattle.frame_reader.specs.Frame.{Frame, filled_to, read_frame}
use Rattle.frame_reader.specs.Returned.{numbers_of, told, indices_of, residual_of, lines_behind}
use Rattle.frame_reader.specs.Stated.{Magnitudes}
use Rattle.frame_reader.specs.declared.Numbers.{Numbers}
use Rattle.frame_reader.proofs.Coded.{then-refused}
use Rattle.frame_reader.proofs.Magnitudes.{filled-size}
use Rattle.frame_reader.proofs.Theorems.{Bounded, frame-bounded, tail-most, used-and-spare, lines-within}
use Rattle.frame_text.specs.Text.{accepted_text, refused_text, text_of}
use Rattle.frame_text.specs.Private.{Laid, Printable, nine_lines}
use Rattle.frame_text.proofs.Lists.{first-front, second-front, places-length, lines-filled}

-- each line's magnitude, even or odd
sizes-most : (x : Frame) → Magnitudes x → AtMost 81920 x.lines
sizes-most x m k = by (k % 2) refl
  where
    by : (r : ℕ) → k % 2 ≡ r → nat_abs (get_or x.lines k (pos 0)) ≤ 81920
    by zero e = let same : 2 * (k / 2) ≡ k = omega arith in omega (arith, rw same at (m.evens (k / 2)))
    by (suc zero) e = let same : 2 * (k / 2) + 1 ≡ k = omega arith in omega (arith, rw same at (m.odds (k / 2)))
    by (suc (suc r)) e = absurd (omega arith)

-- a text laid from the front: its length, and the buffer
pub laid-front : {b text c : List ℕ} {r : ℕ} → Laid b 0 text c r → (r ≡ length text) × (c ≡ sets b 0 text)
laid-front l = (omega (arith, l.place), l.contents)

module _ (number : ℕ) (k : Configuration) (t : Tables) (f : List ℕ) where
  abbrev answer : Answer Frame
  answer = read_frame k t 400 f

  abbrev Shown : List ℕ → List ℕ → ℕ → Type 0
  Shown b c r = (r ≡ length (text_of number k f answer)) × (c ≡ sets b 0 (text_of number k f answer))

  pub refused-shown : {b c : List ℕ} {r : ℕ} (q : Reply) → refused q ≡ told k.reading answer → Laid b 0 (refused_text number q) c r → Shown b c r
  refused-shown q e l = rw (then-refused answer (numbers_of k.reading) (sym e)) (laid-front l)

  module _ (fr : Frame) (read : answer ≡ accepted fr) where
    abbrev known : Bounded f fr
    known = frame-bounded k t 400 f fr read

    abbrev padded : List ℕ
    padded = fr.residual ++ replicate (400 - length fr.residual) 0

    abbrev filled : List ℤ
    filled = filled_to 400 fr.lines

    printable : length padded ≡ 400 → length filled ≡ 400 → Printable (length f) (numbers_of k.reading fr) (sixteen_of fr.tns) padded filled
    printable full many =
        record {
          short = known.short;
          first = known.filters.first.most;
          second = known.filters.second.most;
          sixteen = places-length fr.tns.first.indices fr.tns.second.indices;
          listed = omega (arith, length-append fr.residual (replicate (400 - length fr.residual) 0));
          count = omega (arith, length-append fr.residual (replicate (400 - length fr.residual) 0));
          many = omega arith;
          sizes = λ i. omega (arith, filled-size fr.lines (400 - length fr.lines) i, sizes-most fr (lines-within k t 400 f fr read) i);
          three = known.three;
          head = known.head;
          tail = tail-most k t 400 f fr read;
          least = known.least;
          most = known.most;
          used = omega (arith, used-and-spare k t 400 f fr read);
        }

    nine-lines : nine_lines number k.reading (length f) (numbers_of k.reading fr) (sixteen_of fr.tns) padded filled ≡ accepted_text number k f fr
    nine-lines =
        rw (
          first-front fr.tns.first.indices fr.tns.second.indices fr.tns.first.order known.filters.first.most known.filters.first.indices.sized,
          second-front fr.tns.first.indices fr.tns.second.indices fr.tns.second.order known.filters.second.most known.filters.second.indices.sized,
          lines-filled fr.lines (400 - length fr.lines),
          take-append_seam fr.residual (replicate (400 - length fr.residual) 0),
        ) refl

    -- by the numbers, lists and lines that were returned of it
    module _
        (n : Numbers)
        (indices residual : List ℕ)
        (lines : List ℤ)
        (ns : n ≡ numbers_of k.reading fr)
        (is : indices ≡ sixteen_of fr.tns)
        (rs : residual ≡ padded)
        (ls : lines ≡ filled)
      where
        known-printable : length residual ≡ 400 → length lines ≡ 400 → Printable (length f) n indices residual lines
        known-printable full many =
            rw (ns, is, rs, ls) (printable (ap length (sym rs) ∙ full) (ap length (sym ls) ∙ many))

        known-shown : {b c : List ℕ} {r : ℕ} → Laid b 0 (nine_lines number k.reading (length f) n indices residual lines) c r → Shown b c r
        known-shown {b} {c} {r} l =
            let laid : Laid b 0 (accepted_text number k f fr) c r = rw (ns, is, rs, ls, nine-lines) at l in
            rw read (laid-front laid)

  -- by what the call returned: its outcome, and the lists and lines as the definition says them
  module _
      (n : Numbers)
      (indices residual : List ℕ)
      (lines before : List ℤ)
      (outcome : accepted n ≡ told k.reading answer)
      (is : indices ≡ indices_of answer)
      (rs : residual ≡ residual_of answer)
      (ls : lines ≡ lines_behind answer before)
      (size : length before ≡ 400)
    where
      was : (fr : Frame) × (answer ≡ accepted fr) × (accepted (numbers_of k.reading fr) ≡ accepted n)
      was = then-split answer (λ fr. accepted (numbers_of k.reading fr)) (sym outcome)

      all_lines : lines ≡ filled_to 400 was.0.lines
      all_lines = ls ∙ ap (λ a. lines_behind a before) was.1 ∙ ap (λ (m : ℕ). filled_to m was.0.lines) size

      pub returned-printable : length residual ≡ 400 → length lines ≡ 400 → Printable (length f) n indices residual lines
      returned-printable =
          known-printable was.0 was.1 n indices residual lines (sym (accepted-same was.2)) (is ∙ ap indices_of was.1) (rs ∙ ap residual_of was.1) all_lines

      pub accepted-shown : {b c : List ℕ} {r : ℕ} → Laid b 0 (nine_lines number k.reading (length f) n indices residual lines) c r → Shown b c r
      accepted-shown =
          known-shown was.0 was.1 n indices residual lines (sym (accepted-same was.2)) (is ∙ ap indices_of was.1) (rs ∙ ap residual_of was.1) all_lines
