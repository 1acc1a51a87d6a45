-- What the calls of the code ask for behind one another: the range passes behind the coder's start, and behind the TNS data again.
-- Assumes nothing.
use Prim.Native.Nat.{ℕ, ◌*◌}
use mathlib.Core.Path.{◌≡◌, sym, ap, ◌∙◌}
use mathlib.Core.Bool.{true}
use mathlib.Core.List.{List}
use lib.ListN.{length}
use Rattle.common.specs.Reply.{Reply, start, Answer, accepted, refused, and_then}
use Rattle.common.specs.Configuration.{frame_lines}
use Rattle.common.specs.Tables.{Tables, coded_pass}
use Rattle.common.specs.declared.configuration.Configuration.{Configuration}
use Rattle.common.proofs.Replies.{no-refusal, refusal_in, accepted-same, then-split, within-split}
use Rattle.buffer_reader.specs.Reads.{take_three}
use Rattle.buffer_reader.specs.declared.Cursor.{Cursor}
use Rattle.side_info.specs.declared.SideInfo.{SideInfo}
use Rattle.range_decoder.specs.Decoder.{start_decoder, range_passes}
use Rattle.range_decoder.specs.declared.DecoderState.{DecoderState}
use Rattle.coding.specs.Coding.{Coded}
use Rattle.tns_data.specs.Tns.{Tns, read_tns, weighting_row, sixteen_of}
use Rattle.tns_data.specs.Private.{Told, told}
use Rattle.frame_reader.specs.Frame.{start_in}
use Rattle.frame_reader.proofs.Data.{tns-range}

-- what is only carried on is refused where it was
pub then-refused : {A B : Type 0} (a : Answer A) (g : A → B) {r : Reply} → and_then a (λ x. accepted (g x)) ≡ refused r → a ≡ refused r
then-refused (accepted x) g e = absurd (no-refusal e)
then-refused (refused q) g e = ap (λ x. refused (refusal_in q x)) e

pub start-range : (f : List ℕ) (c : Cursor) {x : DecoderState × Cursor} → start_in f c ≡ accepted x → range_passes x.0.range ≡ true
start-range f c e =
    let p = then-split (take_three f c) _ (within-split start (start_decoder f c) e) in
    sym (ap (λ (w : DecoderState × Cursor). range_passes w.0.range) (accepted-same p.2))

-- behind the TNS data, by the code's number for the weighting row
module _ (k : Configuration) (ne : ℕ) (f : List ℕ) (t : Tables) (passes : coded_pass t ≡ true) (judged : frame_lines k (length f) ≡ accepted ne) (s : SideInfo) (state : DecoderState) (c : Cursor) (w : ℕ) (ew : w ≡ weighting_row k.duration (8 * length f)) where
  abbrev tns_by : ℕ → Answer (Coded Tns × Cursor)
  tns_by v = read_tns t.orders t.coefficients v s.tns_first s.tns_second state f c

  abbrev told_by : Coded Tns × Cursor → Told
  told_by x =
      record {
        first = x.0.value.first.order;
        second = x.0.value.second.order;
        places = sixteen_of x.0.value;
        state = x.0.state;
        cursor = x.1;
      }

  pub tns-passes : (q : Told) → told (tns_by w) ≡ accepted q → range_passes state.range ≡ true → range_passes q.state.range ≡ true
  tns-passes q e ok =
      let x = then-split (tns_by w) (λ x. accepted (told_by x)) e in
      let there : tns_by (weighting_row k.duration (8 * length f)) ≡ accepted x.0 = ap tns_by (sym ew) ∙ x.1 in
      ap (λ (v : Told). range_passes v.state.range) (sym (accepted-same x.2)) ∙ tns-range k ne f t passes judged s state c ok there
