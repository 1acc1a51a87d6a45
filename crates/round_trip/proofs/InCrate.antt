-- Theorem 5: in the crate reading theorems 1 and 2 are false. One frame shows each, and every number is computed from the definitions.
-- Assumes nothing.
use Prim.Native.Nat.{ℕ, zero, suc, ◌<◌}
use mathlib.Core.Path.{◌≡◌, refl, ap, sym, subst, ◌∙◌}
use mathlib.Core.Bool.{Bool, true, false, not, ◌&&◌, ◌||◌}
use mathlib.Core.List.{List}
use native.Mathlib.Omega.{arith}
use borrow.Author.Tests.{eqb-true}
use lib.Dec.{leb, eqb}
use lib.IntN.{pos, nat_abs}
use lib.ListN.{length, get_or}
use Rattle.common.specs.Flat.{flat_set, tabulate}
use Rattle.common.specs.Last.{last_below, floor_log2}
use Rattle.common.specs.Reply.{Answer, accepted}
use Rattle.common.specs.Tables.{Tables, total, all_at_least, all_at_most, rows_pass}
use Rattle.common.specs.declared.configuration.Configuration.{Configuration}
use Rattle.common.proofs.Bools.{or-fails-second}
use Rattle.common.proofs.Replies.{no-refusal, accepted-same}
use Rattle.buffer_reader.specs.Tail.{tail_bit, field, Bytes}
use Rattle.side_info.specs.Reader.{least_width}
use Rattle.range_decoder.specs.Decoder.{owner}
use Rattle.range_encoder.specs.Runs.{state_behind, bytes_behind}
use Rattle.range_encoder.proofs.OwnBytes.{repeated}
use Rattle.contexts.specs.First.{first_from}
use Rattle.contexts.specs.Lines.{line_at}
use Rattle.contexts.proofs.Firsts.{First, first-law}
use Rattle.sending.specs.Sending.{put_bits}
use Rattle.tns_data.specs.Sent.{places_pass}
use Rattle.spectral_data.specs.Spectral.{read_levels, read_pairs, lines_of, levels_of}
use Rattle.spectral_data.specs.Sent.{sent_escapes, sent_pairs, lows_from, pairs_bits, pairs_of}
use Rattle.residual_data.specs.Residual.{bits_from, nonzero, late_from}
use Rattle.residual_data.specs.Sent.{residual_bits, late_pairs, back_lines}
use Rattle.frame_reader.specs.Depends.{symbols_of as symbols_read}
use Rattle.frame_reader.specs.Frame.{Frame}
use Rattle.frame_writer.specs.Frame.{Content, field_bits, fields_bits}
use Rattle.frame_writer.specs.Whose.{in_tail}
use Rattle.round_trip.specs.RoundTrip.{returned, WrittenIsRead, whose_at, head_and_side, AsWritten, Damaged, read_still, bit_missing, negative, DamageIsKnown}
use Rattle.round_trip.specs.InCrate.{in_crate, five, five_frame, five_read, FiveReadAsFour, six, six_frame, six_altered, six_read, TwelveReadAsThirteen}

-- ---- written is not read

pub five-read-as-four : FiveReadAsFour
unfolding total all_at_least all_at_most rows_pass tabulate last_below floor_log2 field least_width owner first_from read_levels read_pairs lines_of levels_of late_from nonzero places_pass sent_escapes sent_pairs lows_from pairs_bits late_pairs back_lines field_bits fields_bits put_bits state_behind bytes_behind
five-read-as-four =
    record {
      written = record { reading-is = refl; sixteen = refl; frame_is = refl; enough = omega arith };
      read = refl;
      due = refl;
      came = refl;
    }

pub crate-not-read : WrittenIsRead 0 → ⊥
crate-not-read h =
    let c = five-read-as-four in
    let same : five_read ≡ returned in_crate flat_set five 20 = accepted-same (sym c.read ∙ h in_crate flat_set five 20 80 five_frame c.written) in
    let sizes : nat_abs (pos 4) ≡ nat_abs (pos 5) = ap nat_abs (sym c.came ∙ ap (λ (x : Frame). line_at x.lines 2) same ∙ c.due) in
    absurd (omega (arith, sizes))

-- ---- damage is not known

abbrev alike : ℕ → Bool
alike i = eqb (tail_bit six_altered i) (tail_bit six_frame i)

abbrev spared : ℕ → Bool
spared i = head_and_side (whose_at in_crate flat_set six 20 i)

-- a bit of the head's own or of the side information that is not as it was; at the place behind all bits the test holds
abbrev spoiled : ℕ → Bool
spoiled i = leb 160 i || not (alike i) && spared i

none-spoiled : first_from spoiled 0 160 ≡ 160
unfolding total tabulate last_below floor_log2 least_width first_from sent_escapes sent_pairs lows_from pairs_bits residual_bits field_bits fields_bits state_behind bytes_behind in_tail
none-spoiled = refl

unspoiled : (same kept : Bool) → (not same && kept) ≡ false → kept ≡ true → same ≡ true
unspoiled true kept e k = refl
unspoiled false kept e k = sym e ∙ k

same_bits : (i : ℕ) → i < 160 → spared i ≡ true → tail_bit six_altered i ≡ tail_bit six_frame i
same_bits i below kept =
    let f : First spoiled 0 160 (first_from spoiled 0 160) = first-law spoiled 0 160 refl in
    let fine : (not (alike i) && spared i) ≡ false =
    or-fails-second (leb 160 i) (not (alike i) && spared i) (f.before i (omega arith) (omega (arith, none-spoiled, below)))
    in
    eqb-true (tail_bit six_altered i) (tail_bit six_frame i) (unspoiled (alike i) (spared i) fine kept)

altered-bytes : Bytes six_altered
altered-bytes zero = omega arith
altered-bytes (suc zero) = omega arith
altered-bytes (suc (suc i)) = repeated 18 0 (omega arith) i

pub twelve-read-as-thirteen : TwelveReadAsThirteen
unfolding total all_at_least all_at_most rows_pass tabulate last_below floor_log2 field least_width owner first_from read_levels read_pairs lines_of bits_from nonzero places_pass sent_escapes sent_pairs lows_from pairs_bits pairs_of residual_bits field_bits fields_bits put_bits state_behind bytes_behind symbols_read
twelve-read-as-thirteen =
    record {
      written = record { reading-is = refl; sixteen = refl; frame_is = refl; enough = omega arith };
      nine-own = record { whole-bytes = refl; last_byte = refl; last-bits = refl };
      altered = record { bytes = altered-bytes; size = refl; same = same_bits };
      read = refl;
      due = refl;
      came = refl;
    }

-- what is accepted has the symbols as written
still_read : {k : Configuration} {t : Tables} {w : Content} {other : List ℕ} {a : Answer Frame} (x : Frame) → Damaged k t w other a → a ≡ accepted x → AsWritten k t w (length other) x
still_read {k} {t} {w} {other} x (read_still y s) e = subst (AsWritten k t w (length other)) (accepted-same e) s
still_read x (bit_missing p level place low few up) e = absurd (no-refusal (sym e))
still_read x negative e = absurd (no-refusal (sym e))

pub crate-misread : DamageIsKnown 0 → ⊥
crate-misread h =
    let c = twelve-read-as-thirteen in
    let s : AsWritten in_crate flat_set six 20 six_read = still_read six_read (h in_crate flat_set six 20 80 six_frame six_altered c.written c.altered) c.read in
    let symbols : ◌≡◌ {A = ℕ} 12 13 = ap (λ (l : List (ℕ × ℕ)). (get_or l 0 (0, 0)).1) (sym c.due ∙ s.symbols-same.symbols ∙ c.came) in
    absurd (omega (arith, symbols))
