-- Document 01, "Dump", its example: the text of the flat set, configuration 0,0,0 and 20 zero bytes. And lines that the example leaves
-- out: a refusal, a step, indices, lines, bits, a stop. All is computed. Assumes nothing.
use mathlib.Core.Path.{◌≡◌, refl}
use mathlib.Core.List.{[], ◌∷◌, ◌++◌}
use lib.ListN.{replicate}
use lib.IntN.{pos, negsuc}
use Rattle.common.specs.Reply.{bit, in_step, lastnz_too_large, no_tail_room, fourteen_escapes}
use Rattle.common.specs.Tables.{total, all_at_least, all_at_most, rows_pass}
use Rattle.common.specs.Flat.{flat_set, tabulate}
use Rattle.common.specs.Last.{last_below, floor_log2}
use Rattle.buffer_reader.specs.Tail.{field}
use Rattle.side_info.specs.Reader.{least_width}
use Rattle.range_decoder.specs.Decoder.{owner}
use Rattle.tns_data.specs.Tns.{no_filter, read_indices}
use Rattle.spectral_data.specs.Spectral.{read_levels, read_pairs, lines_of, levels_of}
use Rattle.residual_data.specs.Residual.{bits_from, nonzero, late_from}
use Rattle.residual_data.specs.Sums.{weighted}
use Rattle.frame_reader.specs.Frame.{read_frame}
use Rattle.frame_text.specs.Text.{ascii, digits, decimal, signed, spaced, first_line, side_line, pitch_line, sns_line, tns_line, line_text, each_line, lines_line, residual_line, seed_line, used_line, step_text, reply_text, refused_text, text_of, end_text, stop_text}

pub example-text :
    text_of 1 (record { fs_ind = 0; duration = 0; reading = 0 }) (replicate 20 0) (read_frame (record { fs_ind = 0; duration = 0; reading = 0 }) flat_set 400 (replicate 20 0)) ++ end_text 1
    ≡ ascii "frame 1 bytes 20 reading 0\nbandwidth 0 lastnz 2 lsb 0 gain 0 noise 0\npitch 0 active 0 index 0\nsns 0 0 a 0 0 b 0 0 gain 0 shape 1\ntns 0 0\nlines 0\nresidual 0\nseed 0 zero 1\nused 64 spare 96\nend 1\n"
unfolding total all_at_least all_at_most rows_pass tabulate last_below floor_log2 field least_width owner read_indices read_levels read_pairs lines_of levels_of bits_from nonzero late_from weighted digits decimal signed spaced first_line side_line pitch_line sns_line tns_line line_text each_line lines_line residual_line seed_line used_line end_text
example-text = refl

pub refused-text : refused_text 1 (lastnz_too_large 82 80) ≡ ascii "frame 1 refused 6 82 80\n"
unfolding digits decimal spaced step_text reply_text refused_text
refused-text = refl

pub step-text : refused_text 1 (in_step (bit 7 12) (no_tail_room 1 82)) ≡ ascii "frame 1 refused 9 1 82 bit 7 12\n"
unfolding digits decimal spaced step_text reply_text refused_text
step-text = refl

-- request P4: a refusal with a pair, in no step
pub damage-text : refused_text 1 (fourteen_escapes 6) ≡ ascii "frame 1 refused 19 6\n"
unfolding digits decimal spaced step_text reply_text refused_text
damage-text = refl

-- a cursor is printed whole, whatever it is
pub cursor-text : refused_text 4 (in_step (bit 4 2) (no_tail_room 1 18446744073709551615)) ≡ ascii "frame 4 refused 9 1 18446744073709551615 bit 4 2\n"
unfolding digits decimal spaced step_text reply_text refused_text
cursor-text = refl

pub indices-text : tns_line (record { order = 2; indices = 5 ∷ 6 ∷ [] }) no_filter ≡ ascii "tns 2 5 6 0\n"
unfolding digits decimal spaced tns_line
indices-text = refl

pub lines-text : lines_line (pos 0 ∷ negsuc 8 ∷ pos 0 ∷ pos 81919 ∷ []) ≡ ascii "lines 2 1:-9 3:81919\n"
unfolding digits decimal signed line_text each_line nonzero lines_line
lines-text = refl

pub bits-text : residual_line (1 ∷ 0 ∷ 1 ∷ []) ≡ ascii "residual 3 1 0 1\n"
unfolding digits decimal spaced residual_line
bits-text = refl

pub stop-text : stop_text 65536 ≡ ascii "stop 18 65536\n"
unfolding digits decimal stop_text
stop-text = refl
