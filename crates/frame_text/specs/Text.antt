-- Document 01, "Dump": the text that is printed of a frame, accepted or refused. A character is its ASCII code.
use Rattle.std.specs.Prelude.{ℕ, zero, suc, ◌+◌, ◌*◌, ◌/◌, ◌%◌, cond, List, [], ◌∷◌, ◌++◌, eqb, length, ℤ, pos, negsuc, nat_abs}
use Prim.Native.Char.{code}
use Prim.Native.String.{String, [] as no_text, ◌∷◌ as ◌then◌}
use Rattle.common.specs.Reply.{Step, nowhere, side, start, order, coef, symbol, bit, Reply, Answer, accepted, refused}
use Rattle.common.specs.declared.configuration.Configuration.{Configuration}
use Rattle.side_info.specs.declared.Sns.{Sns}
use Rattle.side_info.specs.declared.SideInfo.{SideInfo}
use Rattle.tns_data.specs.Tns.{Filter}
use Rattle.residual_data.specs.Residual.{nonzero}
use Rattle.frame_reader.specs.Frame.{Frame}
use Rattle.frame_reader.specs.Returned.{numbers_of}
use Rattle.frame_reader.specs.Spare.{used, spare}

abbrev pub ascii : String → List ℕ
ascii no_text = []
ascii (c then rest) = code c ∷ ascii rest

abbrev pub last_digit : ℕ → List ℕ
last_digit n = (48 + n % 10) ∷ []

-- the digits of n, none of 0; at most so many, and n itself is always enough
unfoldable pub digits : ℕ → ℕ → List ℕ
digits zero n = []
digits (suc most) zero = []
digits (suc most) (suc n) = digits most (suc n / 10) ++ last_digit (suc n)

-- a number in decimal: its last digit, behind the digits of a tenth of it
unfoldable pub decimal : ℕ → List ℕ
decimal n = digits n (n / 10) ++ last_digit n

unfoldable pub signed : ℤ → List ℕ
signed (pos n) = decimal n
signed (negsuc n) = ascii "-" ++ decimal (n + 1)

-- a word, and a number behind it
abbrev pub named : String → ℕ → List ℕ
named word n = ascii word ++ decimal n

-- numbers, each behind a space
unfoldable pub spaced : List ℕ → List ℕ
spaced [] = []
spaced (n ∷ rest) = named " " n ++ spaced rest

abbrev pub newline : List ℕ
newline = ascii "\n"

unfoldable pub first_line : ℕ → ℕ → ℕ → List ℕ
first_line number bytes reading = named "frame " number ++ named " bytes " bytes ++ named " reading " reading ++ newline

unfoldable pub side_line : SideInfo → List ℕ
side_line s =
    named "bandwidth " s.bandwidth ++ named " lastnz " s.lastnz ++ named " lsb " s.lsb ++ named " gain " s.gain ++
    named " noise " s.noise ++ newline

unfoldable pub pitch_line : SideInfo → List ℕ
pitch_line s = named "pitch " s.pitch ++ named " active " s.active ++ named " index " s.index ++ newline

-- "`sns` prints both 5-bit indices, then ls_inda and idx_a, ls_indb and idx_b, gain, and shape = 2*msb + submode_lsb"
unfoldable pub sns_line : Sns → List ℕ
sns_line s =
    named "sns " s.lf ++ named " " s.hf ++ named " a " s.ls_inda ++ named " " s.idx_a ++
    named " b " s.ls_indb ++ named " " s.idx_b ++ named " gain " s.gain ++
    named " shape " (2 * s.msb + s.submode_lsb) ++ newline

-- "a nonzero TNS order is followed by its indices"
unfoldable pub tns_line : Filter → Filter → List ℕ
tns_line first second =
    named "tns " first.order ++ spaced first.indices ++ named " " second.order ++ spaced second.indices ++ newline

-- "`k:v`" of a line that is not 0
unfoldable pub line_text : ℕ → ℤ → List ℕ
line_text k v = cond (eqb (nat_abs v) 0) [] (named " " k ++ ascii ":" ++ signed v)

-- the same of each line, from line k on
unfoldable pub each_line : ℕ → List ℤ → List ℕ
each_line k [] = []
each_line k (v ∷ rest) = line_text k v ++ each_line (k + 1) rest

-- "Lines print the count of nonzero ones, then `k:v`"
unfoldable pub lines_line : List ℤ → List ℕ
lines_line lines = named "lines " (nonzero lines) ++ each_line 0 lines ++ newline

-- "residual a count, then bits"
unfoldable pub residual_line : List ℕ → List ℕ
residual_line bits = named "residual " (length bits) ++ spaced bits ++ newline

unfoldable pub seed_line : ℕ → ℕ → List ℕ
seed_line seed zero_flag = named "seed " seed ++ named " zero " zero_flag ++ newline

unfoldable pub used_line : ℕ → ℕ → List ℕ
used_line used spare = named "used " used ++ named " spare " spare ++ newline

-- the nine lines of an accepted frame
abbrev pub accepted_text : ℕ → Configuration → List ℕ → Frame → List ℕ
accepted_text number k f fr =
    let n = numbers_of k.reading fr in
    first_line number (length f) k.reading ++
    side_line fr.side ++
    pitch_line fr.side ++
    sns_line fr.side.sns ++
    tns_line fr.tns.first fr.tns.second ++
    lines_line fr.lines ++
    residual_line fr.residual ++
    seed_line n.seed (cond n.zero 1 0) ++
    used_line (used fr) (spare (8 * length f) fr)

-- "9 to 11 add the step and its numbers"
unfoldable pub step_text : Step → List ℕ
step_text nowhere = []
step_text side = ascii " side"
step_text start = ascii " start"
step_text (order f) = named " order " f
step_text (coef f k) = named " coef " f ++ named " " k
step_text (symbol pair level) = named " symbol " pair ++ named " " level
step_text (bit pair level) = named " bit " pair ++ named " " level

-- a refusal's number, its values and its step
unfoldable pub reply_text : Reply → List ℕ
reply_text r = named " refused " r.number ++ spaced r.values ++ step_text r.step

-- "A refused frame prints `frame 1 refused 6 82 80`"
unfoldable pub refused_text : ℕ → Reply → List ℕ
refused_text number r = named "frame " number ++ reply_text r ++ newline

-- a frame by its number, its configuration, its bytes and what the reader answered
abbrev pub text_of : ℕ → Configuration → List ℕ → Answer Frame → List ℕ
text_of number k f (accepted fr) = accepted_text number k f fr
text_of number k f (refused r) = refused_text number r

-- "`end` counts frames"
unfoldable pub end_text : ℕ → List ℕ
end_text frames = named "end " frames ++ newline

-- "The first such field prints `stop 18` and the offset of its tag byte"
unfoldable pub stop_text : ℕ → List ℕ
stop_text offset = named "stop 18 " offset ++ newline
