-- What is written comes back, and what damage can do: the owner's third demand, as statements over the definitions that the public calls
-- of frame reader and frame writer are proved equal to, for every table set that passes. proofs/Theorems.antt proves each.
use Rattle.std.specs.Prelude.{ℕ, ◌+◌, ◌-◌, ◌*◌, ◌/◌, ◌%◌, ◌≤◌, ◌<◌, min, ◌≡◌, Bool, true, false, cond, List, [], ◌++◌, map, eqb, ℤ, nat_abs, length, take, replicate}
use Rattle.common.specs.Configuration.{ne}
use Rattle.common.specs.Reply.{bit, Answer, accepted, refused, in_step, no_tail_room, residual_negative}
use Rattle.common.specs.Tables.{Tables}
use Rattle.common.specs.declared.configuration.Configuration.{Configuration}
use Rattle.buffer_reader.specs.Steps.{Reading, found, next as ◌>>=◌}
use Rattle.buffer_reader.specs.Tail.{tail_bit, Bytes}
use Rattle.buffer_reader.specs.declared.Cursor.{Cursor}
use Rattle.side_info.specs.Reader.{read_all}
use Rattle.contexts.specs.Contexts.{rate_flag}
use Rattle.contexts.specs.Lines.{escapes_at}
use Rattle.range_encoder.specs.Interval.{Interval, whole, behind}
use Rattle.sending.specs.Sending.{Owner, side, low, sign, residual, lowest, late_sign}
use Rattle.tns_data.specs.Tns.{read_tns, weighting_row}
use Rattle.tns_data.specs.Sent.{tns_of}
use Rattle.spectral_data.specs.Spectral.{read_pairs, lines_of}
use Rattle.spectral_data.specs.Sent.{pairs_of}
use Rattle.residual_data.specs.Residual.{nonzero}
use Rattle.residual_data.specs.Sent.{cut_line, back_lines}
use Rattle.frame_reader.specs.Depends.{symbols_of as symbols_read, SameSymbols}
use Rattle.frame_reader.specs.Frame.{Data, Frame, start_in, read_data, filled_to, read_frame}
use Rattle.frame_writer.specs.Frame.{Content, symbols_of, least_bit, early_bits, late_bits, held_back, tail_bits, write_frame}
use Rattle.frame_writer.specs.Taken.{content_of, SameEscapes}
use Rattle.frame_writer.specs.Whose.{Whose, head, tail, unused, place_of}

-- ---- 1. Written is read

-- "ne lines" of a configuration
abbrev pub lines_in : Configuration → ℕ
lines_in k = ne k.duration k.fs_ind

-- the coder behind all symbols of a frame
abbrev pub coder_behind : Configuration → Tables → Content → ℕ → Interval
coder_behind k t w bytes = behind whole (symbols_of k t (8 * bytes) (lines_in k) w)

-- the tail bits before what comes late, and the room that is left for it
abbrev pub early_length : Configuration → Content → ℕ
early_length k w = length (early_bits k.fs_ind (lines_in k) w)

abbrev pub late_room : Configuration → Tables → Content → ℕ → ℕ
late_room k t w bytes = 8 * bytes - early_length k w - held_back k.reading (symbols_of k t (8 * bytes) (lines_in k) w)

-- the residual list, cut to the room, with 0 for what it lacks up to the smaller of room and nonzero lines
abbrev pub returned_list : ℕ → Content → List ℕ
returned_list room w =
    map (λ (b : ℕ). b % 2) (take room w.residual) ++ replicate (min room (nonzero w.lines) - min room (length w.residual)) 0

-- in least-bit mode the lines, cut at "one place in line order"
abbrev pub returned_lines : Configuration → ℕ → Content → List ℤ
returned_lines k room w =
    let pairs = w.side.lastnz / 2 in
    filled_to (lines_in k) (back_lines w.lines (cut_line w.lines 0 pairs room) 0 pairs)

-- what comes back of a frame of so many bytes
abbrev pub returned : Configuration → Tables → Content → ℕ → Frame
returned k t w bytes =
    let room = late_room k t w bytes in
    record {
      side = w.side;
      tns = tns_of w.first w.second w.indices;
      pairs = pairs_of (least_bit w) w.lines 0 (w.side.lastnz / 2);
      lines = cond (least_bit w) (returned_lines k room w) w.lines;
      residual = cond (least_bit w) [] (returned_list room w);
      cursor =
          record {
            head = 3 + (coder_behind k t w bytes).shifts;
            tail = early_length k w + cond (least_bit w) (length (take room (late_bits w))) (min room (nonzero w.lines));
          };
      range = (coder_behind k t w bytes).range;
    }

-- what every statement of a written frame asks for: sixteen places for TNS indices, a frame that the writer of a reading has written, and
-- a buffer of `ne` lines or more to read it into
pub record Written (reading : ℕ) (k : Configuration) (t : Tables) (w : Content) (bytes count : ℕ) (frame : List ℕ) : Type 0 where
  pub reading-is : k.reading ≡ reading
  pub sixteen : length w.indices ≡ 16
  pub frame_is : write_frame k t w bytes ≡ accepted frame
  pub enough : lines_in k ≤ count

-- whatever is written is read, and this comes back
abbrev pub WrittenIsRead : ℕ → Type 0
WrittenIsRead reading =
    (k : Configuration) (t : Tables) (w : Content) (bytes count : ℕ) (frame : List ℕ) → Written reading k t w bytes count frame →
    read_frame k t count frame ≡ accepted (returned k t w bytes)

-- ---- 2. Damage

-- whose the bit at tail place i of a written frame is
abbrev pub whose_at : Configuration → Tables → Content → ℕ → ℕ → Whose
whose_at k t w bytes i =
    (place_of k.reading (8 * bytes) (symbols_of k t (8 * bytes) (lines_in k) w) (tail_bits k t (8 * bytes) (lines_in k) w) i).whose

-- another frame of the same length, that has the bits of some as they were written, and is otherwise anything
pub record Altered (spared : Whose → Bool) (k : Configuration) (t : Tables) (w : Content) (frame other : List ℕ) : Type 0 where
  pub bytes : Bytes other
  pub size : length other ≡ length frame
  pub same : (i : ℕ) → i < 8 * length frame → spared (whose_at k t w (length frame) i) ≡ true → tail_bit other i ≡ tail_bit frame i

-- the head's own bits and the side information's, and the low bits of lines if these are spared too: not signs, what comes late, and
-- what is nobody's
abbrev pub of_owner : Bool → Owner → Bool
of_owner lows side = true
of_owner lows (low k level) = lows
of_owner lows (sign k) = false
of_owner lows (residual k) = false
of_owner lows (lowest k) = false
of_owner lows (late_sign k) = false

abbrev pub sparing : Bool → Whose → Bool
sparing lows (head j) = true
sparing lows (tail owner) = of_owner lows owner
sparing lows unused = false

abbrev pub head_and_side : Whose → Bool
head_and_side = sparing false

-- side record, TNS orders and indices, each pair's escapes and last symbol, and the coder behind them, as they were written
pub record AsWritten (k : Configuration) (t : Tables) (w : Content) (bytes : ℕ) (x : Frame) : Type 0 where
  pub side_same : x.side ≡ w.side
  pub symbols-same : SameSymbols (returned k t w bytes) x

-- a frame's data with its first n pairs alone
abbrev pub read_up_to : Configuration → Tables → ℕ → ℕ → ℕ → Reading Data
read_up_to k t bits ne n = do
  fields ← read_all k.fs_ind ne
  state ← start_in
  tns ← read_tns t.orders t.coefficients (weighting_row k.duration bits) fields.tns_first fields.tns_second state
  pairs ← read_pairs t.lookup t.frequencies (eqb k.reading 1) (eqb fields.lsb 1) (rate_flag bits k.fs_ind) ne 0 n 0 tns.state
  found (record { side = fields; tns = tns.value; pairs = pairs.value; range = pairs.state.range })

-- the first n pairs of a frame are read, with the symbols that were written
pub record UpTo (k : Configuration) (t : Tables) (w : Content) (other : List ℕ) (n : ℕ) : Type 0 where
  pub data-read : Data
  pub cursor : Cursor
  pub is : read_up_to k t (8 * length other) (lines_in k) n other (record { head = 0; tail = 0 }) ≡ accepted (data-read, cursor)
  pub side_same : data-read.side ≡ w.side
  pub tns-same : data-read.tns ≡ tns_of w.first w.second w.indices
  pub symbols-same : symbols_read data-read.pairs ≡ symbols_read (pairs_of (least_bit w) w.lines 0 n)

-- accepted with all symbols as written; or 9 in a step `bit`, with the symbols up to there as written; or 12. Nothing else
pub data Damaged (k : Configuration) (t : Tables) (w : Content) (other : List ℕ) : Answer Frame → Type 0 where
  read_still : (x : Frame) → AsWritten k t w (length other) x → Damaged k t w other (accepted x)
  bit_missing : (p level place : ℕ) → p < w.side.lastnz / 2 → level ≤ escapes_at w.lines p → UpTo k t w other p → Damaged k t w other (refused (in_step (bit p level) (no_tail_room 1 place)))
  negative : Damaged k t w other (refused residual_negative)

-- what damage behind the head's own bits and the side information can do
abbrev pub DamageIsKnown : ℕ → Type 0
DamageIsKnown reading =
    (k : Configuration) (t : Tables) (w : Content) (bytes count : ℕ) (frame other : List ℕ) → Written reading k t w bytes count frame →
    Altered head_and_side k t w frame other → Damaged k t w other (read_frame k t count other)

-- ---- 3. Signs and residual

-- all but signs, what comes late, and what is nobody's
abbrev pub lows_too : Whose → Bool
lows_too = sparing true

-- the frame is accepted; before what comes late every magnitude is as written, and the tail stands where it stood
pub record Harmless (k : Configuration) (t : Tables) (w : Content) (other : List ℕ) (answer : Answer Frame) : Type 0 where
  pub frame-read : Frame
  pub is : answer ≡ accepted frame-read
  pub written : AsWritten k t w (length other) frame-read
  pub magnitudes : map nat_abs (lines_of frame-read.pairs) ≡ map nat_abs (lines_of (returned k t w (length other)).pairs)
  pub stands : read_data k t (8 * length other) (lines_in k) other (record { head = 0; tail = 0 })
      ≡ accepted (record { side = frame-read.side; tns = frame-read.tns; pairs = frame-read.pairs; range = frame-read.range }, record { head = 3 + (coder_behind k t w (length other)).shifts; tail = early_length k w })

abbrev pub SignsAreHarmless : ℕ → Type 0
SignsAreHarmless reading =
    (k : Configuration) (t : Tables) (w : Content) (bytes count : ℕ) (frame other : List ℕ) → Written reading k t w bytes count frame →
    Altered lows_too k t w frame other → Harmless k t w other (read_frame k t count other)

-- ---- 4. Read again

-- what was read is written at the same length, and reads the same
pub record Canonical (k : Configuration) (t : Tables) (bytes count : ℕ) (x : Frame) : Type 0 where
  pub frame : List ℕ
  pub written : write_frame k t (content_of x) bytes ≡ accepted frame
  pub again : read_frame k t count frame ≡ accepted x

-- each pair was read with the escapes that its lines have, the least behind which they fit
abbrev pub ReadAgain : ℕ → Type 0
ReadAgain reading =
    (k : Configuration) (t : Tables) (count : ℕ) (f : List ℕ) (x : Frame) → k.reading ≡ reading → Bytes f →
    read_frame k t count f ≡ accepted x → SameEscapes x → Canonical k t (length f) count x
