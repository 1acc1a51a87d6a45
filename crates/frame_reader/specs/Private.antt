-- Not needed to believe anything: what private contracts and proofs here speak by. No public contract cites it.
use Rattle.std.specs.Prelude.{Result, Ok, Err, ℕ, ◌+◌, ◌-◌, ◌*◌, ◌/◌, ◌≤◌, ◌≡◌, true, cond, List, ◌++◌, eqb, leb, length, take, drop, get_or, replicate, ℤ, pos}
use Rattle.common.specs.Reply.{Reply, Answer, accepted, refused, and_then, answer_by}
use Rattle.common.specs.Tables.{Tables}
use Rattle.common.specs.declared.configuration.Configuration.{Configuration}
use Rattle.buffer_reader.specs.Steps.{Reading, found, next}
use Rattle.buffer_reader.specs.declared.Cursor.{Cursor}
use Rattle.side_info.specs.declared.SideInfo.{SideInfo}
use Rattle.range_decoder.specs.declared.DecoderState.{DecoderState}
use Rattle.contexts.specs.Contexts.{rate_flag}
use Rattle.tns_data.specs.Tns.{read_tns, weighting_row, sixteen_of}
use Rattle.spectral_data.specs.Spectral.{read_pairs, lines_of, levels_of}
use Rattle.residual_data.specs.Residual.{AllLate, available, residual_list, escaped_by, late_from}
use Rattle.residual_data.specs.Sums.{seed, zero_flag}
use Rattle.frame_reader.specs.Frame.{Data, Frame, read_data, finished}
use Rattle.frame_reader.specs.Returned.{reply_of, told, indices_of, residual_of, lines_behind}
use Rattle.frame_reader.specs.declared.FrameError.{FrameError}
use Rattle.frame_reader.specs.declared.Numbers.{Numbers}
use Rattle.frame_reader.specs.declared.FrameRead.{FrameRead}
use Rattle.frame_reader.specs.declared.inner.Known.{Known}
use Rattle.frame_reader.specs.declared.inner.Stored.{Stored}

-- a refusal by a check of the side information's own
abbrev pub Low : Reply → Type 0
Low r = leb r.number 8 ≡ true

-- what the coder reads from its start on
abbrev pub read_coded : Configuration → Tables → ℕ → ℕ → SideInfo → DecoderState → Reading Data
read_coded k t bits ne side state =
    next (read_tns t.orders t.coefficients (weighting_row k.duration bits) side.tns_first side.tns_second state)
    (λ tns. next (read_pairs t.lookup t.frequencies (eqb k.reading 1) (eqb side.lsb 1) (rate_flag bits k.fs_ind) ne 0 (side.lastnz / 2) 0 tns.state)
    (λ pairs. found (record { side = side; tns = tns.value; pairs = pairs.value; range = pairs.state.range })))

-- a whole frame behind the checks 1 to 4
abbrev pub read_on : Configuration → Tables → ℕ → List ℕ → Answer Frame
read_on k t ne f =
    and_then (read_data k t (8 * length f) ne f (record { head = 0; tail = 0 })) (λ r. finished k.reading ne f r.0 r.1)

-- the data as the code has it: numbers, and what stands in its three arrays
pub record Held : Type 0 where
  pub known : Known
  pub indices : List ℕ
  pub lines : List ℤ
  pub levels : List ℕ

abbrev pub held_in : Known → Stored → Held
held_in d s = record { known = d; indices = s.indices; lines = s.lines; levels = s.levels }

abbrev pub held_of : List ℤ → List ℕ → Data → Held
held_of lines levels d =
    record {
      known = record { side = d.side; first_order = d.tns.first.order; second_order = d.tns.second.order; range = d.range };
      indices = sixteen_of d.tns;
      lines = lines_of d.pairs ++ drop (2 * (d.side.lastnz / 2)) lines;
      levels = levels_of d.pairs ++ drop (d.side.lastnz / 2) levels;
    }

-- an answer so, by what the arrays held before
abbrev pub held : List ℤ → List ℕ → Answer (Data × Cursor) → Answer (Held × Cursor)
held lines levels a = and_then a (λ r. accepted (held_of lines levels r.0, r.1))

abbrev pub data_of : Result (Known × Cursor) FrameError → List ℕ → List ℤ → List ℕ → Answer (Held × Cursor)
data_of (Ok (d, c)) indices lines levels =
    accepted (record { known = d; indices = indices; lines = lines; levels = levels }, c)
data_of (Err e) indices lines levels = refused (reply_of e)

-- all that a call hands back of a frame: its answer, and the lent lines behind it
pub record Shown : Type 0 where
  pub outcome : Answer Numbers
  pub indices : List ℕ
  pub residual : List ℕ
  pub lines : List ℤ

abbrev pub shown : ℕ → Answer Frame → List ℤ → Shown
shown reading a before =
    record { outcome = told reading a; indices = indices_of a; residual = residual_of a; lines = lines_behind a before }

abbrev pub shown_of : FrameRead → List ℤ → Shown
shown_of r lines = record { outcome = answer_by reply_of r.outcome; indices = r.indices; residual = r.residual; lines = lines }

abbrev pub shown_refused : Reply → List ℤ → Shown
shown_refused r before =
    record { outcome = refused r; indices = replicate 16 0; residual = replicate 400 0; lines = before }

-- an accepted frame, by what the code has: `ne` lines of its array, the last cursor, how many residual bits and their array
abbrev pub shown_at : ℕ → ℕ → Known → Cursor → ℕ → List ℕ → List ℕ → List ℤ → List ℤ → Shown
shown_at reading ne d c count indices bits lines before =
    record {
      outcome =
          accepted
          (record {
            side = d.side;
            first_order = d.first_order;
            second_order = d.second_order;
            residual_count = count;
            seed = seed (take ne lines);
            zero = zero_flag reading d.side.lastnz d.side.gain d.side.noise (get_or lines 0 (pos 0)) (get_or lines 1 (pos 0));
            cursor = c;
            range = d.range;
          });
      indices = indices;
      residual = bits;
      lines = take ne lines ++ replicate (length before - ne) (pos 0);
    }

-- what comes late, over the code's arrays
abbrev pub late_of : ℕ → List ℕ → Held → ℕ → ℕ → AllLate
late_of reading f h tail room =
    let pairs = h.known.side.lastnz / 2 in
    late_from f (escaped_by reading (take pairs h.levels)) 0 (take (2 * pairs) h.lines) tail room

abbrev pub shown_late : ℕ → ℕ → List ℕ → Held → Cursor → ℕ → List ℤ → Shown
shown_late reading ne f h c room before =
    let late = late_of reading f h c.tail room in
    shown_at reading ne h.known (record { head = c.head; tail = late.tail }) 0 h.indices (replicate 400 0)
    (late.lines ++ drop (2 * (h.known.side.lastnz / 2)) h.lines)
    before

abbrev pub shown_residual : ℕ → ℕ → List ℕ → Held → Cursor → ℕ → List ℤ → Shown
shown_residual reading ne f h c room before =
    let bits = residual_list f c.tail room (take ne h.lines) in
    shown_at reading ne h.known (record { head = c.head; tail = c.tail + length bits }) (length bits) h.indices
    (bits ++ drop (length bits) (replicate 400 0))
    h.lines
    before

-- the residual bits behind the data, or 12
abbrev pub shown_by : Answer ℕ → (ℕ → Shown) → List ℤ → Shown
shown_by (accepted room) go before = go room
shown_by (refused r) go before = shown_refused r before

abbrev pub shown_finished : ℕ → ℕ → List ℕ → Held → Cursor → List ℤ → Shown
shown_finished reading ne f h c before =
    shown_by (available (8 * length f) c h.known.range)
    (λ room. cond (eqb h.known.side.lsb 1) (shown_late reading ne f h c room before) (shown_residual reading ne f h c room before))
    before

-- what is known of the data behind its reading
pub record Standing (ne : ℕ) (f : List ℕ) (c : Cursor) (range lastnz : ℕ) : Type 0 where
  pub three : 3 ≤ c.head
  pub head : c.head ≤ length f
  pub tail : c.tail ≤ 8 * length f
  pub least : 0x10000 ≤ range
  pub most : range ≤ 0xFFFFFF
  pub even : 2 * (lastnz / 2) ≡ lastnz
  pub last : lastnz ≤ ne
  pub two : 2 ≤ ne
  pub few : ne ≤ 400
  pub short : length f ≤ 400
