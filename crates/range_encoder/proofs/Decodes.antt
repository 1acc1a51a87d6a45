-- The decoder on any continuation. Its low is the number of the head bytes so far less the interval's base, so the symbol that owns
-- low is the one whose part the number lies in, and each appended byte is the next digit of the number. Assumes nothing.
use Prim.Native.Nat.{ℕ, ◌+◌, ◌-◌, ◌*◌, ◌≤◌, ◌<◌}
use mathlib.Core.Path.{◌≡◌, refl, ◌∙◌}
use mathlib.Core.Bool.{Bool, true, false, cond}
use mathlib.Core.List.{List, [], ◌∷◌}
use native.Mathlib.Omega.{arith}
use native.Mathlib.Nat.{add-zero}
use borrow.Author.Tests.{lt-leb}
use lib.Dec.{ltb}
use lib.ListN.{length, get_or}
use Rattle.common.proofs.Bools.{by-test}
use Rattle.common.specs.Reply.{accepted}
use Rattle.buffer_reader.specs.Reads.{take_byte, three_at}
use Rattle.buffer_reader.specs.Steps.{next, found}
use Rattle.buffer_reader.specs.declared.Cursor.{Cursor}
use Rattle.buffer_reader.proofs.Answers.{byte-taken, three-taken}
use Rattle.buffer_reader.specs.Tail.{Bytes}
use Rattle.range_decoder.specs.Decoder.{unit_of, append_byte, renormalised, symbol_step, start_decoder}
use Rattle.range_decoder.specs.Theory.{Owns}
use Rattle.range_decoder.proofs.Owners.{owns-owner, owns-limit}
use Rattle.range_encoder.specs.Interval.{Sent, cumulative_of, Interval, whole, part, widened, narrowed_by, behind}
use Rattle.range_encoder.specs.Runs.{Passes, AllPass, more, decode_all}
use Rattle.range_encoder.specs.Digits.{head_number}
use Rattle.range_encoder.specs.Theory.{Within, Inside, state_at, cursor_at, decoded_as}
use Rattle.range_encoder.proofs.Symbols.{symbol-given}
use Rattle.range_encoder.proofs.Numbers.{head_more}
use Rattle.range_encoder.proofs.Intervals.{within-whole, within-narrowed}

-- the shifts only grow
pub widened-shifts : (i : Interval) → i.shifts ≤ (widened i).shifts
widened-shifts i = by-test (ltb i.range 0x10000) (λ e. rw e (omega arith)) (λ e. rw e (omega arith))

pub behind-shifts : (i : Interval) (xs : List Sent) → i.shifts ≤ (behind i xs).shifts
unfolding behind
behind-shifts i [] = omega arith
behind-shifts i (x ∷ xs) =
    omega (arith, widened-shifts (part i x), widened-shifts (widened (part i x)), behind-shifts (narrowed_by i x) xs)

-- one byte more is one digit more
head-next : (f : List ℕ) (h n : ℕ) → head_number f h (3 + (n + 1)) ≡ head_number f h (3 + n) * 256 + get_or f (h + (3 + n)) 0
head-next f h n = let e : 3 + (n + 1) ≡ 3 + n + 1 = omega arith in rw e (head_more f h (3 + n))

-- `widened`, by its test
abbrev wider : Bool → Interval → Interval
wider below i = cond below (record { base = i.base * 256; range = i.range * 256; shifts = i.shifts + 1 }) i

module _ (f : List ℕ) (h : ℕ) (bytes : Bytes f) where
  inside-wider : (below : Bool) (i : Interval) → Inside f h (wider below i) → Inside f h i
  inside-wider true i o =
      let digit : get_or f (h + (3 + i.shifts)) 0 < 256 = bytes (h + (3 + i.shifts)) in
      let more_bytes = head-next f h i.shifts in
      record { low = omega (arith, o.low); high = omega (arith, o.high) }
  inside-wider false i o = o

  -- a number in the widened interval lies, without its last byte, in the interval
  pub inside-widened : (i : Interval) → Inside f h (widened i) → Inside f h i
  inside-widened i = inside-wider (ltb i.range 0x10000) i

  -- nesting: what lies in a later interval lies, cut to its bytes, in every earlier one
  pub inside-before : (i : Interval) (x : Sent) → Within i → Passes x → Inside f h (narrowed_by i x) → Inside f h i
  inside-before i x within p o =
      let q = inside-widened (part i x) (inside-widened (widened (part i x)) o) in
      let g = symbol-given i.range x within.range-least p in
      record { low = omega (arith, q.low); high = omega (arith, q.high, g.most) }

  pub inside-behind : (i : Interval) (xs : List Sent) → Within i → AllPass xs → Inside f h (behind i xs) → Inside f h i
  unfolding behind
  inside-behind i [] within p o = o
  inside-behind i (x ∷ xs) within (more p ps) o =
      inside-before i x within p (inside-behind (narrowed_by i x) xs (within-narrowed i x within p) ps o)

module _ (f : List ℕ) (c : Cursor) (bytes : Bytes f) (size : length f ≤ 65535) where
  append-wider : (below : Bool) (i : Interval) → c.head + 3 + (wider below i).shifts ≤ length f → i.base ≤ head_number f c.head (3 + i.shifts) → cond below (next take_byte (λ byte. found (record { low = (state_at f c.head i).low * 256 + byte; range = i.range * 256 }))) (found (state_at f c.head i)) f (cursor_at c i) ≡ accepted (state_at f c.head (wider below i), cursor_at c (wider below i))
  append-wider true i room low =
      let at : c.head + (3 + i.shifts) ≡ c.head + 3 + i.shifts = omega arith in
      let head : c.head + 3 + i.shifts + 1 ≡ c.head + 3 + (i.shifts + 1) = omega arith in
      let digit : (head_number f c.head (3 + i.shifts) - i.base) * 256 + get_or f (c.head + 3 + i.shifts) 0 ≡ head_number f c.head (3 + (i.shifts + 1)) - i.base * 256 =
      rw (head-next f c.head i.shifts, at) (omega arith) in
      rw (byte-taken f (cursor_at c i) size (omega arith), digit, head) refl
  append-wider false i room low = refl

  -- an appended byte is the number's next digit
  append-widened : (i : Interval) → c.head + 3 + (widened i).shifts ≤ length f → Inside f c.head (widened i) → append_byte (state_at f c.head i) f (cursor_at c i) ≡ accepted (state_at f c.head (widened i), cursor_at c (widened i))
  append-widened i room o =
      append-wider (ltb i.range 0x10000) i room (inside-widened f c.head bytes i o).low

  renormalised-widened : (i : Interval) → c.head + 3 + (widened (widened i)).shifts ≤ length f → Inside f c.head (widened (widened i)) → renormalised (state_at f c.head i) f (cursor_at c i) ≡ accepted (state_at f c.head (widened (widened i)), cursor_at c (widened (widened i)))
  renormalised-widened i room o =
      let first = append-widened i (omega (arith, widened-shifts (widened i))) (inside-widened f c.head bytes (widened i) o) in
      rw first (append-widened (widened i) room o)

-- one symbol: the decoder finds it, with the encoder's range, and low is the continuation less base
pub decode-one : (f : List ℕ) (c : Cursor) (i : Interval) (x : Sent) → Bytes f → length f ≤ 65535 → Passes x → c.head + 3 + (narrowed_by i x).shifts ≤ length f → Inside f c.head (narrowed_by i x) → symbol_step (state_at f c.head i) x.row f (cursor_at c i) ≡ accepted (record { symbol = x.symbol; state = state_at f c.head (narrowed_by i x) }, cursor_at c (narrowed_by i x))
decode-one f c i x bytes size p room o =
    let q = inside-widened f c.head bytes (part i x) (inside-widened f c.head bytes (widened (part i x)) o) in
    let low : ℕ = head_number f c.head (3 + i.shifts) - i.base in
    let unit : ℕ = unit_of i.range in
    let owns : Owns unit low x.row x.symbol =
    record { there = p.symbol-there; starts = omega (arith, q.low); ends = omega (arith, q.low, q.high) } in
    let own : low - unit * cumulative_of x ≡ (state_at f c.head (part i x)).low = omega arith in
    rw (lt-leb (1024 * unit) low (owns-limit x.row p.row-passes unit low x.symbol owns), owns-owner x.row p.row-passes unit low x.symbol owns, own, renormalised-widened f c bytes size (part i x) room o) refl

-- from any interval on
pub decode-rest : (f : List ℕ) (c : Cursor) (i : Interval) (xs : List Sent) → Bytes f → length f ≤ 65535 → Within i → AllPass xs → c.head + 3 + (behind i xs).shifts ≤ length f → Inside f c.head (behind i xs) → decode_all (state_at f c.head i) xs f (cursor_at c i) ≡ accepted (decoded_as f c.head i xs, cursor_at c (behind i xs))
unfolding behind decode_all decoded_as
decode-rest f c i [] bytes size within p room o = refl
decode-rest f c i (x ∷ xs) bytes size within (more p ps) room o =
    let later = within-narrowed i x within p in
    let here = inside-behind f c.head bytes (narrowed_by i x) xs later ps o in
    let one = decode-one f c i x bytes size p (omega (arith, behind-shifts (narrowed_by i x) xs)) here in
    let rest = decode-rest f c (narrowed_by i x) xs bytes size later ps room o in
    rw (one, rest) refl

three-number : (f : List ℕ) (h : ℕ) → three_at f h ≡ head_number f h 3
unfolding head_number
three-number f h = rw (add-zero h) (omega arith)

-- the start is the first interval's: three bytes, and the whole range
pub start-whole : (f : List ℕ) (c : Cursor) → length f ≤ 65535 → c.head + 3 ≤ length f → start_decoder f c ≡ accepted (state_at f c.head whole, cursor_at c whole)
start-whole f c size room =
    let low : three_at f c.head ≡ (state_at f c.head whole).low = three-number f c.head ∙ omega arith in
    rw (three-taken f c size (omega arith), low, add-zero (c.head + 3)) refl

-- theorem 4: on every frame whose head number lies in the interval behind the symbols, whatever its other bytes are, the decoder
-- finds the symbols, each with the encoder's range behind it
pub decodes : (f : List ℕ) (c : Cursor) (xs : List Sent) → Bytes f → length f ≤ 65535 → AllPass xs → c.head + 3 + (behind whole xs).shifts ≤ length f → Inside f c.head (behind whole xs) → next start_decoder (λ s. decode_all s xs) f c ≡ accepted (decoded_as f c.head whole xs, cursor_at c (behind whole xs))
decodes f c xs bytes size p room o =
    rw (start-whole f c size (omega arith))
    (decode-rest f c whole xs bytes size within-whole p room o)
