-- The numbered replies of document 01, "Numbered replies": a refusal is its number with its values, and the step that met it.
-- Every enum of errors has a `reply_of` that says what each is here, and contracts speak by that.
use Rattle.std.specs.Prelude.{ℕ, Bool, true, false, cond, ◌&&◌, leb, List, [], ◌∷◌, Result, Ok, Err}

-- "side, start, order (TNS, f), coef (f,k), symbol or bit (pair, level)": the step of the reader that met a refusal 9 to 11
pub data Step : Type 0 where
  nowhere : Step
  side : Step
  start : Step
  order : ℕ → Step
  coef : ℕ → ℕ → Step
  symbol : ℕ → ℕ → Step
  bit : ℕ → ℕ → Step

-- "refused calls return number and place": a leaf's refusal stands in no step
pub record Reply : Type 0 where
  pub number : ℕ
  pub values : List ℕ
  pub step : Step

-- what a call answers: a value, or a refusal
pub data Answer (A : Type 0) : Type 0 where
  accepted : A → Answer A
  refused : Reply → Answer A

-- what a `Result` says, by what its errors say
abbrev pub answer_by : {A E : Type 0} → (E → Reply) → Result A E → Answer A
answer_by says (Ok a) = accepted a
answer_by says (Err e) = refused (says e)

-- "given exactly when": the refusal if the test holds, and otherwise what follows; a chain of these is the order of checks
abbrev pub given : {A : Type 0} → Bool → Reply → Answer A → Answer A
given true reply otherwise = refused reply
given false reply otherwise = otherwise

-- a value goes on, a refusal stays
abbrev pub and_then : {A B : Type 0} → Answer A → (A → Answer B) → Answer B
and_then (accepted a) next = next a
and_then (refused r) next = refused r

-- "Refusals 9 to 11 while reading sit inside the step that met them"; any other is as it was
abbrev pub in_step : Step → Reply → Reply
in_step place r =
    cond (leb 9 r.number && leb r.number 11) (record { number = r.number; values = r.values; step = place }) r

abbrev pub within : {A : Type 0} → Step → Answer A → Answer A
within place (accepted a) = accepted a
within place (refused r) = refused (in_step place r)

-- "all lent memory keeps its contents": what it holds behind an answer, by what it held and what would be written
abbrev pub unless_refused : {A : Type 0} → Answer A → List ℕ → List ℕ → List ℕ
unless_refused (accepted a) before written = written
unless_refused (refused r) before written = before

abbrev pub reply : ℕ → List ℕ → Reply
reply n values = record { number = n; values = values; step = nowhere }

-- 1: configuration, target, or range of a lent decoder state outside its limits
abbrev pub outside_limits : Reply
outside_limits = reply 1 []

-- 2: frame not 20..400 bytes; leaf buffer over 65,535
abbrev pub wrong_length : ℕ → Reply
wrong_length length = reply 2 (length ∷ [])

-- 3: table set, or a single row lent to the symbol step, fails
abbrev pub tables_fail : Reply
tables_fail = reply 3 []

-- 4: line buffer read into < ne; line list written or estimated not ne; over 100 energies
abbrev pub wrong_count : ℕ → Reply
wrong_count length = reply 4 (length ∷ [])

-- 5: bandwidth > fs_ind
abbrev pub bandwidth_too_large : ℕ → Reply
bandwidth_too_large bandwidth = reply 5 (bandwidth ∷ [])

-- 6: lastnz > ne
abbrev pub lastnz_too_large : ℕ → ℕ → Reply
lastnz_too_large lastnz ne = reply 6 (lastnz ∷ ne ∷ [])

-- 7: J too large, 25 bits
abbrev pub joint_too_large25 : ℕ → Reply
joint_too_large25 joint = reply 7 (joint ∷ [])

-- 8: J too large, 24 bits
abbrev pub joint_too_large24 : ℕ → Reply
joint_too_large24 joint = reply 8 (joint ∷ [])

-- 9: no tail room; the width of a field, and by request P6 the tail cursor before it, in bits
abbrev pub no_tail_room : ℕ → ℕ → Reply
no_tail_room width tail = reply 9 (width ∷ tail ∷ [])

-- 10: head byte, or the first three, past the end
abbrev pub head_past_end : ℕ → Reply
head_past_end head = reply 10 (head ∷ [])

-- 11: low beyond limit
abbrev pub low_beyond_limit : ℕ → ℕ → Reply
low_beyond_limit low limit = reply 11 (low ∷ limit ∷ [])

-- 12: residual negative
abbrev pub residual_negative : Reply
residual_negative = reply 12 []

-- 13: side or TNS field outside what the reader can return beside the record's other fields, or nonzero where absent
abbrev pub field_outside : Reply
field_outside = reply 13 []

-- 14: line -32768, or nonzero from lastnz on
abbrev pub line_outside : ℕ → Reply
line_outside first_place = reply 14 (first_place ∷ [])

-- 15: residual list longer than nonzero lines
abbrev pub residual_too_long : Reply
residual_too_long = reply 15 []

-- 16: tail bits before residual + E > N
abbrev pub no_room : Reply
no_room = reply 16 []

-- 17: width not listed
abbrev pub width_not_listed : ℕ → Reply
width_not_listed width = reply 17 (width ∷ [])

-- 18: tagged field malformed, or no room for it
abbrev pub field_malformed : ℕ → Reply
field_malformed offset = reply 18 (offset ∷ [])

-- 19, by request P4: fourteen escapes, in the standard reading
abbrev pub fourteen_escapes : ℕ → Reply
fourteen_escapes pair = reply 19 (pair ∷ [])
