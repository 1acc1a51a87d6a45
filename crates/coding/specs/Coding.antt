-- How a frame's data is read: a coding goes from the coder's state to a reading of a value and of the state behind it. And the
-- refusals that a step can meet, "side, start, order (TNS, f), coef (f,k), symbol or bit (pair, level)".
use Rattle.std.specs.Prelude.{ℕ, List}
use Rattle.common.specs.Reply.{Step, side, start, order, coef, symbol, bit, Reply, no_tail_room, head_past_end, low_beyond_limit, in_step, within}
use Rattle.buffer_reader.specs.Steps.{Reading, found, next, take_flag}
use Rattle.range_decoder.specs.Decoder.{symbol_step}
use Rattle.range_decoder.specs.declared.DecoderState.{DecoderState}
use Rattle.coding.specs.declared.Refusal.{Refusal}
use Rattle.coding.specs.declared.Refusal.TheVariants.{NoTailRoom, PastEnd, LowBeyondLimit}
use Rattle.coding.specs.declared.Met.{Met}
use Rattle.coding.specs.declared.Met.TheVariants.{Side, Start, Order, Coef, Symbol, Bit}

-- a value, and the coder's state behind it
pub record Coded (A : Type 0) : Type 0 where
  pub value : A
  pub state : DecoderState

abbrev pub Coding : Type 0 → Type 0
Coding A = DecoderState → Reading (Coded A)

-- nothing more is read
abbrev pub done : {A : Type 0} → A → Coding A
done a s = found (record { value = a; state = s })

-- one coding, then by its value the next
abbrev pub onward : {A B : Type 0} → Coding A → (A → Coding B) → Coding B
onward first rest s = next (first s) (λ r. rest r.value r.state)

-- a coding whose refusals 9 to 11 stand in a step
abbrev pub met : {A : Type 0} → Step → Coding A → Coding A
met step coding s f c = within step (coding s f c)

-- a symbol by a row
abbrev pub symbol_by : List ℕ → Coding ℕ
symbol_by row s = next (symbol_step s row) (λ d. found (record { value = d.symbol; state = d.state }))

-- a tail bit as 0 or 1; the coder stays as it is
abbrev pub tail_bit_by : Coding ℕ
tail_bit_by s = next take_flag (λ b. done b s)

-- document 01's number and values of each refusal, and the step that met it
abbrev pub refusal_of : Refusal → Reply
refusal_of (NoTailRoom width tail) = no_tail_room width tail
refusal_of (PastEnd head) = head_past_end head
refusal_of (LowBeyondLimit low limit) = low_beyond_limit low limit

abbrev pub met_of : Met → Reply
met_of (Side e) = in_step side (refusal_of e)
met_of (Start e) = in_step start (refusal_of e)
met_of (Order f e) = in_step (order f) (refusal_of e)
met_of (Coef f k e) = in_step (coef f k) (refusal_of e)
met_of (Symbol p level e) = in_step (symbol p level) (refusal_of e)
met_of (Bit p level e) = in_step (bit p level) (refusal_of e)
