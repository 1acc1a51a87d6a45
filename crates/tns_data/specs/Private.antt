-- Not needed to believe anything: what private contracts and proofs here speak by. No public contract cites it.
use Rattle.std.specs.Prelude.{ℕ, List, take, drop, Result, Ok, Err}
use Rattle.std.proofs.lemmas.List.Edits.{sets}
use Rattle.common.specs.Reply.{Answer, accepted, refused, and_then}
use Rattle.buffer_reader.specs.declared.Cursor.{Cursor}
use Rattle.range_decoder.specs.declared.DecoderState.{DecoderState}
use Rattle.coding.specs.Coding.{Coded, met_of}
use Rattle.coding.specs.declared.Met.{Met}
use Rattle.tns_data.specs.Tns.{Filter, Tns, sixteen_of}

-- a filter as the code has it: its order, the sixteen places, and the state and the cursor behind it
pub record Laid : Type 0 where
  pub order : ℕ
  pub places : List ℕ
  pub state : DecoderState
  pub cursor : Cursor

-- what the result of a filter says, with the places behind it
abbrev pub filter_of : Result (ℕ × DecoderState × Cursor) Met → List ℕ → Answer Laid
filter_of (Ok (n, s, c)) places = accepted (record { order = n; places = places; state = s; cursor = c })
filter_of (Err e) places = refused (met_of e)

-- indices that were read, laid from a place on
abbrev pub indices_laid : List ℕ → ℕ → ℕ → Answer (Coded (List ℕ) × Cursor) → Answer Laid
indices_laid before at n a =
    and_then a (λ r. accepted (record { order = n; places = sets before at r.0.value; state = r.0.state; cursor = r.1 }))

abbrev pub laid : List ℕ → ℕ → Answer (Coded Filter × Cursor) → Answer Laid
laid before at a =
    and_then a (λ r. accepted (record { order = r.0.value.order; places = sets before at r.0.value.indices; state = r.0.state; cursor = r.1 }))

-- both filters as the code has them
pub record Told : Type 0 where
  pub first : ℕ
  pub second : ℕ
  pub places : List ℕ
  pub state : DecoderState
  pub cursor : Cursor

-- what the result of both says
abbrev pub tns_of : Result (ℕ × ℕ × DecoderState × Cursor) Met → List ℕ → Answer Told
tns_of (Ok (m, n, s, c)) places = accepted (record { first = m; second = n; places = places; state = s; cursor = c })
tns_of (Err e) places = refused (met_of e)

abbrev pub told : Answer (Coded Tns × Cursor) → Answer Told
told a =
    and_then a
    (λ r. accepted (record {
      first = r.0.value.first.order;
      second = r.0.value.second.order;
      places = sixteen_of r.0.value;
      state = r.0.state;
      cursor = r.1;
    }))

-- a filter whose indices stand from a place on
abbrev pub filter_at : ℕ → ℕ → List ℕ → Filter
filter_at from order indices = record { order = order; indices = take order (drop from indices) }
