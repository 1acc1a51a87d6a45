-- What a host is told of a frame: a number, and what is laid over its slices from their fronts, as far as each is long. What is laid
-- nowhere stays as it was.
use Rattle.std.specs.Prelude.{ℕ, cond, List, [], ◌∷◌, get_or}
use Rattle.std.proofs.lemmas.List.Edits.{sets}
use Rattle.common.specs.Reply.{Step, nowhere, side, start, order, coef, symbol, bit, Reply, Answer, accepted, refused, unless_refused}
use Rattle.frame_reader.specs.Frame.{Frame}
use Rattle.frame_reader.specs.Returned.{indices_of, residual_of}
use Rattle.frame_reader.specs.declared.Numbers.{Numbers}

-- 0, or the refusal's number
abbrev pub number_of : {A : Type 0} → Answer A → ℕ
number_of (accepted a) = 0
number_of (refused r) = r.number

-- an accepted frame: the nineteen numbers of its side information, then seed, zero flag and range
abbrev pub words_of : Numbers → List ℕ
words_of n =
    let s = n.side in
    s.bandwidth ∷ s.lastnz ∷ s.lsb ∷ s.gain ∷ s.tns_first ∷ s.tns_second ∷ s.pitch ∷
    s.sns.lf ∷ s.sns.hf ∷ s.sns.msb ∷ s.sns.submode_lsb ∷ s.sns.gain ∷
    s.sns.ls_inda ∷ s.sns.idx_a ∷ s.sns.ls_indb ∷ s.sns.idx_b ∷
    s.active ∷ s.index ∷ s.noise ∷
    n.seed ∷ cond n.zero 1 0 ∷ n.range ∷ []

-- both orders, the count of residual bits, and both cursors
abbrev pub counts_of : Numbers → List ℕ
counts_of n = n.first_order ∷ n.second_order ∷ n.residual_count ∷ n.cursor.head ∷ n.cursor.tail ∷ []

-- "side, start, order (TNS, f), coef (f,k), symbol or bit (pair, level)": which step, and its numbers, 0 where absent
abbrev pub step_numbers : Step → List ℕ
step_numbers nowhere = 0 ∷ 0 ∷ 0 ∷ []
step_numbers side = 1 ∷ 0 ∷ 0 ∷ []
step_numbers start = 2 ∷ 0 ∷ 0 ∷ []
step_numbers (order f) = 3 ∷ f ∷ 0 ∷ []
step_numbers (coef f k) = 4 ∷ f ∷ k ∷ []
step_numbers (symbol pair level) = 5 ∷ pair ∷ level ∷ []
step_numbers (bit pair level) = 6 ∷ pair ∷ level ∷ []

-- a refusal's two values, 0 where absent, and its step
abbrev pub place_of : Reply → List ℕ
place_of r = get_or r.values 0 0 ∷ get_or r.values 1 0 ∷ step_numbers r.step

abbrev pub numbers_behind : Answer Numbers → List ℕ → List ℕ
numbers_behind (accepted n) before = sets before 0 (counts_of n)
numbers_behind (refused r) before = sets before 0 (place_of r)

-- of a frame that is written a refusal alone has something to tell
abbrev pub place_behind : {A : Type 0} → Answer A → List ℕ → List ℕ
place_behind (accepted a) before = before
place_behind (refused r) before = sets before 0 (place_of r)

-- of a frame's field: where the next one begins, or the refusal's place
abbrev pub next_or_place : Answer ℕ → List ℕ → List ℕ
next_or_place (accepted end) before = sets before 0 (end ∷ [])
next_or_place (refused r) before = sets before 0 (place_of r)

abbrev pub words_behind : Answer Numbers → List ℕ → List ℕ
words_behind (accepted n) before = sets before 0 (words_of n)
words_behind (refused r) before = before

abbrev pub indices_behind : Answer Frame → List ℕ → List ℕ
indices_behind a before = unless_refused a before (sets before 0 (indices_of a))

abbrev pub residual_behind : Answer Frame → List ℕ → List ℕ
residual_behind a before = unless_refused a before (sets before 0 (residual_of a))
