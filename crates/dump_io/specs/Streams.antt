-- What passes between a stream and memory. The bytes of a stream are known where its type says them, as it does of one over memory.
use Rattle.std.specs.Prelude.{ℕ, ◌≤◌, ◌≡◌, List, length, take, Option, None, Some, Result, IfOk, ⊤}

-- so many bytes stand at the front of a list, which has as many
abbrev pub IsPrefixLen : ℕ → List ℕ → Type 0
IsPrefixLen n xs = (n ≤ length xs) × (n ≡ length (take n xs))

-- bytes at the front of a buffer, if they could be read
abbrev pub Within : {E : Type 0} → Result ℕ E → List ℕ → Type 0
Within input buf = IfOk input (λ n. IsPrefixLen n buf)

-- they are the first that the stream had, as many as there is room for
abbrev pub IsFirst : {E : Type 0} → Option (List ℕ) → Result ℕ E → List ℕ → Type 0
IsFirst None input buf = ⊤
IsFirst (Some xs) input buf = IfOk input (λ n. take n buf ≡ take (length buf) xs)
