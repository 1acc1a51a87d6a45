-- Not needed to believe anything: what private contracts and proofs here speak by. No public contract cites it.
use Rattle.std.specs.Prelude.{ℕ, List, [], ◌∷◌, get_or}
use Rattle.common.specs.Reply.{Reply}

-- a refusal's two values, and a step's three numbers behind them
abbrev pub in_place : Reply → ℕ → ℕ → ℕ → List ℕ
in_place r step first second = get_or r.values 0 0 ∷ get_or r.values 1 0 ∷ step ∷ first ∷ second ∷ []
