-- What a test says.
use Rattle.std.specs.Prelude.{ℕ, ◌<◌, ◌≡◌, Bool, true, List, get_or}

-- a test holds exactly if the fact does
abbrev pub Says : Bool → Type 0 → Type 0
Says r P = (r ≡ true → P) × (P → r ≡ true)

-- two lists have the same first numbers, so many
abbrev pub Alike : List ℕ → List ℕ → ℕ → Type 0
Alike xs ys n = (k : ℕ) → k < n → get_or xs k 0 ≡ get_or ys k 0
