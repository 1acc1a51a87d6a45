-- What is stated of two frames with the same side information and the same head bytes: the symbols and escapes do not depend on the
-- tail bits, as long as no tail bit is refused.
use Rattle.std.specs.Prelude.{ℕ, ◌<◌, ◌≡◌, List, [], ◌∷◌, get_or}
use Rattle.common.specs.Reply.{bit, Reply, Answer, accepted, refused, in_step, no_tail_room, residual_negative}
use Rattle.spectral_data.specs.Spectral.{Pair}
use Rattle.frame_reader.specs.Frame.{Frame}

-- two frames have the same bytes below a place
abbrev pub SameHead : List ℕ → List ℕ → ℕ → Type 0
SameHead f g head = (j : ℕ) → j < head → get_or f j 0 ≡ get_or g j 0

-- the escapes and the last symbol of each pair
unfoldable pub symbols_of : List Pair → List (ℕ × ℕ)
symbols_of [] = []
symbols_of (pair ∷ rest) = (pair.escapes, pair.last) ∷ symbols_of rest

-- the same symbols and escapes, of TNS data and of pairs, and the coder behind them at the same place with the same range
pub record SameSymbols (x y : Frame) : Type 0 where
  pub tns : x.tns ≡ y.tns
  pub symbols : symbols_of x.pairs ≡ symbols_of y.pairs
  pub head : x.cursor.head ≡ y.cursor.head
  pub range : x.range ≡ y.range

-- the refusals that the tail's bits can bring about: 9 in a step `bit`, and 12
pub data ByTail : Reply → Type 0 where
  bit_missing : (p level tail : ℕ) → ByTail (in_step (bit p level) (no_tail_room 1 tail))
  negative : ByTail residual_negative

abbrev pub SameOrByTail : Frame → Answer Frame → Type 0
SameOrByTail x (accepted y) = SameSymbols x y
SameOrByTail x (refused r) = ByTail r
