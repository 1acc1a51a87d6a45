-- Not needed to believe anything: what private contracts and proofs here speak by. No public contract cites it.
use Rattle.std.specs.Prelude.{ℕ, ◌+◌, ◌-◌, ◌*◌, ◌≤◌, ◌≡◌, cond, List, ◌++◌, length, take, drop, ℤ}
use Rattle.std.proofs.lemmas.List.Edits.{sets}
use Rattle.common.specs.Reply.{Reply}
use Rattle.side_info.specs.declared.SideInfo.{SideInfo}
use Rattle.residual_data.specs.Residual.{used_bits}
use Rattle.residual_data.specs.Private.{AtMost}
use Rattle.frame_reader.specs.declared.Numbers.{Numbers}
use Rattle.frame_text.specs.Text.{named, spaced, first_line, side_line, pitch_line, sns_line, tns_line, lines_line, residual_line, seed_line, used_line}

-- a text laid over a buffer from a place on, and the place behind it; what is past the buffer's end is laid nowhere
pub record Laid (before : List ℕ) (at : ℕ) (text after : List ℕ) (behind : ℕ) : Type 0 where
  pub contents : after ≡ sets before at text
  pub place : behind ≡ at + length text

-- a text laid part by part, behind i of the parts: what is left of it, over the buffer as it is now, makes what the whole asks
pub record Laying (rest : ℕ → List ℕ) (parts : ℕ) (before : List ℕ) (from : ℕ) (now : List ℕ) (at i : ℕ) : Type 0 where
  pub within : i ≤ parts
  pub size : length now ≡ length before
  pub contents : sets now at (rest i) ≡ sets before from (rest 0)
  pub place : at + length (rest i) ≡ from + length (rest 0)

-- a refusal without its step
unfoldable pub numbers_text : Reply → List ℕ
numbers_text r = named " refused " r.number ++ spaced r.values

-- what the reader returned of an accepted frame is within the limits of its numbers and lists
pub record Printable (bytes : ℕ) (n : Numbers) (indices residual : List ℕ) (lines : List ℤ) : Type 0 where
  pub short : bytes ≤ 400
  pub first : n.first_order ≤ 8
  pub second : n.second_order ≤ 8
  pub sixteen : length indices ≡ 16
  pub listed : n.residual_count ≤ length residual
  pub count : n.residual_count ≤ 400
  pub many : length lines ≤ 400
  pub sizes : AtMost 81920 lines
  pub three : 3 ≤ n.cursor.head
  pub head : n.cursor.head ≤ bytes
  pub tail : n.cursor.tail ≤ 8 * bytes
  pub least : 0x10000 ≤ n.range
  pub most : n.range ≤ 0xFFFFFF
  pub used : used_bits n.cursor n.range ≤ 8 * bytes

-- four, seven and nine lines by what the reader returned
abbrev pub four_lines : ℕ → ℕ → ℕ → SideInfo → List ℕ
four_lines number reading bytes side =
    first_line number bytes reading ++ side_line side ++ pitch_line side ++ sns_line side.sns

abbrev pub seven_lines : ℕ → ℕ → ℕ → Numbers → List ℕ → List ℕ → List ℤ → List ℕ
seven_lines number reading bytes n indices residual lines =
    four_lines number reading bytes n.side ++
    tns_line
    (record { order = n.first_order; indices = take n.first_order indices })
    (record { order = n.second_order; indices = take n.second_order (drop 8 indices) }) ++
    lines_line lines ++
    residual_line (take n.residual_count residual)

abbrev pub nine_lines : ℕ → ℕ → ℕ → Numbers → List ℕ → List ℕ → List ℤ → List ℕ
nine_lines number reading bytes n indices residual lines =
    seven_lines number reading bytes n indices residual lines ++
    seed_line n.seed (cond n.zero 1 0) ++
    used_line (used_bits n.cursor n.range) (8 * bytes - used_bits n.cursor n.range)
