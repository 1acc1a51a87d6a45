-- What is stated of every frame that was read: how long its residual list is, how large its lines are, and where the readings agree.
use Rattle.std.specs.Prelude.{ℕ, ◌+◌, ◌*◌, ◌≤◌, ◌<◌, min, ◌≡◌, true, false, [], eqb, length, get_or, pos, nat_abs}
use Rattle.common.specs.Reply.{Answer, accepted, refused, fourteen_escapes}
use Rattle.spectral_data.specs.Spectral.{levels_of}
use Rattle.residual_data.specs.Residual.{nonzero}
use Rattle.frame_reader.specs.Frame.{Frame}
use Rattle.frame_reader.specs.Spare.{spare}

-- of N bits: in least-bit mode there is no residual list; outside it the list has as many bits as the smaller of the room and the
-- nonzero lines, the room being what is spare behind the list and the list itself
pub record Listed (bits : ℕ) (x : Frame) : Type 0 where
  pub none : eqb x.side.lsb 1 ≡ true → x.residual ≡ []
  pub list : eqb x.side.lsb 1 ≡ false → length x.residual ≡ min (spare bits x + length x.residual) (nonzero x.lines)

-- even lines are at most 32,767 and odd ones at most 81,919; odd ones at most 32,767 behind fewer than fourteen escapes
pub record Magnitudes (x : Frame) : Type 0 where
  pub evens : (i : ℕ) → nat_abs (get_or x.lines (2 * i) (pos 0)) ≤ 32767
  pub odds : (i : ℕ) → nat_abs (get_or x.lines (2 * i + 1) (pos 0)) ≤ 81919
  pub few : (i : ℕ) → get_or (levels_of x.pairs) i 0 < 14 → nat_abs (get_or x.lines (2 * i + 1) (pos 0)) ≤ 32767

-- no pair was read with fourteen escapes
abbrev pub FewEscapes : Frame → Type 0
FewEscapes x = (p : ℕ) → get_or (levels_of x.pairs) p 0 < 14

-- by request P4, of the standard reading: every line is -32,767 to 32,767
abbrev pub WithinSixteen : Frame → Type 0
WithinSixteen x = (i : ℕ) → nat_abs (get_or x.lines i (pos 0)) ≤ 32767

-- a refusal, or a frame outside least-bit mode
abbrev pub OutsideLeastBit : Answer Frame → Type 0
OutsideLeastBit (accepted fr) = eqb fr.side.lsb 1 ≡ false
OutsideLeastBit (refused q) = Unit {0}

-- the crate reading's answer beside the standard reading's: one; or the standard's is 19, and where the crate's is a frame, the pair
-- named has fourteen escapes in it
pub data AlikeOrDamage (crate standard : Answer Frame) : Type 0 where
  alike : crate ≡ standard → AlikeOrDamage crate standard
  damage : (p : ℕ) → standard ≡ refused (fourteen_escapes p) → ((x : Frame) → crate ≡ accepted x → get_or (levels_of x.pairs) p 0 ≡ 14) → AlikeOrDamage crate standard

-- any answer but 19
abbrev pub NoDamage : Answer Frame → Type 0
NoDamage (accepted fr) = Unit {0}
NoDamage (refused q) = q.number ≡ 19 → ⊥
