-- What a walk by hand of the step on a lent state stands on: what the parameters beside the state own, and that it is had twice. Both slices are `&`,
-- and a cursor owns facts alone. Assumes nothing.
use mathlib.Core.List.{List, [], ◌∷◌}
use Prim.Native.Nat.{ℕ}
use lib.ListN.{length}
use seplogic.Ra.Ura.{Ura}
use mir.Syntax.{named, w8, w16}
use mir.Val.{Val}
use base.Logic.{ent, sep}
use base.Fml.{Lft, Fml}
use types.Logic.{Logic, sem}
use types.Kit.{‵, ◌⊛◌, ◌$◌, ◌∵◌, !, qed, move, drop, use1, split, fsplit, fjoin, frame, done}
use denote.RattleType.{owns}
use denote.Laws.{Is}
use denote.Plain.{uint_row_laws}
use denote.Builtin.{u8, u16}
use denote.Ref.{Bor}
use denote.Slice.{slice_val, ShrSlice, shr_slice_copy}
use denote.Steps.{owned, nothing}
use denote.Struct.Laws as LL
use Rattle.buffer_reader.specs.declared.Cursor.{Cursor}
use Rattle.buffer_reader.specs.contracts.Cursor as K
use Rattle.buffer_reader.proofs.Cursor.TheLaws as K'

-- the machine value of a slice
abbrev pub slice : Bor (List ℕ) → Val
slice s = slice_val s.ref_ptr (length s.now)

-- what the buffer, the cursor and the row own
abbrev pub Beside : Lft → Lft → Bor (List ℕ) → Cursor → Bor (List ℕ) → Fml
Beside κ₁ κ₂ s c w = owns (ShrSlice (named 1) κ₁ u8 ∷ K.the_row ∷ ShrSlice (named 2) κ₂ u16 ∷ []) (s, (c, (w, tt))) (slice s ∷ [], (K'.lowered c ∷ [], (slice w ∷ [], tt)))

module _ {M : Type 1} {𝓤 : Ura M} (𝓛 : Logic 𝓤) (κ₁ κ₂ : Lft) (s : Bor (List ℕ)) (c : Cursor) (w : Bor (List ℕ)) (c-is : Is K.the_row c (K'.lowered c ∷ [])) where
  abbrev Rest : Fml
  Rest = Beside κ₁ κ₂ s c w

  abbrev Os : Fml
  Os = (ShrSlice (named 1) κ₁ u8).own_val s (slice s ∷ [])

  abbrev Ow : Fml
  Ow = (ShrSlice (named 2) κ₂ u16).own_val w (slice w ∷ [])

  -- once for a callee, and once at exit
  pub twice : ent 𝓤 (sem 𝓛 Rest) (sep 𝓤 (sem 𝓛 Rest) (sem 𝓛 Rest))
  twice =
      qed 𝓛 (‵ Rest ∷ []) ∵ fsplit ! $ use1 𝓛 (‵ Os ⊛ ‵ Os) ((shr_slice_copy 𝓛 (named 1) κ₁ u8 (uint_row_laws w8)).twice s (slice s ∷ [])) $ split ! $ move ! (2 ∷ []) $ fsplit ! $ drop ! $ fsplit ! $
      use1 𝓛 (‵ Ow ⊛ ‵ Ow) ((shr_slice_copy 𝓛 (named 2) κ₂ u16 (uint_row_laws w16)).twice w (slice w ∷ [])) $ split ! $
      -- [row's; row's; true; buf's; buf's]
      nothing ! $ move ! (1 ∷ 0 ∷ []) $ fjoin ! $ owned ! K.the_row (Is K.the_row) (LL.makes K.the_type K'.the_plain 𝓛) c _ c-is $ fjoin ! $ move ! (3 ∷ 0 ∷ []) $ fjoin ! $
      move ! (1 ∷ 2 ∷ []) $ fjoin ! $ owned ! K.the_row (Is K.the_row) (LL.makes K.the_type K'.the_plain 𝓛) c _ c-is $ fjoin ! $ move ! (2 ∷ 0 ∷ []) $ fjoin ! $ frame ! $ done !
