-- What a walk by hand stands on that makes a reader in a local: the reader made, what it owns, and what is handed back. The frame is a `&`, so what it
-- owns is had twice, and the cursors own facts alone. Assumes nothing.
use mathlib.Core.Path.{refl, subst}
use Prim.Native.Nat.{ℕ, ◌<◌, ◌^◌}
use mathlib.Core.List.{List, [], ◌∷◌}
use seplogic.Ra.Ura.{Ura}
use mir.Syntax.{named, w8, w64}
use mir.Val.{Val}
use base.Logic.{ent, sep}
use base.Fml.{Lft}
use types.Logic.{Logic, sem}
use types.Kit.{‵, ◌⊛◌, ◌$◌, ◌∵◌, !, qed, by, move, use1, split, fjoin, frame}
use denote.Laws.{Is}
use denote.Plain.{uint_row_laws, uint_Makes}
use denote.Builtin.{u8, u32, usize}
use denote.Ref.{Bor}
use denote.Slice.{shr_slice_copy}
use denote.Steps.{owned, nothing}
use denote.Enum.Laws as EL
use denote.Struct.Laws as LL
use denote.Struct.Rest.{own_shut}
use Rattle.buffer_reader.specs.declared.Cursor.{Cursor}
use Rattle.buffer_reader.specs.declared.reader.Reader.{Reader}
use Rattle.forms.proofs.Held.{D, L, Own, Frame, slice, Taken, taken_laws}
use Rattle.buffer_reader.specs.contracts.Cursor as K
use Rattle.buffer_reader.proofs.Cursor.TheLaws as K'
use Rattle.std.specs.declared.result.Result.{Result}
use Rattle.std.specs.contracts.result.Result as S
use Rattle.buffer_reader.specs.declared.BufferError.{BufferError}
use Rattle.buffer_reader.specs.contracts.BufferError as B
use Rattle.forms.specs.declared.inner.Reached.{Reached}
use Rattle.forms.specs.contracts.inner.Reached as N
use Rattle.forms.proofs.inner.Reached.TheLaws as N'

-- what a read gave, as the machine holds it
abbrev pub given : Result ℕ BufferError → List Val
given r = EL.vals (S.the_type u32 B.the_row) taken_laws r

-- the reader that is made of a frame and a cursor, and what is handed back of it
abbrev pub reader : Bor (List ℕ) → Cursor → Reader
reader s c = record { frame = s; head = c.head; tail = c.tail }

abbrev pub made : Result ℕ BufferError → Cursor → Reached
made r p = record { at = p; taken = r }

-- what a cursor's value tells of its places
pub at_head : (c : Cursor) → Is K.the_row c (K'.lowered c ∷ []) → c.head < 2 ^ 64
at_head c c-is = (LL.owed K.the_type K'.the_laws c _ c-is).0.1

pub at_tail : (c : Cursor) → Is K.the_row c (K'.lowered c ∷ []) → c.tail < 2 ^ 64
at_tail c c-is = (LL.owed K.the_type K'.the_laws c _ c-is).1.0.1

-- what is told of what a read gave, of where the reader stands, and of what is handed back
pub taken_is : (r : Result ℕ BufferError) (u : Val) → Is Taken r (u ∷ []) → Is Taken r (given r)
taken_is r u got = subst (Is Taken r) (EL.tells (S.the_type u32 B.the_row) taken_laws r _ got) got

pub place_is : (p : Cursor) (u : Val) → Is K.the_row p (u ∷ []) → Is K.the_row p (K'.lowered p ∷ [])
place_is p u got = subst (Is K.the_row p) (LL.tells K.the_type K'.the_laws p _ got) got

pub made-is : (r : Result ℕ BufferError) (p : Cursor) → Is Taken r (given r) → Is K.the_row p (K'.lowered p ∷ []) → Is N.the_row (made r p) (LL.val N.the_type N'.the_laws (made r p) ∷ [])
made-is r p r-is p-is = LL.owes N.the_type N'.the_laws (made r p) (p-is, (r-is, tt))

module _ {M : Type 1} {𝓤 : Ura M} (𝓛 : Logic 𝓤) (κ : Lft) (s : Bor (List ℕ)) (c : Cursor) where
  -- the frame is kept, and makes what the reader owns
  pub holds : Is K.the_row c (K'.lowered c ∷ []) → ent 𝓤 (sem 𝓛 (Frame κ (reader s c))) (sep 𝓤 (sem 𝓛 (Frame κ (reader s c))) (sem 𝓛 (Own κ (reader s c))))
  holds c-is =
      qed 𝓛 (‵ (Frame κ (reader s c)) ∷ []) ∵ use1 𝓛 (‵ (Frame κ (reader s c)) ⊛ ‵ (Frame κ (reader s c))) ((shr_slice_copy 𝓛 (named 0) κ u8 (uint_row_laws w8)).twice s (slice (reader s c) ∷ [])) $ split ! $ frame ! $
      nothing ! $ owned ! usize (Is usize) (uint_Makes 𝓛 w64) c.tail _ (refl, at_tail c c-is) $ fjoin ! $ owned ! usize (Is usize) (uint_Makes 𝓛 w64) c.head _ (refl, at_head c c-is) $ fjoin ! $ move ! (1 ∷ 0 ∷ []) $ fjoin ! $
      by ! (own_shut 𝓛 (D κ) (L κ) (s, (c.head, (c.tail, tt))))
