-- What a walk by hand over a lent reader stands on: the struct's type, what it owns with its cursors at any place, and what is known of a callee's
-- result. The frame is a `&`, so what it owns is had twice, and the cursors own facts alone. Assumes nothing.
use mathlib.Core.Path.{◌≡◌, refl}
use Prim.Native.Nat.{ℕ, ◌<◌, ◌^◌}
use mathlib.Core.List.{List, [], ◌∷◌}
use lib.ListN.{length}
use seplogic.Ra.Ura.{Ura}
use mir.Syntax.{named, w64}
use mir.Val.{Val}
use base.Logic.{ent, sep}
use base.Fml.{Lft, Fml}
use types.Logic.{Logic, sem}
use types.Kit.{‵, given, ◌⊛◌, ◌$◌, ◌∵◌, !, qed, by, move, drop, use1, use2, split, learn, frame, done}
use denote.RattleType.{RattleType}
use denote.Laws.{Is}
use denote.Plain.{uint_Makes}
use denote.Builtin.{u8, u32, usize}
use denote.Ref.{NamedLft}
use denote.Signature.{Slot, plain, named_lft}
use denote.Slice.{slice_val, ShrSlice}
use denote.Steps.{owned}
use denote.Enum.Laws as EL
use denote.Struct.Declared.{Declared}
use denote.Struct.Laws as LL
use denote.Struct.Laws.{u32-laws, u32-copy}
use denote.Struct.Field.{u32-field}
use denote.Struct.Tuple.{Tuple, AllLaws, AllTold, tuple_type, parts_laws, tuple_laws, tuple_told}
use denote.Param.Shared.{copy_shared}
use denote.Param.Laws.{of_field, field_told, struct_told, enum_told, Laws as ParamLaws}
use denote.Struct.Rest.{all_own, field_own, rest, own_open, own_out, own_put}
use denote.Struct.Values.{Values}
use Rattle.std.specs.declared.result.Result.{Result}
use Rattle.std.specs.declared.result.Result.TheVariants.{Ok, Err}
use Rattle.std.specs.contracts.result.Result as S
use Rattle.std.proofs.result.Result.TheLaws as S'
use Rattle.common.specs.Reply.{answer_by}
use Rattle.buffer_reader.specs.Reads.{reply_of}
use Rattle.buffer_reader.specs.Reader.{moved_to}
use Rattle.buffer_reader.specs.declared.Cursor.{Cursor}
use Rattle.buffer_reader.specs.contracts.Cursor as K
use Rattle.buffer_reader.proofs.Cursor.TheLaws as K'
use Rattle.buffer_reader.specs.declared.BufferError.{BufferError}
use Rattle.buffer_reader.specs.contracts.BufferError as B
use Rattle.buffer_reader.proofs.BufferError.TheLaws as B'
use Rattle.buffer_reader.specs.declared.reader.Reader.{Reader}
use Rattle.buffer_reader.specs.contracts.reader.Reader as T
use Rattle.buffer_reader.proofs.reader.Reader.TheLaws as T'

-- `Reader<'a>`, as the referent's place in a signature
abbrev pub referent : Slot 2
referent = plain (λ κs. T.the_row (named_lft 2 1 tt κs))

-- its lifetime, and its type and laws there
abbrev pub α : Lft → NamedLft
α κ = record { mir = named 1; lft = κ }

abbrev pub R : Lft → RattleType
R κ = T.the_row (α κ)

abbrev pub D : Lft → Declared
D κ = T.the_type (α κ)

abbrev pub L : (κ : Lft) → LL.Laws (D κ)
L κ = T'.the_laws (α κ)

-- the reader with other cursors
abbrev pub to : Reader → ℕ → ℕ → Reader
to h head tail = record { frame = h.frame; head = head; tail = tail }

-- its fields' values, and what it owns
abbrev fields : (κ : Lft) → Reader → Values (D κ).parts
fields κ h = (h.frame, (h.head, (h.tail, tt)))

abbrev pub Own : Lft → Reader → Fml
Own κ h = (R κ).own_val h (T'.lowered h ∷ [])

-- the frame's machine value, and what it owns for a callee
abbrev pub slice : Reader → Val
slice h = slice_val h.frame.ref_ptr (length h.frame.now)

abbrev pub Frame : Lft → Reader → Fml
Frame κ h = (ShrSlice (named 0) κ u8).own_val h.frame (slice h ∷ [])

-- the type of what a read gave, and its laws
abbrev pub Taken : RattleType
Taken = S.the_row u32 B.the_row

abbrev pub number_laws : ParamLaws u32
number_laws = of_field u32-field u32-laws refl (copy_shared u32-field u32-copy)

abbrev pub taken_laws : EL.Laws (S.the_type u32 B.the_row)
taken_laws = S'.the_laws u32 B.the_row number_laws B'.the_row_laws (field_told u32-field u32-laws) (enum_told B.the_type B'.the_laws)

-- the type of what the cursor's own read gives, and its laws: the value with the cursor behind it, or the refusal
abbrev parts : List RattleType
parts = u32 ∷ K.the_row ∷ []

abbrev part_laws : AllLaws parts
part_laws = (number_laws, (K'.the_row_laws, tt))

abbrev part_told : AllTold parts
part_told = (field_told u32-field u32-laws, (struct_told K.the_type K'.the_laws, tt))

abbrev pub Read : RattleType
Read = S.the_row (Tuple parts) B.the_row

abbrev read_laws : EL.Laws (S.the_type (Tuple parts) B.the_row)
read_laws = S'.the_laws (Tuple parts) B.the_row (tuple_laws parts part_laws) B'.the_row_laws (tuple_told parts part_laws part_told) (enum_told B.the_type B'.the_laws)

-- what is taken of it
abbrev pub taken : Result (ℕ × Cursor) BufferError → Result ℕ BufferError
taken (Ok r) = Ok r.0
taken (Err e) = Err e

-- what it tells of a value and the cursor behind it
read_is : (r : ℕ × Cursor) (u : Val) → Is Read (Ok r) (u ∷ []) → Is u32 r.0 ((field_told u32-field u32-laws).val r.0 ∷ []) × Is K.the_row r.1 (LL.vals K.the_type K'.the_laws r.1)
read_is r u is =
    let both = LL.owed (tuple_type parts) (parts_laws parts part_laws part_told) r _ (EL.owed (S.the_type (Tuple parts) B.the_row) read_laws (Ok r) _ is).0 in
    (both.0, both.1.0)

-- so of where the reader stands behind it, and of what the read gave
pub head-fits : (r : Result (ℕ × Cursor) BufferError) (u : Val) → Is Read r (u ∷ []) → (c : Cursor) → c.head < 2 ^ 64 → (moved_to c (answer_by reply_of r)).head < 2 ^ 64
head-fits (Ok r) u is c fits = (LL.owed K.the_type K'.the_laws r.1 _ (read_is r u is).1).0.1
head-fits (Err e) u is c fits = fits

pub tail-fits : (r : Result (ℕ × Cursor) BufferError) (u : Val) → Is Read r (u ∷ []) → (c : Cursor) → c.tail < 2 ^ 64 → (moved_to c (answer_by reply_of r)).tail < 2 ^ 64
tail-fits (Ok r) u is c fits = (LL.owed K.the_type K'.the_laws r.1 _ (read_is r u is).1).1.0.1
tail-fits (Err e) u is c fits = fits

pub taken_is : (r : Result (ℕ × Cursor) BufferError) (u : Val) → Is Read r (u ∷ []) → Is Taken (taken r) (EL.vals (S.the_type u32 B.the_row) taken_laws (taken r))
taken_is (Ok r) u is = EL.owes (S.the_type u32 B.the_row) taken_laws (Ok r.0) ((read_is r u is).0, tt)
taken_is (Err e) u is = EL.owes (S.the_type u32 B.the_row) taken_laws (Err e) (EL.owed (S.the_type (Tuple parts) B.the_row) read_laws (Err e) _ is)

module _ {M : Type 1} {𝓤 : Ura M} (𝓛 : Logic 𝓤) (κ : Lft) (h : Reader) where
  -- the frame for a callee, beside all that the reader owns
  pub lends : ent 𝓤 (sem 𝓛 (Own κ h)) (sep 𝓤 (sem 𝓛 (Frame κ h)) (sem 𝓛 (Own κ h)))
  lends =
      qed 𝓛 (‵ (Own κ h) ∷ []) ∵ use1 𝓛 (‵ (Own κ h) ⊛ ‵ (Own κ h)) ((LL.copy (D κ) (T'.the_copy (α κ)) 𝓛).twice h (T'.lowered h ∷ [])) $ split ! $
      use1 𝓛 (given (T'.lowered h ∷ [] ≡ T'.lowered h ∷ []) (‵ (all_own (D κ).parts (L κ) (fields κ h)))) (own_open 𝓛 (D κ) (L κ) (fields κ h) (T'.lowered h)) $ learn ! (λ _.
      use1 𝓛 (‵ (field_own (D κ).parts (L κ) 0 h.frame) ⊛ ‵ (rest (D κ).parts (L κ) 0 (fields κ h))) (own_out 𝓛 (D κ).parts (L κ) 0 (fields κ h)) $ split ! $ move ! (1 ∷ []) $ drop ! $ frame ! $ done !)

  -- the frame is kept, and the cursors' facts are made anew
  pub again : (head tail : ℕ) → head < 2 ^ 64 → tail < 2 ^ 64 → ent 𝓤 (sem 𝓛 (Own κ h)) (sem 𝓛 (Own κ (to h head tail)))
  again head tail head-low tail-low =
      qed 𝓛 (‵ (Own κ h) ∷ []) ∵ owned ! usize (Is usize) (uint_Makes 𝓛 w64) head _ (refl, head-low) $ move ! (1 ∷ 0 ∷ []) $
      use2 𝓛 (‵ (Own κ (to h head h.tail))) (own_put 𝓛 (D κ) (L κ) 1 (fields κ h) head (T'.lowered h)) $ owned ! usize (Is usize) (uint_Makes 𝓛 w64) tail _ (refl, tail-low) $ move ! (1 ∷ 0 ∷ []) $
      by ! (own_put 𝓛 (D κ) (L κ) 2 (fields κ (to h head h.tail)) tail (T'.lowered (to h head h.tail)))
