-- A local that is lent by `&mut` for one call: its cell and what it owns are a loan, and once the loan's lifetime is over they are back, at the
-- last value that the call told. Assumes nothing.
use mathlib.Core.List.{List, [], ◌∷◌}
use Prim.Native.Nat.{ℕ}
use seplogic.Ra.Ura.{Ura}
use base.Fraction.{full_share}
use base.Share
use mir.Syntax.{named}
use mir.Val.{Val, vptr}
use base.Logic.{ent, sep, ex}
use base.Fml.{GName, Lft, Share, fsep, flft, fdead, flent, fres}
use types.Logic.{Logic, sem}
use types.Kit.{‵, raw, later, ◌⊛◌, ◌$◌, ◌∵◌, !, qed, by, move, use1, use2, use3, split, fsplit, fjoin, fpick, fpack, await, updating, now as at_once, show, done}
use types.SemTy.{Body}
use denote.RattleType.{RattleType}
use denote.Memory.{cell_at, mem, part_of}
use denote.Ref.{MutRef}
use denote.Lend.{lends_ref, ref_back}
use borrow.Within.Token.{Rest, within_token, within_end}

module _ {M : Type 1} {𝓤 : Ura M} (𝓛 : Logic 𝓤) (R : RattleType) (κ : Lft) (h : R.Denot) (l : ℕ) where
  open 𝓛 use {H, A}

  pub local-lent : (v : Val) → ent 𝓤 (sep 𝓤 (sem 𝓛 (cell_at full_share R.mir (v ∷ []) l 0)) (sem 𝓛 (R.own_val h (v ∷ []))))
      (H.⇛ (ex 𝓤 (λ (δ : GName). sep 𝓤 (sem 𝓛 ((MutRef (named 0) κ R).own_val (record { ref_ptr = (l, 0); ghost_name = δ; now = h }) (vptr l 0 ∷ []))) (A.lent κ (Body (mem R) l 0 δ)))))
  unfolding part_of
  local-lent v =
      qed 𝓛 (‵ (cell_at full_share R.mir (v ∷ []) l 0) ∷ ‵ (R.own_val h (v ∷ [])) ∷ []) ∵ fjoin ! $ fpack ! (List Val) (λ us. fsep (cell_at full_share R.mir us l 0) (R.own_val h us)) (v ∷ []) $ by ! (lends_ref 𝓛 R (named 0) κ h l 0)

  pub local_back : (δ : GName) → ent 𝓤 (sep 𝓤 (A.dead κ) (sep 𝓤 (A.lent κ (Body (mem R) l 0 δ)) (A.res δ (R.coded.code h))))
      (H.⇛ (ex 𝓤 (λ (vs : List Val). sep 𝓤 (sem 𝓛 (cell_at full_share R.mir vs l 0)) (sem 𝓛 (R.own_val h vs)))))
  unfolding part_of
  local_back δ =
      qed 𝓛 (‵ (fdead κ) ∷ ‵ (flent κ (Body (mem R) l 0 δ)) ∷ ‵ (fres δ (R.coded.code h)) ∷ []) ∵ updating ! $ use3 𝓛 (later (‵ ((mem R).own_at h l 0))) (ref_back 𝓛 R κ δ h l 0) $ await ! tt $
      fpick ! (λ vs. fsplit ! $ at_once ! $ show ! (λ (us : List Val). sep 𝓤 (sem 𝓛 (cell_at full_share R.mir us l 0)) (sem 𝓛 (R.own_val h us))) vs $ done !)

-- A loan inside another lifetime: its token is made of half of that one's, so that both can be shown, and what is left is kept for the end.
module _ {M : Type 1} {𝓤 : Ura M} (𝓛 : Logic 𝓤) (ν : ℕ) (κ : Lft) (q : Share) where
  open 𝓛 use {H, A}

  pub inner-begun : ent 𝓤 (sep 𝓤 (A.lft (ν ∷ []) full_share) (A.lft κ q)) (sep 𝓤 (A.lft (ν ∷ κ) (Share.right q)) (sep 𝓤 (A.lft κ (Share.left q)) (Rest 𝓛 ν (Share.right q))))
  inner-begun =
      qed 𝓛 (‵ (flft (ν ∷ []) full_share) ∷ ‵ (flft κ q) ∷ []) ∵ move ! (1 ∷ []) $ use1 𝓛 (‵ (flft κ (Share.left q)) ⊛ ‵ (flft κ (Share.right q))) (𝓛.lfts.lft_split κ q) $ split ! $ move ! (2 ∷ 1 ∷ []) $
      use2 𝓛 (‵ (flft (ν ∷ κ) (Share.right q)) ⊛ raw (Rest 𝓛 ν (Share.right q))) (within_token 𝓛 ν κ (Share.right q)) $ split ! $ move ! (0 ∷ 2 ∷ 1 ∷ []) $ done !

  pub inner_ended : ent 𝓤 (sep 𝓤 (A.lft (ν ∷ κ) (Share.right q)) (sep 𝓤 (A.lft κ (Share.left q)) (Rest 𝓛 ν (Share.right q)))) (H.⇛ (sep 𝓤 (A.dead (ν ∷ κ)) (A.lft κ q)))
  inner_ended =
      qed 𝓛 (‵ (flft (ν ∷ κ) (Share.right q)) ∷ ‵ (flft κ (Share.left q)) ∷ raw (Rest 𝓛 ν (Share.right q)) ∷ []) ∵ updating ! $ move ! (0 ∷ 2 ∷ []) $
      use2 𝓛 (later (‵ (fdead (ν ∷ κ)) ⊛ ‵ (flft κ (Share.right q)))) (within_end 𝓛 ν κ (Share.right q)) $ await ! tt $ split ! $ move ! (2 ∷ 1 ∷ []) $
      use2 𝓛 (‵ (flft κ q)) (𝓛.lfts.lft_join κ q) $ at_once ! $ move ! (1 ∷ 0 ∷ []) $ done !
