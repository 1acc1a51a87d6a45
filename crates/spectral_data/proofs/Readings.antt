-- The two readings of the pairs: symbol by symbol they are one, up to a fourteenth escape, which the standard reading refuses and behind
-- which the crate's pair has fourteen. So they answer alike, or the standard one by 19. Assumes nothing.
use Prim.Native.Nat.{ℕ, zero, suc, ◌+◌, ◌*◌, ◌^◌}
use mathlib.Core.Path.{◌≡◌, refl, sym, ap, subst, ◌∙◌}
use mathlib.Core.Bool.{Bool, true, false, cond}
use mathlib.Core.List.{List, ◌∷◌}
use native.Mathlib.Omega.{arith}
use borrow.Author.Tests.{eqb-true}
use lib.Dec.{ltb, eqb}
use lib.ListN.{get_or}
use Rattle.common.specs.Reply.{Answer, accepted, refused, and_then, given, fourteen_escapes}
use Rattle.common.proofs.Replies.{accepted-same, then-split}
use Rattle.buffer_reader.specs.declared.Cursor.{Cursor}
use Rattle.contexts.specs.Contexts.{escape_symbol, first_part, second_part, lookup_start, next_context}
use Rattle.range_decoder.specs.declared.DecoderState.{DecoderState}
use Rattle.coding.specs.Coding.{Coded, done, onward}
use Rattle.spectral_data.specs.Spectral.{Pair, Levels, low_bits, behind_escape, read_levels, read_pair, read_pairs, levels_of}
use Rattle.spectral_data.specs.Private.{signs_by}
use Rattle.spectral_data.proofs.Symbols.{symbol_at}
use Rattle.spectral_data.proofs.Retrace.{signs-keep}

-- the crate's answer and the standard's: one, or the standard's is 19 with pair p, and of p Q holds in what the crate's comes to
pub data Parted {A : Type 0} (Q : ℕ → A → Type 0) (x y : Answer (A × Cursor)) : Type 0 where
  same : x ≡ y → Parted Q x y
  damaged : (p : ℕ) → y ≡ refused (fourteen_escapes p) → ((r : A × Cursor) → x ≡ accepted r → Q p r.0) → Parted Q x y

-- what follows both, where it keeps what Q says
pub parted-then : {A B : Type 0} (Q : ℕ → A → Type 0) (R : ℕ → B → Type 0) (x y : Answer (A × Cursor)) (on : A × Cursor → Answer (B × Cursor)) →
    ((p : ℕ) (a : A × Cursor) (b : B × Cursor) → Q p a.0 → on a ≡ accepted b → R p b.0) → Parted Q x y → Parted R (and_then x on) (and_then y on)
parted-then Q R x y on keeps (same e) = same (ap (λ a. and_then a on) e)
parted-then Q R x y on keeps (damaged p e h) =
    damaged p (ap (λ a. and_then a on) e) (λ r u. let v = then-split x on u in keeps p v.0 r (h v.0 v.1) v.2)

-- what parts behind the same
pub then-parted : {A B : Type 0} (R : ℕ → B → Type 0) (x : Answer A) (go on : A → Answer (B × Cursor)) → ((a : A) → Parted R (go a) (on a)) → Parted R (and_then x go) (and_then x on)
then-parted R (accepted a) go on h = h a
then-parted R (refused r) go on h = same refl

-- levels of pair p with all fourteen escapes, and the pair; of the pairs from p on, pair q with them
abbrev AllFourteen : ℕ → ℕ → Coded Levels → Type 0
AllFourteen p q l = (q ≡ p) × (l.value.escapes ≡ 14)

abbrev PairFourteen : ℕ → ℕ → Coded Pair → Type 0
PairFourteen p q x = (q ≡ p) × (x.value.escapes ≡ 14)

abbrev pub OneFourteen : ℕ → ℕ → Coded (List Pair) → Type 0
OneFourteen p q xs = (i : ℕ) × (q ≡ p + i) × (get_or (levels_of xs.value) i 0 ≡ 14)

module _ (lookup frequencies : List ℕ) (lsb : Bool) where
  module _ (p t : ℕ) where
    -- behind the fourteenth the crate reads no symbol
    no_more : (left level a b : ℕ) (s : DecoderState) (f : List ℕ) (c : Cursor) (r : Coded Levels × Cursor) → left ≡ 0 → level ≡ 14 →
        read_levels lookup frequencies false lsb p t left level a b s f c ≡ accepted r → r.0.value.escapes ≡ 14
    unfolding read_levels
    no_more zero level a b s f c r none is e = sym (ap (λ (q : Coded Levels × Cursor). q.0.value.escapes) (accepted-same e)) ∙ is
    no_more (suc left) level a b s f c r none is e = absurd (omega (arith, none))

    -- what follows an escape, by whether it is the fourteenth
    behind-parted : (left level a b : ℕ) (s : DecoderState) (f : List ℕ) (c : Cursor) (test : Bool) → (test ≡ true → (left ≡ 0) × (level ≡ 13)) →
        ((low : Coded (ℕ × ℕ) × Cursor) → Parted (AllFourteen p)
        (read_levels lookup frequencies false lsb p t left (level + 1) (a + low.0.value.0 * 2 ^ level) (b + low.0.value.1 * 2 ^ level) low.0.state f low.1)
        (read_levels lookup frequencies true lsb p t left (level + 1) (a + low.0.value.0 * 2 ^ level) (b + low.0.value.1 * 2 ^ level) low.0.state f low.1)) →
        Parted (AllFourteen p)
        (and_then (low_bits lsb p level s f c) (λ low. read_levels lookup frequencies false lsb p t left (level + 1) (a + low.0.value.0 * 2 ^ level) (b + low.0.value.1 * 2 ^ level) low.0.state f low.1))
        (and_then (given test (fourteen_escapes p) (low_bits lsb p level s f c)) (λ low. read_levels lookup frequencies true lsb p t left (level + 1) (a + low.0.value.0 * 2 ^ level) (b + low.0.value.1 * 2 ^ level) low.0.state f low.1))
    behind-parted left level a b s f c true last rest =
        damaged p refl
        (λ r e. let v = then-split (low_bits lsb p level s f c) _ e in
        (refl, no_more left (level + 1) _ _ v.0.0.state f v.0.1 r (last refl).0 (omega (arith, (last refl).1)) v.2))
    behind-parted left level a b s f c false last rest = then-parted (AllFourteen p) (low_bits lsb p level s f c) _ _ rest

    -- what follows a symbol
    on-parted : (left level a b : ℕ) (f : List ℕ) → level + suc left ≡ 14 →
        ((u v : ℕ) (s : DecoderState) (c : Cursor) → Parted (AllFourteen p) (read_levels lookup frequencies false lsb p t left (level + 1) u v s f c) (read_levels lookup frequencies true lsb p t left (level + 1) u v s f c)) →
        (k : ℕ) (s : DecoderState) (c : Cursor) (small : Bool) → Parted (AllFourteen p)
        (cond small (done (record { escapes = level; last = k; low_first = a; low_second = b })) (onward (behind_escape false lsb p level) (λ low. read_levels lookup frequencies false lsb p t left (level + 1) (a + low.0 * 2 ^ level) (b + low.1 * 2 ^ level))) s f c)
        (cond small (done (record { escapes = level; last = k; low_first = a; low_second = b })) (onward (behind_escape true lsb p level) (λ low. read_levels lookup frequencies true lsb p t left (level + 1) (a + low.0 * 2 ^ level) (b + low.1 * 2 ^ level))) s f c)
    on-parted left level a b f all rest k s c true = same refl
    on-parted left level a b f all rest k s c false =
        behind-parted left level a b s f c (eqb level 13) (λ e. (omega (arith, eqb-true level 13 e), eqb-true level 13 e)) (λ low. rest _ _ low.0.state low.1)

    levels-parted : (left level a b : ℕ) (s : DecoderState) (f : List ℕ) (c : Cursor) → level + left ≡ 14 →
        Parted (AllFourteen p) (read_levels lookup frequencies false lsb p t left level a b s f c) (read_levels lookup frequencies true lsb p t left level a b s f c)
    unfolding read_levels
    levels-parted zero level a b s f c all = same refl
    levels-parted (suc left) level a b s f c all =
        then-parted (AllFourteen p) (symbol_at lookup frequencies false lsb p t level s f c) _ _
        (λ q. on-parted left level a b f all (λ u v z d. levels-parted left (level + 1) u v z f d (omega arith)) q.0.value q.0.state q.1 (ltb q.0.value escape_symbol))

    pair-parted : (s : DecoderState) (f : List ℕ) (c : Cursor) → Parted (PairFourteen p) (read_pair lookup frequencies false lsb p t s f c) (read_pair lookup frequencies true lsb p t s f c)
    pair-parted s f c =
        parted-then (AllFourteen p) (PairFourteen p) (read_levels lookup frequencies false lsb p t 14 0 0 0 s f c) (read_levels lookup frequencies true lsb p t 14 0 0 0 s f c)
        (λ l. signs_by p l.0.value l.0.state f l.1)
        (λ q l x h e. (h.0, (signs-keep p l.0.value l.0.state f l.1 x e).0 ∙ h.1))
        (levels-parted 14 0 0 0 s f c refl)

  module _ (rate ne : ℕ) where
    module _ (p n context : ℕ) (f : List ℕ) where
      -- what is read behind a pair, alone and with it
      abbrev rest_of : Bool → Coded Pair × Cursor → Answer (Coded (List Pair) × Cursor)
      rest_of standard x =
          read_pairs lookup frequencies standard lsb rate ne (p + 1) n (next_context context (first_part x.0.value.last) (second_part x.0.value.last) x.0.value.escapes) x.0.state f x.1

      abbrev with_pair : Coded Pair × Cursor → Coded (List Pair) × Cursor → Answer (Coded (List Pair) × Cursor)
      with_pair x rest = done (x.0.value ∷ rest.0.value) rest.0.state f rest.1

      abbrev behind_pair : Bool → Coded Pair × Cursor → Answer (Coded (List Pair) × Cursor)
      behind_pair standard x = and_then (rest_of standard x) (with_pair x)

      rest-parted : (x : Coded Pair × Cursor) → Parted (OneFourteen (p + 1)) (rest_of false x) (rest_of true x) → Parted (OneFourteen p) (behind_pair false x) (behind_pair true x)
      unfolding levels_of
      rest-parted x rest =
          parted-then (OneFourteen (p + 1)) (OneFourteen p) (rest_of false x) (rest_of true x) (with_pair x)
          (λ q xs ys h e. (suc h.0, omega (arith, h.1), ap (λ (y : Coded (List Pair) × Cursor). get_or (levels_of y.0.value) (suc h.0) 0) (sym (accepted-same e)) ∙ h.2))
          rest

      module _ (t : ℕ) (s : DecoderState) (c : Cursor) where
        first-parted : Parted (PairFourteen p) (read_pair lookup frequencies false lsb p t s f c) (read_pair lookup frequencies true lsb p t s f c) →
            ((x : Coded Pair × Cursor) → Parted (OneFourteen p) (behind_pair false x) (behind_pair true x)) →
            Parted (OneFourteen p) (and_then (read_pair lookup frequencies false lsb p t s f c) (behind_pair false)) (and_then (read_pair lookup frequencies true lsb p t s f c) (behind_pair true))
        unfolding levels_of
        first-parted (same e) rest =
            subst (λ a. Parted (OneFourteen p) (and_then (read_pair lookup frequencies false lsb p t s f c) (behind_pair false)) (and_then a (behind_pair true))) e
            (then-parted (OneFourteen p) (read_pair lookup frequencies false lsb p t s f c) (behind_pair false) (behind_pair true) rest)
        first-parted (damaged q e h) rest =
            damaged q (ap (λ a. and_then a (behind_pair true)) e)
            (λ r u.
            let v = then-split (read_pair lookup frequencies false lsb p t s f c) (behind_pair false) u in
            let w = then-split (rest_of false v.0) (with_pair v.0) v.2 in
            let is = h v.0 v.1 in
            (0, omega (arith, is.0), ap (λ (y : Coded (List Pair) × Cursor). get_or (levels_of y.0.value) 0 0) (sym (accepted-same w.2)) ∙ is.1))

    pub pairs-parted : (p n context : ℕ) (s : DecoderState) (f : List ℕ) (c : Cursor) →
        Parted (OneFourteen p) (read_pairs lookup frequencies false lsb rate ne p n context s f c) (read_pairs lookup frequencies true lsb rate ne p n context s f c)
    unfolding read_pairs
    pairs-parted p zero context s f c = same refl
    pairs-parted p (suc n) context s f c =
        let t = lookup_start context rate ne (2 * p) in
        first-parted p n context f t s c (pair-parted p t s f c)
        (λ x. rest-parted p n context f x (pairs-parted (p + 1) n _ x.0.state f x.1))
