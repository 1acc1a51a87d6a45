-- Where the pairs of one frame are read, those of another with the same head bytes have the same symbols, or a tail bit is not there:
-- a tail bit leaves coder and head, and a symbol reads at the head alone. By the forms of codings. Assumes nothing.
use Prim.Native.Nat.{ℕ, zero, suc, ◌+◌, ◌*◌, ◌^◌, ◌≤◌}
use mathlib.Core.Path.{◌≡◌, refl, sym, subst, ◌∙◌}
use mathlib.Core.Bool.{Bool, true, false, cond, ◌&&◌}
use mathlib.Core.List.{List, [], ◌∷◌}
use native.Mathlib.Omega.{arith}
use lib.Dec.{ltb, eqb}
use lib.ListN.{length}
use lib.IntN.{pos, neg_ℤ}
use Rattle.common.specs.Reply.{Step, symbol, bit, Reply, fourteen_escapes, Answer, accepted, refused, and_then, within}
use Rattle.common.specs.Tables.{row_at}
use Rattle.common.proofs.Replies.{accepted-same, then-split, given-split}
use Rattle.buffer_reader.specs.Reads.{take_bit, bit_beyond}
use Rattle.buffer_reader.specs.Steps.{refusing, as_number}
use Rattle.buffer_reader.specs.declared.Cursor.{Cursor}
use Rattle.buffer_reader.proofs.Answers.{bit-refused, bit-taken}
use Rattle.buffer_reader.proofs.Roomy.{Ends, ends-refused, ends-accepted, ends-then}
use Rattle.range_decoder.specs.declared.DecoderState.{DecoderState}
use Rattle.contexts.specs.Contexts.{row_of, escape_symbol, first_part, second_part, lookup_start, next_context}
use Rattle.coding.specs.Coding.{Coded, Coding, done, onward, met, symbol_by, tail_bit_by}
use Rattle.spectral_data.specs.Spectral.{Pair, Levels, low_bits, behind_escape, read_levels, read_sign, read_pair, read_pairs}
use Rattle.spectral_data.specs.Private.{signs_by}
use Rattle.spectral_data.proofs.Heads.{AgreeHead, Alike, Forward, Still, Any, still-done, still-onward, still-bit, forward-still, forward-onward, forward-symbol}
use Rattle.spectral_data.proofs.Symbols.{first_in, second_in, SameLevels, SamePair, still-behind, symbol_at, levels_on, forward-on, forward-levels, forward-pair, forward-pairs}
use Rattle.frame_reader.specs.Depends.{symbols_of, ByTail, bit_missing}
use Rattle.frame_reader.proofs.Heads.{only-met}

-- ---- tail bits

-- a coding that leaves coder and head, and refuses by a tail bit that is not there alone
record Quiet {A : Type 0} (k : Coding A) : Type 0 where
  still : Still k
  ends : (s : DecoderState) (f : List ℕ) (c : Cursor) → length f ≤ 65535 → Ends ByTail (λ x. Unit {0}) (k s f c)

quiet-done : {A : Type 0} (a : A) → Quiet (done a)
quiet-done a = record { still = still-done a; ends = λ s f c l. tt }

quiet-onward : {A B : Type 0} (k : Coding A) (l : A → Coding B) → Quiet k → ((a : A) → Quiet (l a)) → Quiet (onward k l)
quiet-onward k l first rest =
    record {
      still = still-onward k l first.still (λ a. (rest a).still);
      ends = λ s f c short. ends-then ByTail (λ x. Unit {0}) (λ x. Unit {0}) (k s f c) _ (first.ends s f c short)
          (λ x e u. (rest x.0.value).ends x.0.state f x.1 short);
    }

quiet_if : {A : Type 0} (t : Bool) (k l : Coding A) → Quiet k → Quiet l → Quiet (cond t k l)
quiet_if true k l p q = p
quiet_if false k l p q = q

quiet-bit : (p level : ℕ) → Quiet (met (bit p level) tail_bit_by)
quiet-bit p level =
    record { still = still-bit (bit p level); ends = λ s f c l. by s f c l (bit_beyond (length f) c) refl }
  where
    At : DecoderState → List ℕ → Answer (Bool × Cursor) → Type 0
    At s f a = Ends ByTail (λ x. Unit {0}) (within (bit p level) (and_then (and_then a as_number) (λ r. done r.0 s f r.1)))

    by : (s : DecoderState) (f : List ℕ) (c : Cursor) → length f ≤ 65535 → (t : Bool) → bit_beyond (length f) c ≡ t → At s f (take_bit f c)
    by s f c l true e = subst (At s f) (sym (bit-refused f c l e)) (bit_missing p level c.tail)
    by s f c l false e = subst (At s f) (sym (bit-taken f c l e)) tt

quiet-low : (lsb : Bool) (p level : ℕ) → Quiet (low_bits lsb p level)
quiet-low lsb p level =
    quiet_if (lsb && eqb level 0) _ _ (quiet-done (0, 0))
    (quiet-onward (met (bit p level) tail_bit_by) _ (quiet-bit p level)
    (λ a. quiet-onward (met (bit p level) tail_bit_by) _ (quiet-bit p level) (λ b. quiet-done (a, b))))

quiet-sign : (p level magnitude : ℕ) → Quiet (read_sign p level magnitude)
quiet-sign p level magnitude =
    quiet_if (ltb 0 magnitude) _ _
    (quiet-onward (met (bit p level) tail_bit_by) _ (quiet-bit p level) (λ minus. quiet-done (cond (eqb minus 1) (neg_ℤ (pos magnitude)) (pos magnitude))))
    (quiet-done (pos 0))

-- ---- a coding that follows another

-- where one is accepted, the other answers alike on the same head bytes, or a tail bit is not there
pub record Follows {A B : Type 0} (R : A → B → Type 0) (k : Coding A) (l : Coding B) : Type 0 where
  pub follow : (s : DecoderState) (f g : List ℕ) (c d : Cursor) (x : Coded A × Cursor) → length f ≤ 65535 → length f ≡ length g → c.head ≡ d.head → k s f c ≡ accepted x → AgreeHead f g c.head x.1.head → Ends ByTail (Alike R x) (l s g d)

follows-done : {A B : Type 0} (R : A → B → Type 0) (a : A) (b : B) → R a b → Follows R (done a) (done b)
follows-done {A} R a b r =
    record {
      follow = λ s f g c d x short size h e agree.
          subst (λ (v : Coded A × Cursor). Alike R v (record { value = b; state = s }, d)) (accepted-same e) (record { state = refl; head = h; value = r });
    }

follows-quiet : {A B : Type 0} (k : Coding A) (l : Coding B) → Quiet k → Quiet l → Follows Any k l
follows-quiet {A} {B} k l p q =
    record { follow = λ s f g c d x short size h e agree. by s f g c d x (rw (← size) short) h e (l s g d) refl }
  where
    by : (s : DecoderState) (f g : List ℕ) (c d : Cursor) (x : Coded A × Cursor) → length g ≤ 65535 → c.head ≡ d.head → k s f c ≡ accepted x → (a : Answer (Coded B × Cursor)) → l s g d ≡ a → Ends ByTail (Alike Any x) a
    by s f g c d x short h e (accepted y) u =
        record {
          state = p.still.state s f c x e ∙ sym (q.still.state s g d y u);
          head = p.still.head s f c x e ∙ h ∙ sym (q.still.head s g d y u);
          value = tt;
        }
    by s f g c d x short h e (refused r) u = ends-refused ByTail (λ y. Unit {0}) (l s g d) (q.ends s g d short) u

follows-symbol : (step : Step) (row : List ℕ) → Follows (◌≡◌ {A = ℕ}) (met step (symbol_by row)) (met step (symbol_by row))
follows-symbol step row =
    record {
      follow = λ s f g c d x short size h e agree.
          ends-accepted ByTail (Alike (◌≡◌ {A = ℕ}) x) (met step (symbol_by row) s g d) (record { state = refl; head = refl; value = refl })
          ((only-met step row s).own f g c d x size h e agree);
    }

follows_if : {A B : Type 0} (R : A → B → Type 0) (t : Bool) (k m : Coding A) (l n : Coding B) → Follows R k l → Follows R m n → Follows R (cond t k m) (cond t l n)
follows_if R true k m l n p q = p
follows_if R false k m l n p q = q

-- where a refusal before one is not given, that before the other is not
follows-refusing : {A B : Type 0} (R : A → B → Type 0) (t : Bool) (r : Reply) (k : Coding A) (l : Coding B) → Follows R k l → Follows R (λ s. refusing t r (k s)) (λ s. refusing t r (l s))
follows-refusing R t r k l h =
    record {
      follow = λ s f g c d x short size same e agree.
          let p = given-split t r (k s f c) e in
          rw p.0 (h.follow s f g c d x short size same p.1 agree);
    }

module _ {A B C D : Type 0} (R : A → B → Type 0) (Q : C → D → Type 0) where
  follows-onward : (k : Coding A) (l : Coding B) (m : A → Coding C) (n : B → Coding D) → Follows R k l → Forward k → ((a : A) → Forward (m a)) → ((a : A) (b : B) → R a b → Follows Q (m a) (n b)) → Follows Q (onward k m) (onward l n)
  follows-onward k l m n first goes on rest =
      record {
        follow = λ s f g c d x short size h e agree.
            let p = then-split (k s f c) (λ r. m r.0.value r.0.state f r.1) e in
            let up = goes.on s f c p.0 p.1 in
            let behind = (on p.0.0.value).on p.0.0.state f p.0.1 x p.2 in
            ends-then ByTail (Alike Q x) (Alike R p.0) (l s g d) _
            (first.follow s f g c d p.0 short size h p.1 (λ j a b. agree j a (omega arith)))
            (λ y u mid. (rest p.0.0.value y.0.value mid.value).follow y.0.state f g p.0.1 y.1 x short size mid.head
            (rw (← mid.state) p.2) (λ j a b. agree j (omega arith) b));
      }

-- ---- the pairs

quiet-signs : (p : ℕ) (l : Levels) → Quiet (signs_by p l)
quiet-signs p l =
    quiet-onward (read_sign p l.escapes (first_in l)) _ (quiet-sign p l.escapes (first_in l))
    (λ first. quiet-onward (read_sign p l.escapes (second_in l)) _ (quiet-sign p l.escapes (second_in l))
    (λ second. quiet-done (record { escapes = l.escapes; last = l.last; first = first; second = second })))

-- the pairs of two frames by their symbols
abbrev pub Symbols : List Pair → List Pair → Type 0
Symbols xs ys = symbols_of xs ≡ symbols_of ys

more_same : (x y : Pair) (xs ys : List Pair) → SamePair x y → Symbols xs ys → Symbols (x ∷ xs) (y ∷ ys)
unfolding symbols_of
more_same x y xs ys h q = rw (h.escapes, h.last, q) refl

module _ (lookup frequencies : List ℕ) (standard lsb : Bool) where
  follows-levels : (p t left level a b u v : ℕ) → Follows SameLevels (read_levels lookup frequencies standard lsb p t left level a b) (read_levels lookup frequencies standard lsb p t left level u v)
  unfolding read_levels
  follows-levels p t zero level a b u v = follows-done SameLevels _ _ (record { escapes = refl; last = refl })
  follows-levels p t (suc left) level a b u v =
      follows-onward (◌≡◌ {A = ℕ}) SameLevels (symbol_at lookup frequencies standard lsb p t level) (symbol_at lookup frequencies standard lsb p t level) (levels_on lookup frequencies standard lsb p t left level a b) (levels_on lookup frequencies standard lsb p t left level u v)
      (follows-symbol (symbol p level) (row_at 17 (row_of lookup t level) frequencies)) (forward-symbol (symbol p level) (row_at 17 (row_of lookup t level) frequencies))
      (λ k. forward-on lookup frequencies standard lsb p t left level a b k (forward-levels lookup frequencies standard lsb p t left (level + 1)))
      (λ k m e. subst (λ (q : ℕ). Follows SameLevels (levels_on lookup frequencies standard lsb p t left level a b k) (levels_on lookup frequencies standard lsb p t left level u v q)) e
      (follows_if SameLevels (ltb k escape_symbol) _ _ _ _
      (follows-done SameLevels (record { escapes = level; last = k; low_first = a; low_second = b }) (record { escapes = level; last = k; low_first = u; low_second = v }) (record { escapes = refl; last = refl }))
      (follows-onward Any SameLevels (behind_escape standard lsb p level) (behind_escape standard lsb p level) _ _
      (follows-refusing Any (standard && eqb level 13) (fourteen_escapes p) (low_bits lsb p level) (low_bits lsb p level) (follows-quiet _ _ (quiet-low lsb p level) (quiet-low lsb p level)))
      (forward-still _ (still-behind standard lsb p level))
      (λ low. forward-levels lookup frequencies standard lsb p t left (level + 1) (a + low.0 * 2 ^ level) (b + low.1 * 2 ^ level))
      (λ low high h. follows-levels p t left (level + 1) (a + low.0 * 2 ^ level) (b + low.1 * 2 ^ level) (u + high.0 * 2 ^ level) (v + high.1 * 2 ^ level)))))

  -- whatever the signs are
  follows-signs : (p : ℕ) (l m : Levels) → SameLevels l m → Follows SamePair (signs_by p l) (signs_by p m)
  follows-signs p l m h =
      follows-onward Any SamePair (read_sign p l.escapes (first_in l)) (read_sign p m.escapes (first_in m)) _ _
      (follows-quiet _ _ (quiet-sign p l.escapes (first_in l)) (quiet-sign p m.escapes (first_in m))) (forward-still _ (quiet-sign p l.escapes (first_in l)).still)
      (λ first. forward-still _ (still-onward (read_sign p l.escapes (second_in l)) _ (quiet-sign p l.escapes (second_in l)).still (λ second. still-done _)))
      (λ first other o. follows-onward Any SamePair (read_sign p l.escapes (second_in l)) (read_sign p m.escapes (second_in m)) _ _
      (follows-quiet _ _ (quiet-sign p l.escapes (second_in l)) (quiet-sign p m.escapes (second_in m))) (forward-still _ (quiet-sign p l.escapes (second_in l)).still)
      (λ second. forward-still _ (still-done _))
      (λ second another o. follows-done SamePair _ _ (record { escapes = h.escapes; last = h.last })))

  follows-pair : (p t : ℕ) → Follows SamePair (read_pair lookup frequencies standard lsb p t) (read_pair lookup frequencies standard lsb p t)
  follows-pair p t =
      follows-onward SameLevels SamePair (read_levels lookup frequencies standard lsb p t 14 0 0 0) (read_levels lookup frequencies standard lsb p t 14 0 0 0) (signs_by p) (signs_by p)
      (follows-levels p t 14 0 0 0 0 0) (forward-levels lookup frequencies standard lsb p t 14 0 0 0) (λ l. forward-still _ (quiet-signs p l).still) (follows-signs p)

  module _ (rate ne : ℕ) where
    abbrev context_of : ℕ → Pair → ℕ
    context_of context x = next_context context (first_part x.last) (second_part x.last) x.escapes

    same-context : (context : ℕ) (x y : Pair) → SamePair x y → context_of context x ≡ context_of context y
    same-context context x y h = rw (h.last, h.escapes) refl

    pub follows-pairs : (p n context : ℕ) → Follows Symbols (read_pairs lookup frequencies standard lsb rate ne p n context) (read_pairs lookup frequencies standard lsb rate ne p n context)
    unfolding read_pairs symbols_of
    follows-pairs p zero context = follows-done Symbols [] [] refl
    follows-pairs p (suc n) context =
        follows-onward SamePair Symbols (read_pair lookup frequencies standard lsb p (lookup_start context rate ne (2 * p))) (read_pair lookup frequencies standard lsb p (lookup_start context rate ne (2 * p))) _ _
        (follows-pair p (lookup_start context rate ne (2 * p))) (forward-pair lookup frequencies standard lsb p (lookup_start context rate ne (2 * p)))
        (λ x. forward-onward (read_pairs lookup frequencies standard lsb rate ne (p + 1) n _) _ (forward-pairs lookup frequencies standard lsb rate ne (p + 1) n _)
        (λ rest. forward-still _ (still-done (x ∷ rest))))
        (λ x y h. follows-onward Symbols Symbols (read_pairs lookup frequencies standard lsb rate ne (p + 1) n (context_of context x)) (read_pairs lookup frequencies standard lsb rate ne (p + 1) n (context_of context y)) _ _
        (subst (λ (m : ℕ). Follows Symbols (read_pairs lookup frequencies standard lsb rate ne (p + 1) n (context_of context x)) (read_pairs lookup frequencies standard lsb rate ne (p + 1) n m)) (same-context context x y h) (follows-pairs (p + 1) n (context_of context x)))
        (forward-pairs lookup frequencies standard lsb rate ne (p + 1) n (context_of context x)) (λ rest. forward-still _ (still-done (x ∷ rest)))
        (λ rest other q. follows-done Symbols (x ∷ rest) (y ∷ other) (more_same x y rest other h q)))
