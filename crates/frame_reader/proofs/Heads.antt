-- What reads at the head alone, the coder's start, a symbol and the TNS data, answers alike in two frames of one length that agree on
-- the bytes it takes, wherever their tails stand: proved once for each form that readings are made of. Assumes nothing.
use Prim.Native.Nat.{ℕ, zero, suc, ◌+◌, ◌*◌, ◌≤◌}
use mathlib.Core.Path.{◌≡◌, refl, ap, subst}
use mathlib.Core.Bool.{Bool, true, false, cond}
use mathlib.Core.List.{List, ◌∷◌}
use native.Mathlib.Omega.{arith}
use lib.Dec.{leb, ltb, eqb}
use lib.ListN.{length, get_or}
use Rattle.common.specs.Reply.{Step, start, order, coef, Reply, accepted, within, wrong_length, head_past_end, low_beyond_limit}
use Rattle.common.specs.Tables.{row_at}
use Rattle.common.proofs.Replies.{accepted-same, then-split, given-split, within-split}
use Rattle.buffer_reader.specs.Reads.{take_byte, take_three, three_at}
use Rattle.buffer_reader.specs.Steps.{Reading, found, next, refusing}
use Rattle.buffer_reader.specs.declared.Cursor.{Cursor}
use Rattle.range_decoder.specs.Decoder.{unit_of, owner, narrowed, append_byte, renormalised, symbol_step, start_decoder}
use Rattle.range_decoder.specs.declared.DecoderState.{DecoderState}
use Rattle.coding.specs.Coding.{Coding, done, onward, met, symbol_by}
use Rattle.tns_data.specs.Tns.{no_filter, read_indices, read_filter, read_tns}
use Rattle.spectral_data.proofs.Heads.{AgreeHead}
use Rattle.frame_reader.specs.Frame.{start_in}

-- ---- readings at the head alone

-- a head, with the tail of another cursor
abbrev pub at : Cursor → Cursor → Cursor
at head tail = record { head = head.head; tail = tail.tail }

pub record HeadOnly {A : Type 0} (s : Reading A) : Type 0 where
  pub forward : (f : List ℕ) (c : Cursor) (x : A × Cursor) → s f c ≡ accepted x → c.head ≤ x.1.head
  pub own : (f g : List ℕ) (c d : Cursor) (x : A × Cursor) → length f ≡ length g → c.head ≡ d.head → s f c ≡ accepted x → AgreeHead f g c.head x.1.head → s g d ≡ accepted (x.0, at x.1 d)

only-found : {A : Type 0} (a : A) → HeadOnly (found a)
only-found {A} a =
    record {
      forward = λ f c x e. let p = ap (λ (r : A × Cursor). r.1.head) (accepted-same e) in omega arith;
      own = λ f g c d x l h e agree. subst (λ (r : A × Cursor). found a g d ≡ accepted (r.0, at r.1 d)) (accepted-same e) (rw h refl);
    }

only_next : {A B : Type 0} (s : Reading A) (k : A → Reading B) → HeadOnly s → ((x : A) → HeadOnly (k x)) → HeadOnly (next s k)
only_next s k os ok =
    record {
      forward = λ f c y e. let p = then-split (s f c) (λ r. k r.0 f r.1) e in
          let a = os.forward f c p.0 p.1 in
          let b = (ok p.0.0).forward f p.0.1 y p.2 in
          omega arith;
      own = λ f g c d y l h e agree. let p = then-split (s f c) (λ r. k r.0 f r.1) e in
          let a = os.forward f c p.0 p.1 in
          let b = (ok p.0.0).forward f p.0.1 y p.2 in
          rw (os.own f g c d p.0 l h p.1 (λ i m n. agree i m (omega arith)))
          ((ok p.0.0).own f g p.0.1 (at p.0.1 d) y l refl p.2 (λ i m n. agree i (omega arith) n));
    }

only-refusing : {A : Type 0} (t : Bool) (r : Reply) (s : Reading A) → HeadOnly s → HeadOnly (refusing t r s)
only-refusing t r s os =
    record {
      forward = λ f c x e. os.forward f c x (given-split t r (s f c) e).1;
      own = λ f g c d x l h e agree. let p = given-split t r (s f c) e in rw p.0 (os.own f g c d x l h p.1 agree);
    }

only_if : {A : Type 0} (t : Bool) (s u : Reading A) → HeadOnly s → HeadOnly u → HeadOnly (cond t s u)
only_if true s u os ou = os
only_if false s u os ou = ou

only-within : {A : Type 0} (step : Step) (s : Reading A) → HeadOnly s → HeadOnly (λ f c. within step (s f c))
only-within step s os =
    record {
      forward = λ f c x e. os.forward f c x (within-split step (s f c) e);
      own = λ f g c d x l h e agree. ap (within step) (os.own f g c d x l h (within-split step (s f c) e) agree);
    }

only-byte : HeadOnly take_byte
only-byte =
    record {
      forward = λ f c x e. let p = byte f c x e in omega (arith, ap (λ (r : ℕ × Cursor). r.1.head) p.2);
      own = λ f g c d x l h e agree. let p = byte f c x e in
          let up : c.head + 1 ≡ x.1.head = ap (λ (r : ℕ × Cursor). r.1.head) p.2 in
          let there : get_or f c.head 0 ≡ get_or g c.head 0 = agree c.head (omega arith) (omega arith) in
          rw (← l, ← h, p.0, p.1, ← there) (ap (λ (r : ℕ × Cursor). accepted (r.0, at r.1 d)) p.2);
    }
  where
    byte : (f : List ℕ) (c : Cursor) (x : ℕ × Cursor) → take_byte f c ≡ accepted x →
        (ltb 65535 (length f) ≡ false) × (leb (length f) c.head ≡ false) × (◌≡◌ {A = ℕ × Cursor} (get_or f c.head 0, record { head = c.head + 1; tail = c.tail }) x)
    byte f c x e =
        let a = given-split (ltb 65535 (length f)) (wrong_length (length f)) _ e in
        let b = given-split (leb (length f) c.head) (head_past_end c.head) _ a.1 in
        (a.0, b.0, accepted-same b.1)

only-append : (s : DecoderState) → HeadOnly (append_byte s)
only-append s = only_if (ltb s.range 0x10000) _ (found s) (only_next take_byte _ only-byte (λ byte. only-found _)) (only-found s)

only-renormalised : (s : DecoderState) → HeadOnly (renormalised s)
only-renormalised s = only_next (append_byte s) append_byte (only-append s) only-append

only-symbol : (row : List ℕ) (s : DecoderState) → HeadOnly (symbol_by row s)
only-symbol row s =
    let part : DecoderState = narrowed (unit_of s.range) s.low row (owner (unit_of s.range) s.low row) in
    only_next (symbol_step s row) _
    (only-refusing (leb (1024 * unit_of s.range) s.low) (low_beyond_limit s.low (1024 * unit_of s.range)) _
    (only_next (renormalised part) _ (only-renormalised part) (λ t. only-found _)))
    (λ d. only-found _)

pub only-met : (step : Step) (row : List ℕ) (s : DecoderState) → HeadOnly (met step (symbol_by row) s)
only-met step row s = only-within step (symbol_by row s) (only-symbol row s)

only-onward : {A B : Type 0} (first : Coding A) (rest : A → Coding B) → ((s : DecoderState) → HeadOnly (first s)) → ((x : A) (s : DecoderState) → HeadOnly (rest x s)) → (s : DecoderState) → HeadOnly (onward first rest s)
only-onward first rest of or s = only_next (first s) (λ r. rest r.value r.state) (of s) (λ r. or r.value r.state)

only-either : {A : Type 0} (t : Bool) (a b : Coding A) → ((s : DecoderState) → HeadOnly (a s)) → ((s : DecoderState) → HeadOnly (b s)) → (s : DecoderState) → HeadOnly (cond t a b s)
only-either true a b oa ob = oa
only-either false a b oa ob = ob

-- ---- the TNS data

only-indices : (coefficients : List ℕ) (f k n : ℕ) (s : DecoderState) → HeadOnly (read_indices coefficients f k n s)
unfolding read_indices
only-indices coefficients f k zero s = only-found _
only-indices coefficients f k (suc n) s =
    only-onward (met (coef f k) (symbol_by (row_at 17 k coefficients))) _ (only-met (coef f k) (row_at 17 k coefficients))
    (λ i. only-onward (read_indices coefficients f (k + 1) n) (λ rest. done (i ∷ rest)) (only-indices coefficients f (k + 1) n) (λ rest t. only-found _))
    s

module _ (orders coefficients : List ℕ) (weighting : ℕ) where
  only-filter : (f flag : ℕ) (s : DecoderState) → HeadOnly (read_filter orders coefficients weighting f flag s)
  only-filter f flag s =
      only-either (eqb flag 1) _ (done no_filter)
      (only-onward (met (order f) (symbol_by (row_at 8 weighting orders))) _ (only-met (order f) (row_at 8 weighting orders))
      (λ k. only-onward (read_indices coefficients f 0 (k + 1)) (λ indices. done (record { order = k + 1; indices = indices })) (only-indices coefficients f 0 (k + 1)) (λ indices t. only-found _)))
      (λ t. only-found _) s

  pub only-tns : (first_flag second_flag : ℕ) (s : DecoderState) → HeadOnly (read_tns orders coefficients weighting first_flag second_flag s)
  only-tns first_flag second_flag s =
      only-onward (read_filter orders coefficients weighting 0 first_flag) _ (only-filter 0 first_flag)
      (λ first. only-onward (read_filter orders coefficients weighting 1 second_flag) (λ second. done (record { first = first; second = second })) (only-filter 1 second_flag) (λ second t. only-found _))
      s

-- ---- the start

only-three : HeadOnly take_three
only-three =
    record {
      forward = λ f c x e. let p = three f c x e in omega (arith, ap (λ (r : ℕ × Cursor). r.1.head) p.2);
      own = λ f g c d x l h e agree. let p = three f c x e in
          let up : c.head + 3 ≡ x.1.head = ap (λ (r : ℕ × Cursor). r.1.head) p.2 in
          let first : get_or f c.head 0 ≡ get_or g c.head 0 = agree c.head (omega arith) (omega arith) in
          let second : get_or f (c.head + 1) 0 ≡ get_or g (c.head + 1) 0 = agree (c.head + 1) (omega arith) (omega arith) in
          let third : get_or f (c.head + 2) 0 ≡ get_or g (c.head + 2) 0 = agree (c.head + 2) (omega arith) (omega arith) in
          rw (← l, ← h, p.0, p.1, ← first, ← second, ← third) (ap (λ (r : ℕ × Cursor). accepted (r.0, at r.1 d)) p.2);
    }
  where
    three : (f : List ℕ) (c : Cursor) (x : ℕ × Cursor) → take_three f c ≡ accepted x →
        (ltb 65535 (length f) ≡ false) × (leb (length f) (c.head + 2) ≡ false) × (◌≡◌ {A = ℕ × Cursor} (three_at f c.head, record { head = c.head + 3; tail = c.tail }) x)
    three f c x e =
        let a = given-split (ltb 65535 (length f)) (wrong_length (length f)) _ e in
        let b = given-split (leb (length f) (c.head + 2)) (head_past_end c.head) _ a.1 in
        (a.0, b.0, accepted-same b.1)

pub only-start : HeadOnly start_in
only-start = only-within start start_decoder (only_next take_three _ only-three (λ low. only-found _))
