-- The theorems of a walk: its fields lie behind one another and end with the input or at the first malformed field; what stands behind a
-- field never changes what was said of it; and no byte behind the bound and one more is looked at. Assumes nothing.
use Prim.Native.Nat.{ℕ, zero, suc, ◌+◌, ◌-◌, ◌≤◌, ◌<◌, min}
use mathlib.Core.Path.{◌≡◌, refl, sym, ap, subst, ◌∙◌}
use mathlib.Core.Bool.{Bool, true, false, ◌&&◌}
use mathlib.Core.List.{List, [], ◌∷◌}
use native.Mathlib.Omega.{arith}
use borrow.Author.Tests.{leb-true, leb-false, le-leb, lt-leb}
use lib.Dec.{leb}
use lib.ListN.{length, get_or, take, drop, length-take, length-drop, take-append-drop}
use lib.Seq.{get_or-take, take_all, length-take-le, take-append-le, drop-append-le}
use Rattle.common.specs.Reply.{Reply, Answer, accepted, refused, field_malformed}
use Rattle.common.proofs.Bools.{and-first-fails, and-second-fails, by-test}
use Rattle.recording.specs.Tagged.{Next, found, ends, header_at, end_of, complete, formed, field_at, after, nothing}
use Rattle.recording.specs.Contents.{content_of}
use Rattle.recording.specs.Walk.{whole, malformed, Walk, on_next, walk_from, walk_of}
use Rattle.recording.specs.Stated.{Behind, after_all, Each, EndsAt, Walked, ahead}
use Rattle.recording.specs.declared.reader.Before.{Before}
use Rattle.recording.specs.declared.reader.Field.{Field}
use Rattle.recording.proofs.Answers.{field-known, field-refusal, field-ends, field_found, field-bad}

-- from any offset, with turns enough
pub walk_ends : (n most : ℕ) (b : Before) (input : List ℕ) (at : ℕ) → length input - at < n → Walked most b input at (walk_from n most b input at)
unfolding walk_from
walk_ends zero most b input at h = absurd (omega arith)
walk_ends (suc n) most b input at h =
    walked (field_at most b input at) refl (λ x less. walk_ends n most (after b x.tag) input (end_of x) less)
  where
    walked : (a : Answer Next) → field_at most b input at ≡ a → ((x : Field) → length input - end_of x < n → Walked most (after b x.tag) input (end_of x) (walk_from n most (after b x.tag) input (end_of x))) → Walked most b input at (on_next a (λ x. walk_from n most (after b x.tag) input (end_of x)))
    walked (accepted (found x)) e rest =
        let k = field-known most b input at x e in
        let w = rest x (omega (arith, k.there, k.content)) in
        record { to = w.to; behind = (k.place, k.content, w.behind); each = (e, w.each); last = w.last }
    walked (accepted ends) e rest = record { to = at; behind = refl; each = tt; last = field-ends most b input at e }
    walked (refused r) e rest =
        record { to = at; behind = refl; each = tt; last = (field-refusal most b input at r e, e) }

-- of a whole recording
pub walk-of : (most : ℕ) (input : List ℕ) → Walked most nothing input 0 (walk_of most input)
walk-of most input = walk_ends (suc (length input)) most nothing input 0 (omega arith)

-- the fields of an accepted walk lie behind one another without gap or overlap and end with the input
pub whole-behind : (most : ℕ) (input : List ℕ) → (walk_of most input).ending ≡ whole → Behind 0 (walk_of most input).fields (length input)
whole-behind most input e =
    let w = walk-of most input in
    let last : w.to ≡ length input = rw e at w.last in
    subst (λ (n : ℕ). Behind 0 (walk_of most input).fields n) last w.behind

-- 18 names the first malformed field: those before it lie behind one another up to its offset, and it is refused there
pub malformed-first : (most : ℕ) (input : List ℕ) (r : Reply) → (walk_of most input).ending ≡ malformed r → (to : ℕ) × Behind 0 (walk_of most input).fields to × (r ≡ field_malformed to) × (field_at most (after_all nothing (walk_of most input).fields) input to ≡ refused r)
malformed-first most input r e =
    let w = walk-of most input in
    let last : EndsAt most (after_all nothing (walk_of most input).fields) input w.to (malformed r) = subst (EndsAt most (after_all nothing (walk_of most input).fields) input w.to) e w.last in
    (w.to, w.behind, last.0, last.1)

-- turns beyond those that are enough change nothing
pub walk_more : (n k most : ℕ) (b : Before) (input : List ℕ) (at : ℕ) → length input - at < n → length input - at < k → walk_from n most b input at ≡ walk_from k most b input at
unfolding walk_from
walk_more zero k most b input at h g = absurd (omega arith)
walk_more (suc n) zero most b input at h g = absurd (omega arith)
walk_more (suc n) (suc k) most b input at h g =
    same (field_at most b input at) refl (λ x less more. walk_more n k most (after b x.tag) input (end_of x) less more)
  where
    same : (a : Answer Next) → field_at most b input at ≡ a → ((x : Field) → length input - end_of x < n → length input - end_of x < k → walk_from n most (after b x.tag) input (end_of x) ≡ walk_from k most (after b x.tag) input (end_of x)) → on_next a (λ x. walk_from n most (after b x.tag) input (end_of x)) ≡ on_next a (λ x. walk_from k most (after b x.tag) input (end_of x))
    same (accepted (found x)) e rest =
        let w = field-known most b input at x e in
        ap (λ (r : Walk). ahead (x ∷ []) r) (rest x (omega (arith, w.there, w.content)) (omega (arith, w.there, w.content)))
    same (accepted ends) e rest = refl
    same (refused r) e rest = refl

-- fields that stand there begin the walk, and the rest is the walk from where they end
pub walk_begins : (xs : List Field) (n most : ℕ) (b : Before) (input : List ℕ) (at to : ℕ) → Each most b input at xs → Behind at xs to → length input - at < n → walk_from n most b input at ≡ ahead xs (walk_from n most (after_all b xs) input to)
unfolding walk_from
walk_begins [] n most b input at to each behind h = rw behind refl
walk_begins (x ∷ xs) zero most b input at to each behind h = absurd (omega arith)
walk_begins (x ∷ xs) (suc n) most b input at to each behind h =
    let w = field-known most b input at x each.0 in
    let less : length input - end_of x < n = omega (arith, w.there, w.content) in
    let wide : length input - end_of x < suc n = omega arith in
    let more = walk_more n (suc n) most (after b x.tag) input (end_of x) less wide in
    let rest = walk_begins xs (suc n) most (after b x.tag) input (end_of x) to each.1 behind.2 wide in
    rw each.0 (ap (λ (r : Walk). ahead (x ∷ []) r) (more ∙ rest))

-- two inputs with the same first e bytes, both that long
module _ (f g : List ℕ) (e : ℕ) (same : take e f ≡ take e g) (long : e ≤ length g) where
  byte-alike : (i : ℕ) → i < e → get_or f i 0 ≡ get_or g i 0
  byte-alike i h = sym (get_or-take e f i 0 h) ∙ ap (λ (l : List ℕ). get_or l i 0) same ∙ get_or-take e g i 0 h

  header-alike : (at : ℕ) → at + 3 ≤ e → header_at f at ≡ header_at g at
  header-alike at h = rw (byte-alike at (omega arith), byte-alike (at + 1) (omega arith), byte-alike (at + 2) (omega arith)) refl

  -- have the same field where it ends there
  pub field_alike : (most : ℕ) (b : Before) (at : ℕ) (x : Field) → field_at most b f at ≡ accepted (found x) → end_of x ≤ e → field_at most b g at ≡ accepted (found x)
  field_alike most b at x a h =
      let k = field-known most b f at x a in
      let same : header_at g at ≡ x = sym (header-alike at (omega (arith, k.content))) ∙ k.header in
      let off : at ≡ length g → ⊥ = λ z. omega (arith, k.content) in
      let there : leb (end_of x) (length g) ≡ true = le-leb (end_of x) (length g) (omega arith) in
      let bound : leb (end_of x) most ≡ true = le-leb (end_of x) most k.bound in
      let judged : (complete most (length g) x && formed b x) ≡ true = rw (there, bound, k.good) refl in
      field_found most b g at off (ap (λ (y : Field). complete most (length g) y && formed b y) same ∙ judged) ∙
      ap (λ (y : Field). accepted (found y)) same

-- the content too stands in the first e bytes
pub content-within : (f : List ℕ) (e : ℕ) (x : Field) → end_of x ≤ e → end_of x ≤ length f → content_of (take e f) x ≡ content_of f x
content-within f e x h there =
    let size : length (take e f) ≡ min e (length f) = length-take e f in
    let left : x.content ≤ length (take e f) = omega arith in
    let rest : x.size ≤ length (drop x.content (take e f)) = simp length-drop (omega arith) in
    sym
    (ap (λ (l : List ℕ). content_of l x) (sym (take-append-drop e f)) ∙
    ap (take x.size) (drop-append-le x.content (take e f) (drop e f) left) ∙
    take-append-le x.size (drop x.content (take e f)) (drop e f) rest)

behind-rises : (xs : List Field) (from to : ℕ) → Behind from xs to → from ≤ to
behind-rises [] from to h = omega arith
behind-rises (x ∷ xs) from to h = let r = behind-rises xs (end_of x) to h.2 in omega (arith, h.1)

-- and the same fields
pub fields-alike : (f g : List ℕ) (e : ℕ) → take e f ≡ take e g → e ≤ length g → (most : ℕ) (b : Before) (at to : ℕ) (xs : List Field) → Each most b f at xs → Behind at xs to → to ≤ e → Each most b g at xs
fields-alike f g e same long most b at to [] each behind h = tt
fields-alike f g e same long most b at to (x ∷ xs) each behind h =
    let rise = behind-rises xs (end_of x) to behind.2 in
    (field_alike f g e same long most b at x each.0 (omega arith), fields-alike f g e same long most (after b x.tag) (end_of x) to xs each.1 behind.2 h)

-- so their walks agree up to there, whatever stands behind
pub walk-alike : (f g : List ℕ) (e : ℕ) → take e f ≡ take e g → e ≤ length g → (most to : ℕ) (xs : List Field) → Each most nothing f 0 xs → Behind 0 xs to → to ≤ e → walk_of most g ≡ ahead xs (walk_from (suc (length g)) most (after_all nothing xs) g to)
walk-alike f g e same long most to xs each behind h =
    walk_begins xs (suc (length g)) most nothing g 0 to (fields-alike f g e same long most nothing 0 to xs each behind h) behind (omega arith)

-- an input longer than the bound: where a field ends is judged by the bound alone
bound-judges : (most len : ℕ) (x : Field) → most ≤ len → complete most len x ≡ leb (end_of x) most
bound-judges most len x h =
    by-test (leb (end_of x) most)
    (λ e. let l = leb-true (end_of x) most e in rw (le-leb (end_of x) len (omega arith), e) refl)
    (λ e. and-second-fails (leb (end_of x) len) e ∙ sym e)

-- so no byte behind the bound and one more is looked at
module _ (most : ℕ) (b : Before) (input : List ℕ) (at : ℕ) (low : at ≤ most) where
  longer : most < length input → field_at most b input at ≡ field_at most b (take (suc most) input) at
  longer h =
      let size : length (take (suc most) input) ≡ suc most = length-take-le (suc most) input h in
      let off : at ≡ length input → ⊥ = λ z. omega arith in
      let offcut : at ≡ length (take (suc most) input) → ⊥ = λ z. omega arith in
      let judged : (len : ℕ) (x : Field) → most ≤ len → (complete most len x && formed b x) ≡ (leb (end_of x) most && formed b x) = λ len x l. ap (λ (t : Bool). t && formed b x) (bound-judges most len x l) in
      by-test (leb (at + 3) most)
      (λ e.
      let three = leb-true (at + 3) most e in
      let same : take (suc most) input ≡ take (suc most) (take (suc most) input) = sym (take_all (suc most) (take (suc most) input) (omega arith)) in
      let header : header_at input at ≡ header_at (take (suc most) input) at = header-alike input (take (suc most) input) (suc most) same (omega arith) at (omega arith) in
      let left = judged (length input) (header_at input at) (omega arith) in
      let right = judged (length (take (suc most) input)) (header_at (take (suc most) input) at) (omega arith) in
      let middle : (leb (end_of (header_at input at)) most && formed b (header_at input at)) ≡ (leb (end_of (header_at (take (suc most) input) at)) most && formed b (header_at (take (suc most) input) at)) = ap (λ (y : Field). leb (end_of y) most && formed b y) header in
      by-test (leb (end_of (header_at input at)) most && formed b (header_at input at))
      (λ t. field_found most b input at off (left ∙ t) ∙ ap (λ (y : Field). accepted (found y)) header ∙ sym (field_found most b (take (suc most) input) at offcut (right ∙ sym middle ∙ t)))
      (λ t. field-bad most b input at off (left ∙ t) ∙ sym (field-bad most b (take (suc most) input) at offcut (right ∙ sym middle ∙ t))))
      (λ e.
      let three = leb-false (at + 3) most e in
      let past : (len : ℕ) (x : Field) → x.content ≡ at + 3 → most ≤ len → (complete most len x && formed b x) ≡ false = λ len x k l. judged len x l ∙ and-first-fails (formed b x) (lt-leb (end_of x) most (omega arith)) in
      field-bad most b input at off (past (length input) (header_at input at) refl (omega arith)) ∙ sym (field-bad most b (take (suc most) input) at offcut (past (length (take (suc most) input)) (header_at (take (suc most) input) at) refl (omega arith))))

  pub field-within : field_at most b input at ≡ field_at most b (take (suc most) input) at
  field-within =
      by-test (leb (length input) most)
      (λ e. let l = leb-true (length input) most e in
      ap (λ (xs : List ℕ). field_at most b xs at) (sym (take_all (suc most) input (omega arith))))
      (λ e. longer (leb-false (length input) most e))

pub walk-within : (n k most : ℕ) (b : Before) (input : List ℕ) (at : ℕ) → at ≤ most → length input - at < n → length (take (suc most) input) - at < k → walk_from n most b input at ≡ walk_from k most b (take (suc most) input) at
unfolding walk_from
walk-within zero k most b input at low h g = absurd (omega arith)
walk-within (suc n) zero most b input at low h g = absurd (omega arith)
walk-within (suc n) (suc k) most b input at low h g =
    ap (λ (a : Answer Next). on_next a (λ x. walk_from n most (after b x.tag) input (end_of x))) (field-within most b input at low) ∙
    same (field_at most b (take (suc most) input) at) refl (λ x low less more. walk-within n k most (after b x.tag) input (end_of x) low less more)
  where
    same : (a : Answer Next) → field_at most b (take (suc most) input) at ≡ a → ((x : Field) → end_of x ≤ most → length input - end_of x < n → length (take (suc most) input) - end_of x < k → walk_from n most (after b x.tag) input (end_of x) ≡ walk_from k most (after b x.tag) (take (suc most) input) (end_of x)) → on_next a (λ x. walk_from n most (after b x.tag) input (end_of x)) ≡ on_next a (λ x. walk_from k most (after b x.tag) (take (suc most) input) (end_of x))
    same (accepted (found x)) e rest =
        let w = field-known most b (take (suc most) input) at x e in
        let v = field-known most b input at x (field-within most b input at low ∙ e) in
        ap (λ (r : Walk). ahead (x ∷ []) r) (rest x w.bound (omega (arith, v.there, v.content)) (omega (arith, w.there, w.content)))
    same (accepted ends) e rest = refl
    same (refused r) e rest = refl
