-- Fields laid behind one another are read back each as it was, cut to its width, and no bit outside their places changes; and
-- when there is room for them all: how the writer's layout meets the reader's fields. Assumes nothing.
use Prim.Native.Nat.{ℕ, zero, suc, ◌+◌, ◌*◌, ◌%◌, ◌^◌, ◌≤◌, ◌<◌}
use mathlib.Core.Path.{◌≡◌, refl, sym, ap₂, ◌∙◌}
use mathlib.Core.Bool.{false, ◌&&◌}
use mathlib.Core.List.{List, [], ◌∷◌}
use mathlib.Core.Logic.{◌⊎◌, inl, inr, ⊎_elim}
use native.Mathlib.Omega.{arith}
use native.Mathlib.Nat.{add-zero, add_assoc}
use borrow.Author.Tests.{le-ltb, le-leb, ltb-false}
use lib.Dec.{leb, ltb}
use lib.ListN.{length}
use Rattle.common.specs.Reply.{accepted, no_tail_room}
use Rattle.common.proofs.Bools.{and-second-fails, and-first-holds}
use Rattle.common.proofs.Replies.{accepted-same, given-split}
use Rattle.buffer_reader.specs.Tail.{tail_bit, field}
use Rattle.buffer_reader.proofs.Tails.{field-agrees}
use Rattle.buffer_writer.specs.Writes.{put_field}
use Rattle.buffer_writer.proofs.Places.{put-field-length, put-field-other, put-field-same}
use Rattle.side_info.specs.Layout.{width, value, length_of, put_fields, room_for}
use Rattle.side_info.specs.declared.writer.Field.{Field}

-- the fields as a frame holds them from a tail place on
unfoldable pub fields_at : List ℕ → ℕ → List Field → List Field
fields_at g t [] = []
fields_at g t (x ∷ xs) = (width x, field g t (width x)) ∷ fields_at g (t + width x) xs

-- fields, each value cut to its width
unfoldable pub cut_all : List Field → List Field
cut_all [] = []
cut_all (x ∷ xs) = (width x, value x % 2 ^ width x) ∷ cut_all xs

pub length_more : (x : Field) (xs : List Field) → length_of (x ∷ xs) ≡ width x + length_of xs
unfolding length_of
length_more x xs = refl

pub put-fields-length : (f : List ℕ) (t : ℕ) (xs : List Field) → length (put_fields f t xs) ≡ length f
unfolding put_fields
put-fields-length f t [] = refl
put-fields-length f t (x ∷ xs) = put-fields-length (put_field f t (value x) (width x)) (t + width x) xs ∙ put-field-length f t (value x) (width x)

-- every other bit is what it was
pub put-fields-other : (f : List ℕ) (t : ℕ) (xs : List Field) (j : ℕ) →
    t + length_of xs ≤ 8 * length f → j < 8 * length f → (j < t) ⊎ (t + length_of xs ≤ j) → tail_bit (put_fields f t xs) j ≡ tail_bit f j
unfolding put_fields
put-fields-other f t [] j h l out = refl
put-fields-other f t (x ∷ xs) j h l out =
    let sum = length_more x xs in
    let long = put-field-length f t (value x) (width x) in
    put-fields-other (put_field f t (value x) (width x)) (t + width x) xs j (omega arith) (omega arith) (⊎_elim (λ a. inl (omega arith)) (λ a. inr (omega arith)) out) ∙
    put-field-other f t (value x) (width x) j (omega arith) l (⊎_elim (λ a. inl a) (λ a. inr (omega arith)) out)

-- a field at places apart is what it was
pub put-fields-apart : (f : List ℕ) (t : ℕ) (xs : List Field) (j m : ℕ) →
    t + length_of xs ≤ 8 * length f → j + m ≤ 8 * length f → (j + m ≤ t) ⊎ (t + length_of xs ≤ j) → field (put_fields f t xs) j m ≡ field f j m
put-fields-apart f t xs j m h l out =
    field-agrees (put_fields f t xs) f j m
    (λ k q. put-fields-other f t xs (j + k) h (omega arith) (⊎_elim (λ a. inl (omega arith)) (λ a. inr (omega arith)) out))

-- each field is its value, cut to its width
pub put-fields-same : (f : List ℕ) (t : ℕ) (xs : List Field) → t + length_of xs ≤ 8 * length f →
    fields_at (put_fields f t xs) t xs ≡ cut_all xs
unfolding fields_at cut_all put_fields
put-fields-same f t [] h = refl
put-fields-same f t (x ∷ xs) h =
    let v = value x in
    let w = width x in
    let sum = length_more x xs in
    let long = put-field-length f t v w in
    let first : field (put_fields (put_field f t v w) (t + w) xs) t w ≡ v % 2 ^ w =
    put-fields-apart (put_field f t v w) (t + w) xs t w (omega arith) (omega arith) (inl (omega arith)) ∙ put-field-same f t v w (omega arith) in
    let rest : fields_at (put_fields (put_field f t v w) (t + w) xs) (t + w) xs ≡ cut_all xs =
    put-fields-same (put_field f t v w) (t + w) xs (omega arith) in
    ap₂ (λ (n : ℕ) (l : List Field). (w, n) ∷ l) first rest

-- where all fit, the answer is the tail behind them
pub room-there : (bits t : ℕ) (xs : List Field) → t + length_of xs ≤ bits → room_for bits t xs ≡ accepted (t + length_of xs)
unfolding room_for length_of
room-there bits t [] h = rw (add-zero t) refl
room-there bits t (x ∷ xs) h =
    let w = width x in
    let fits : t + w + length_of xs ≤ bits = omega arith in
    let passed : (leb 1 w && ltb bits (t + w)) ≡ false = and-second-fails (leb 1 w) (le-ltb bits (t + w) (omega arith)) in
    rw (passed, room-there bits (t + w) xs fits, add_assoc t w (length_of xs)) refl

-- an answer is the tail behind them
pub room-end : (bits t : ℕ) (xs : List Field) {e : ℕ} → room_for bits t xs ≡ accepted e → e ≡ t + length_of xs
unfolding room_for length_of
room-end bits t [] p = sym (accepted-same p) ∙ sym (add-zero t)
room-end bits t (x ∷ xs) p =
    let w = width x in
    room-end bits (t + w) xs (given-split (leb 1 w && ltb bits (t + w)) (no_tail_room w t) (room_for bits (t + w) xs) p).1 ∙ add_assoc t w (length_of xs)

-- a field that is there and did not pass the start fits; one that is absent takes nothing
field_fits : (bits t w : ℕ) → (leb 1 w && ltb bits (t + w)) ≡ false → (t ≤ bits) ⊎ (0 < w) → t + w ≤ bits
field_fits bits t zero p (inl h) = omega arith
field_fits bits t zero p (inr h) = absurd (omega arith)
field_fits bits t (suc w) p h =
    ltb-false bits (t + suc w) (sym (and-first-holds (ltb bits (t + suc w)) (le-leb 1 (suc w) (omega arith))) ∙ p)

-- a field that is there, or one that is absent
by_width : {A : Type 0} (n : ℕ) → (0 < n → A) → (n ≡ 0 → A) → A
by_width zero there absent = absent refl
by_width (suc n) there absent = there (omega arith)

-- and they fit, if the first tail was within the frame
pub room_within : (bits t : ℕ) (xs : List Field) {e : ℕ} → t ≤ bits → room_for bits t xs ≡ accepted e → t + length_of xs ≤ bits
unfolding room_for length_of
room_within bits t [] h p = omega arith
room_within bits t (x ∷ xs) h p =
    let w = width x in
    let q = given-split (leb 1 w && ltb bits (t + w)) (no_tail_room w t) (room_for bits (t + w) xs) p in
    let ih = room_within bits (t + w) xs (field_fits bits t w q.0 (inl h)) q.1 in omega arith

-- or if there is a bit to lay
pub room_fits : (bits t : ℕ) (xs : List Field) {e : ℕ} → 0 < length_of xs → room_for bits t xs ≡ accepted e → t + length_of xs ≤ bits
unfolding room_for length_of
room_fits bits t [] h p = absurd (omega arith)
room_fits bits t (x ∷ xs) h p =
    let w = width x in
    let q = given-split (leb 1 w && ltb bits (t + w)) (no_tail_room w t) (room_for bits (t + w) xs) p in
    let fits : t + w + length_of xs ≤ bits =
    by_width w (λ l. room_within bits (t + w) xs (field_fits bits t w q.0 (inr l)) q.1) (λ z. room_fits bits (t + w) xs (omega arith) q.1) in
    omega arith
