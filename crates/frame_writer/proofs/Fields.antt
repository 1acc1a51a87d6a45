-- The side information's fields as a list of bits: laid field by field or put bit by bit, the frame is the same, and where the bits stand
-- the fields are read. Assumes nothing.
use Prim.Native.Nat.{ℕ, zero, suc, ◌+◌, ◌/◌, ◌%◌, ◌^◌}
use mathlib.Core.Path.{◌≡◌, refl, sym, ap, ap₂, subst, ◌∙◌}
use mathlib.Core.List.{List, [], ◌∷◌}
use native.Mathlib.Omega.{arith}
use lib.ListN.{length, length-append}
use Rattle.buffer_reader.specs.Tail.{field}
use Rattle.buffer_reader.proofs.Tails.{field-none, field-more, cut-more}
use Rattle.buffer_writer.specs.Writes.{put_bit, put_field}
use Rattle.buffer_writer.proofs.Places.{put-none, put-more}
use Rattle.side_info.specs.Layout.{width, value, length_of, put_fields}
use Rattle.side_info.specs.declared.writer.Field.{Field}
use Rattle.side_info.proofs.Layouts.{fields_at, cut_all}
use Rattle.sending.specs.Sending.{put_bits, side, owned, Stands}
use Rattle.sending.specs.Private.{AllBits, no_bits, more-bits}
use Rattle.sending.proofs.Puts.{put-append}
use Rattle.sending.proofs.Stands.{stands-append, bits-append}
use Rattle.frame_writer.specs.Frame.{field_bits, fields_bits}

pub field-bits-length : (v n : ℕ) → length (field_bits v n) ≡ n
unfolding field_bits
field-bits-length v zero = refl
field-bits-length v (suc n) = ap suc (field-bits-length (v / 2) n)

pub fields-bits-length : (fields : List Field) → length (fields_bits fields) ≡ length_of fields
unfolding fields_bits length_of
fields-bits-length [] = refl
fields-bits-length (field ∷ fields) =
    rw (length-append (field_bits (value field) (width field)) (fields_bits fields))
    (omega (arith, field-bits-length (value field) (width field), fields-bits-length fields))

pub field_put : (f : List ℕ) (i v n : ℕ) → put_field f i v n ≡ put_bits f i (field_bits v n)
unfolding field_bits put_bits
field_put f i v zero = put-none f i v
field_put f i v (suc n) = put-more f i v n ∙ field_put (put_bit f i (v % 2)) (i + 1) (v / 2) n

pub fields-put : (f : List ℕ) (i : ℕ) (fields : List Field) → put_fields f i fields ≡ put_bits f i (fields_bits fields)
unfolding fields_bits put_fields put_bits
fields-put f i [] = refl
fields-put f i (field ∷ fields) =
    let v = value field in
    let n = width field in
    fields-put (put_field f i v n) (i + n) fields ∙
    ap (λ (g : List ℕ). put_bits g (i + n) (fields_bits fields)) (field_put f i v n) ∙
    ap (λ (k : ℕ). put_bits (put_bits f i (field_bits v n)) (i + k) (fields_bits fields)) (sym (field-bits-length v n)) ∙
    sym (put-append f i (field_bits v n) (fields_bits fields))

pub field-bits-low : (v n : ℕ) → AllBits (field_bits v n)
unfolding field_bits
field-bits-low v zero = no_bits
field-bits-low v (suc n) = more-bits {b = owned side (v % 2)} (omega arith) (field-bits-low (v / 2) n)

pub fields-bits-low : (fields : List Field) → AllBits (fields_bits fields)
unfolding fields_bits
fields-bits-low [] = no_bits
fields-bits-low (field ∷ fields) =
    bits-append (field_bits (value field) (width field)) (fields_bits fields) (field-bits-low (value field) (width field)) (fields-bits-low fields)

-- a field whose bits stand somewhere is its value, cut to its width
pub field-stands : (g : List ℕ) (t v n : ℕ) → Stands g t (field_bits v n) → field g t n ≡ v % 2 ^ n
unfolding Stands field_bits
field-stands g t v zero h = field-none g t ∙ omega arith
field-stands g t v (suc n) h =
    rw (field-more g t n, h.0, field-stands g (t + 1) (v / 2) n h.1, cut-more v n) refl

pub fields-stand : (g : List ℕ) (t : ℕ) (fields : List Field) → Stands g t (fields_bits fields) → fields_at g t fields ≡ cut_all fields
unfolding fields_bits fields_at cut_all
fields-stand g t [] h = refl
fields-stand g t (x ∷ xs) h =
    let s = stands-append g t (field_bits (value x) (width x)) (fields_bits xs) h in
    let rest = subst (λ (n : ℕ). Stands g (t + n) (fields_bits xs)) (field-bits-length (value x) (width x)) s.1 in
    ap₂ (λ (n : ℕ) (l : List Field). (width x, n) ∷ l) (field-stands g t (value x) (width x) s.0) (fields-stand g (t + width x) xs rest)
