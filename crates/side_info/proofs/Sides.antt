-- The side information that is read takes as many tail bits as its record has when it is written, and leaves the head: each field is read
-- in the width that it is laid in. Assumes nothing.
use Prim.Native.Nat.{ℕ, zero, suc, ◌+◌, ◌*◌, ◌/◌, ◌<◌}
use mathlib.Core.Path.{◌≡◌, refl}
use mathlib.Core.Bool.{Bool, true, false, cond, not}
use mathlib.Core.List.{List}
use native.Mathlib.Omega.{arith}
use borrow.Author.Tests.{ltb-false}
use lib.Dec.{leb, ltb, eqb}
use lib.ListN.{length}
use Rattle.common.specs.Reply.{side, Answer, accepted, refused, and_then, wrong_length, width_not_listed, no_tail_room, bandwidth_too_large, lastnz_too_large, joint_too_large25, joint_too_large24}
use Rattle.common.proofs.Bools.{by-test}
use Rattle.buffer_reader.specs.Reads.{take_bits, take_bit, listed, field_beyond, bit_beyond}
use Rattle.buffer_reader.specs.Steps.{Reading, found, refusing, if_present, as_number}
use Rattle.buffer_reader.specs.declared.Cursor.{Cursor}
use Rattle.buffer_reader.proofs.Steps.{Holds, holds_at, holds-given, holds-within, holds_then, flag-holds}
use Rattle.side_info.specs.Joint.{sns_of}
use Rattle.side_info.specs.Layout.{length_of, side_length}
use Rattle.side_info.specs.Reader.{side_field, side_flag, bandwidth_bits, part_bits, joint_bits, read_bandwidth, lastnz_bits, read_lastnz, read_joint, read_all}
use Rattle.side_info.specs.Record.{if_there}
use Rattle.side_info.specs.declared.SideInfo.{SideInfo}

-- a cursor n tail bits on
pub record Took (c d : Cursor) (n : ℕ) : Type 0 where
  pub tail : d.tail ≡ c.tail + n
  pub head : d.head ≡ c.head

abbrev Takes : {A : Type 0} → Cursor → ℕ → A × Cursor → Type 0
Takes c n r = Took c r.1 n

field-takes : (n : ℕ) (f : List ℕ) (c : Cursor) → Holds (Takes c n) (side_field n f c)
field-takes n f c =
    holds-within (Takes c n) side (take_bits f c n)
    (holds-given (Takes c n) (ltb 65535 (length f)) (wrong_length (length f)) _
    (holds-given (Takes c n) (not (listed n)) (width_not_listed n) _
    (holds-given (Takes c n) (field_beyond (length f) c n) (no_tail_room n c.tail) _ (record { tail = refl; head = refl }))))

flag-takes : (f : List ℕ) (c : Cursor) → Holds (Takes c 1) (side_flag f c)
flag-takes f c =
    holds-within (Takes c 1) side (and_then (take_bit f c) as_number)
    (holds_then (Takes c 1) (Takes c 1) (take_bit f c) as_number
    (holds-given (Takes c 1) (ltb 65535 (length f)) (wrong_length (length f)) _
    (holds-given (Takes c 1) (bit_beyond (length f) c) (no_tail_room 1 c.tail) _ (record { tail = refl; head = refl })))
    (λ r h. h))

-- one that may be absent
present-takes : (t : Bool) (n : ℕ) (s : Reading ℕ) (f : List ℕ) (c : Cursor) → Holds (Takes c n) (s f c) → Holds (Takes c (if_there t n)) (if_present t s f c)
present-takes true n s f c h = h
present-takes false n s f c h = record { tail = omega arith; head = refl }

bandwidth-takes : (fs : ℕ) (f : List ℕ) (c : Cursor) → Holds (Takes c (bandwidth_bits fs)) (read_bandwidth fs f c)
bandwidth-takes fs f c =
    let w = bandwidth_bits fs in
    holds_then (Takes c w) (Takes c (if_there (ltb 0 w) w)) (if_present (ltb 0 w) (side_field w) f c) _ (present-takes (ltb 0 w) w (side_field w) f c (field-takes w f c))
    (λ r h. holds-given (Takes c w) (ltb fs r.0) (bandwidth_too_large r.0) (accepted r) (by-test (ltb 0 w) (λ e. rw e at h) (λ e. let none = ltb-false 0 w e in let less : Took c r.1 0 = rw e at h in record { tail = omega (arith, less.tail); head = less.head })))

lastnz-takes : (ne : ℕ) (f : List ℕ) (c : Cursor) → Holds (Takes c (lastnz_bits ne)) (read_lastnz ne f c)
lastnz-takes ne f c =
    let w = lastnz_bits ne in
    holds_then (Takes c w) (Takes c w) (side_field w f c) _ (field-takes w f c)
    (λ r h. holds-given (Takes c w) (ltb ne (2 * (r.0 + 1))) (lastnz_too_large (2 * (r.0 + 1)) ne) (accepted (2 * (r.0 + 1), r.1)) h)

joint-takes : (msb : ℕ) (f : List ℕ) (c : Cursor) → Holds (Takes c (joint_bits msb)) (read_joint msb f c)
joint-takes msb f c =
    let w = joint_bits msb in
    holds_then (Takes c w) (Takes c w) (side_field w f c) _ (field-takes w f c) (λ r h. by (eqb msb 0) w r h)
  where
    by : (t : Bool) (w : ℕ) (r : ℕ × Cursor) → Takes c w r → Holds (Takes c w) (cond t (refusing (leb 33460056 r.0) (joint_too_large25 r.0) (found r.0)) (refusing (leb 16708096 r.0) (joint_too_large24 r.0) (found r.0)) f r.1)
    by true w r h = holds-given (Takes c w) (leb 33460056 r.0) (joint_too_large25 r.0) (accepted r) h
    by false w r h = holds-given (Takes c w) (leb 16708096 r.0) (joint_too_large24 r.0) (accepted r) h

-- the second stage keeps msb
sns-msb : (lf hf msb part ls_inda j : ℕ) → msb < 2 → (sns_of lf hf msb part ls_inda j).msb ≡ msb
sns-msb lf hf zero part ls_inda j h =
    by-test (ltb (j / 2390004) 2) (λ e. rw e refl) (λ e. rw e refl)
sns-msb lf hf (suc zero) part ls_inda j h = by-test (ltb j 15158272) (λ e. rw e refl) (λ e. rw e refl)
sns-msb lf hf (suc (suc n)) part ls_inda j h = absurd (omega arith)

-- both of two things that hold of an answer
holds-both : {A : Type 0} (P Q : A → Type 0) (a : Answer A) → Holds P a → Holds Q a → Holds (λ x. P x × Q x) a
holds-both P Q (accepted x) p q = (p, q)
holds-both P Q (refused r) p q = tt

module _ (fs ne : ℕ) (f : List ℕ) (c : Cursor) where
  abbrev All : SideInfo × Cursor → Type 0
  All r = Took c r.1 (side_length fs ne r.0)

  all-takes : Holds All (read_all fs ne f c)
  unfolding length_of
  all-takes =
      holds_then All (Takes c (bandwidth_bits fs)) (read_bandwidth fs f c) _ (bandwidth-takes fs f c)
      (λ bandwidth h1. holds_then All (Takes bandwidth.1 (lastnz_bits ne)) (read_lastnz ne f bandwidth.1) _ (lastnz-takes ne f bandwidth.1)
      (λ lastnz h2. holds_then All (Takes lastnz.1 1) (side_flag f lastnz.1) _ (flag-takes f lastnz.1)
      (λ lsb h3. holds_then All (Takes lsb.1 8) (side_field 8 f lsb.1) _ (field-takes 8 f lsb.1)
      (λ gain h4. holds_then All (Takes gain.1 1) (side_flag f gain.1) _ (flag-takes f gain.1)
      (λ first h5. holds_then All (Takes first.1 (if_there (leb 3 bandwidth.0) 1)) (if_present (leb 3 bandwidth.0) side_flag f first.1) _ (present-takes (leb 3 bandwidth.0) 1 side_flag f first.1 (flag-takes f first.1))
      (λ second h6. holds_then All (Takes second.1 1) (side_flag f second.1) _ (flag-takes f second.1)
      (λ pitch h7. holds_then All (Takes pitch.1 5) (side_field 5 f pitch.1) _ (field-takes 5 f pitch.1)
      (λ lf h8. holds_then All (Takes lf.1 5) (side_field 5 f lf.1) _ (field-takes 5 f lf.1)
      (λ hf h9. holds_then All (λ r. (Took hf.1 r.1 1) × (r.0 < 2)) (side_flag f hf.1) _ (holds-both (Takes hf.1 1) (λ r. r.0 < 2) (side_flag f hf.1) (flag-takes f hf.1) (flag-holds side f hf.1))
      (λ msb h10. holds_then All (Takes msb.1 (part_bits msb.0)) (side_field (part_bits msb.0) f msb.1) _ (field-takes (part_bits msb.0) f msb.1)
      (λ part h11. holds_then All (Takes part.1 1) (side_flag f part.1) _ (flag-takes f part.1)
      (λ ls_inda h12. holds_then All (Takes ls_inda.1 (joint_bits msb.0)) (read_joint msb.0 f ls_inda.1) _ (joint-takes msb.0 f ls_inda.1)
      (λ j h13. holds_then All (Takes j.1 (if_there (eqb pitch.0 1) 1)) (if_present (eqb pitch.0 1) side_flag f j.1) _ (present-takes (eqb pitch.0 1) 1 side_flag f j.1 (flag-takes f j.1))
      (λ active h14. holds_then All (Takes active.1 (if_there (eqb pitch.0 1) 9)) (if_present (eqb pitch.0 1) (side_field 9) f active.1) _ (present-takes (eqb pitch.0 1) 9 (side_field 9) f active.1 (field-takes 9 f active.1))
      (λ index h15. holds_then All (Takes index.1 3) (side_field 3 f index.1) _ (field-takes 3 f index.1)
      (λ noise h16. let msb-same = sns-msb lf.0 hf.0 msb.0 part.0 ls_inda.0 j.0 h10.1 in
      rw msb-same (record { tail = omega arith; head = omega arith })))))))))))))))))

  pub side-took : (s : SideInfo) (d : Cursor) → read_all fs ne f c ≡ accepted (s, d) → Took c d (side_length fs ne s)
  side-took s d e = holds_at All (read_all fs ne f c) all-takes e
