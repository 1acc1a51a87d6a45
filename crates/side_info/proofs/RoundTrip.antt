-- A record that passes, laid into a frame, is read back as it was, and the cursor stands where the writer left it: reader and
-- writer follow one layout. Assumes nothing.
use Prim.Native.Nat.{ℕ, zero, suc, ◌+◌, ◌-◌, ◌*◌, ◌/◌, ◌%◌, ◌^◌, ◌≤◌, ◌<◌}
use mathlib.Core.Path.{◌≡◌, refl, sym, ap, ap₂, ◌∙◌}
use mathlib.Core.Bool.{Bool, true, false, cond}
use mathlib.Core.List.{List, [], ◌∷◌}
use native.Mathlib.Omega.{arith}
use native.Mathlib.Decide.{dec_le}
use native.Mathlib.Nat.{add-zero, zero-add, mod-eq_of_lt}
use borrow.Author.Tests.{le-ltb, lt-ltb, lt-leb}
use lib.Dec.{leb, ltb, eqb}
use lib.ListN.{length}
use Rattle.common.specs.Reply.{Answer, accepted, side, within, and_then}
use Rattle.common.specs.Configuration.{frame_lines}
use Rattle.common.specs.declared.configuration.Configuration.{Configuration}
use Rattle.common.proofs.Configurations.{frame-ranges}
use Rattle.buffer_reader.specs.Tail.{tail_bit, field}
use Rattle.buffer_reader.specs.Reads.{listed, bytes_wanted}
use Rattle.buffer_reader.specs.Steps.{Reading, next, if_present, as_number}
use Rattle.buffer_reader.specs.declared.Cursor.{Cursor}
use Rattle.buffer_reader.proofs.Tails.{field-one, field-none, bit-lt}
use Rattle.buffer_reader.proofs.Rooms.{listed-low, wanted-holds}
use Rattle.buffer_reader.proofs.Answers.{bits-taken, bit-there, bit-taken}
use Rattle.side_info.specs.Joint.{part_of, joint_of}
use Rattle.side_info.specs.Reader.{side_field, side_flag, bandwidth_bits, lastnz_bits, part_bits, joint_bits, read_bandwidth, read_lastnz, read_joint}
use Rattle.side_info.specs.Reader.{read_all, read_side}
use Rattle.side_info.specs.Record.{if_there, side_passes}
use Rattle.side_info.specs.Layout.{width, value, length_of, side_fields, side_length, put_fields}
use Rattle.side_info.specs.declared.SideInfo.{SideInfo}
use Rattle.side_info.specs.declared.writer.Field.{Field}
use Rattle.side_info.proofs.Widths.{lastnz-five, lastnz-six, lastnz-seven, lastnz-eight, lastnz-range, part-listed}
use Rattle.side_info.proofs.Answers.{read-on}
use Rattle.side_info.proofs.Room.{field_at}
use Rattle.side_info.proofs.Layouts.{fields_at, cut_all, put-fields-length, put-fields-same}
use Rattle.side_info.proofs.Joints.{sns-limits, joint-back, joint-low-25, joint-low-24, part-fits, joint-fits}
use Rattle.side_info.proofs.Lengths.{bandwidth-most, shape-sum, length-range}
use Rattle.side_info.proofs.SideLimits.{SideLimits, side-limits}

abbrev at : ℕ → ℕ → Cursor
at h t = record { head = h; tail = t }

-- a reading that is accepted, then the next
on : {A B : Type 0} (s : Reading A) (k : A → Reading B) (g : List ℕ) (c : Cursor) (x : A) (d : Cursor) → s g c ≡ accepted (x, d) → next s k g c ≡ k x g d
on s k g c x d e = rw e refl

-- a bit as a number is the bit
bit-number : (b : ℕ) → b < 2 → cond (eqb b 1) 1 0 ≡ b
bit-number zero l = refl
bit-number (suc zero) l = refl
bit-number (suc (suc b)) l = absurd (omega arith)

-- the widths of the fields that may be absent
abbrev second_width : ℕ → ℕ
second_width bandwidth = if_there (leb 3 bandwidth) 1

abbrev active_width : ℕ → ℕ
active_width pitch = if_there (eqb pitch 1) 1

abbrev index_width : ℕ → ℕ
index_width pitch = if_there (eqb pitch 1) 9

-- one field, one bit, and one that may be absent, where the frame has room
module _ (g : List ℕ) (h most : ℕ) (size : length g ≤ 65535) (room : h + 4 + most / 8 ≤ length g) where
  field_step : (n t v : ℕ) → listed n ≡ true → t ≤ most → field g t n ≡ v →
      side_field n g (at h t) ≡ accepted (v, at h (t + n))
  field_step n t v ok l e =
      let w = wanted-holds n ok (t % 8) (omega arith) in
      let bytes = bytes_wanted n (t % 8) + h + t / 8 in
      let inside : ltb (length g) bytes ≡ false = le-ltb (length g) bytes (omega arith) in
      ap (within side) (bits-taken g (at h t) n size ok inside) ∙ ap (λ (x : ℕ). accepted (x, at h (t + n))) e

  flag-step : (t v : ℕ) → t ≤ most → field g t 1 ≡ v → side_flag g (at h t) ≡ accepted (v, at h (t + 1))
  flag-step t v l e =
      let inside = bit-there g (at h t) (omega arith) (omega arith) in
      let value : cond (eqb (tail_bit g t) 1) 1 0 ≡ v = bit-number (tail_bit g t) (bit-lt g t) ∙ sym (field-one g t) ∙ e in
      ap (λ a. within side (and_then a as_number)) (bit-taken g (at h t) size inside) ∙ ap (λ (x : ℕ). accepted (x, at h (t + 1))) value

  absent : (t v : ℕ) → field g t 0 ≡ v → ◌≡◌ {A = Answer (ℕ × Cursor)} (accepted (0, at h t)) (accepted (v, at h (t + 0)))
  absent t v e = let z : 0 ≡ v = sym (field-none g t) ∙ e in rw (add-zero t, z) refl

  flag-if : (b : Bool) (t v : ℕ) → t ≤ most → field g t (if_there b 1) ≡ v →
      if_present b side_flag g (at h t) ≡ accepted (v, at h (t + if_there b 1))
  flag-if true t v l e = flag-step t v l e
  flag-if false t v l e = absent t v e

  field-if : (b : Bool) (n t v : ℕ) → listed n ≡ true → t ≤ most → field g t (if_there b n) ≡ v →
      if_present b (side_field n) g (at h t) ≡ accepted (v, at h (t + if_there b n))
  field-if true n t v ok l e = field_step n t v ok l e
  field-if false n t v ok l e = absent t v e

  joint-reads : (msb t j : ℕ) → msb ≤ 1 → field g t (joint_bits msb) ≡ j → (msb ≡ 0 → j < 33460056) → (msb ≡ 1 → j < 16708096) → t ≤ most →
      read_joint msb g (at h t) ≡ accepted (j, at h (t + (joint_bits msb)))
  joint-reads zero t j m e p q l = rw (field_step 25 t j refl l e, lt-leb 33460056 j (p refl)) refl
  joint-reads (suc zero) t j m e p q l = rw (field_step 24 t j refl l e, lt-leb 16708096 j (q refl)) refl
  joint-reads (suc (suc msb)) t j m e p q l = absurd (omega arith)

  -- a field that is there if its width is not 0
  field-some : (n t v : ℕ) → n ≤ 9 → t ≤ most → field g t n ≡ v →
      if_present (ltb 0 n) (side_field n) g (at h t) ≡ accepted (v, at h (t + n))
  field-some zero t v m l e = absent t v e
  field-some (suc n) t v m l e = rw (lt-ltb 0 (suc n) (omega arith)) (field_step (suc n) t v (listed-low (suc n) (omega arith) m) l e)

  -- "bandwidth 0,1,2,2,3 bits by fs_ind", "ceil(log2(ne/2)) bits"
  bandwidth-reads : (fs t b : ℕ) → fs ≤ 4 → b ≤ fs → field g t (bandwidth_bits fs) ≡ b → t ≤ most →
      read_bandwidth fs g (at h t) ≡ accepted (b, at h (t + bandwidth_bits fs))
  bandwidth-reads fs t b f low e l =
      let w = bandwidth-most fs f in
      rw (field-some (bandwidth_bits fs) t b (omega arith) l e, le-ltb fs b low) refl

  lastnz-reads : (lines t v n : ℕ) → 60 ≤ lines → lines ≤ 400 → 2 * (v + 1) ≡ n → n ≤ lines →
      field g t (lastnz_bits lines) ≡ v → t ≤ most →
      read_lastnz lines g (at h t) ≡ accepted (n, at h (t + lastnz_bits lines))
  lastnz-reads lines t v n least largest twice low e l =
      let w = lastnz-range lines least largest in
      rw (field_step (lastnz_bits lines) t v (listed-low (lastnz_bits lines) (omega arith) (omega arith)) l e, twice, le-ltb lines n low) refl

-- fields known by their places
place : (k : ℕ) {xs ys : List Field} → xs ≡ ys → value (field_at xs k) ≡ value (field_at ys k)
place k e = ap (λ l. value (field_at l k)) e

-- what a frame holds in the layout's places is what is read
module _ (s : SideInfo) (fs lines : ℕ) (f : fs ≤ 4) (least : 60 ≤ lines) (largest : lines ≤ 400) (ok : SideLimits fs lines s) where
  pub fields_read : (g : List ℕ) (h t : ℕ) → length g ≤ 65535 → h + 4 + (t + 74) / 8 ≤ length g →
      fields_at g t (side_fields fs lines s) ≡ side_fields fs lines s →
      read_all fs lines g (at h t) ≡ accepted (s, at h (t + side_length fs lines s))
  unfolding fields_at length_of
  fields_read g h t size room is =
      let n = s.sns in
      let msb = n.msb in
      let stage = (sns-limits n ok.stages).stage in
      let sum = (length-range fs lines s f least largest).1 in
      let both = shape-sum msb in
      let v = s.lastnz / 2 - 1 in
      let twice : 2 * (v + 1) ≡ s.lastnz = omega (arith, ok.even, ok.two) in
      let second = leb 3 s.bandwidth in
      let pitched = eqb s.pitch 1 in
      let t1 = t + bandwidth_bits fs in
      let t4 = t1 + lastnz_bits lines + 1 + 8 in
      let t7 = t4 + 1 + if_there second 1 + 1 in
      let t10 = t7 + 5 + 5 + 1 in
      let t13 = t10 + part_bits msb + 1 + joint_bits msb in
      let t15 = t13 + if_there pitched 1 + if_there pitched 9 in
      let end : t15 + 3 ≡ t + side_length fs lines s = omega arith in
      rw (bandwidth-reads g h (t + 74) size room fs t s.bandwidth f ok.band (place 0 is) (omega arith))
      (rw (lastnz-reads g h (t + 74) size room lines t1 v s.lastnz least largest twice ok.last (place 1 is) (omega arith))
      (rw (flag-step g h (t + 74) size room (t1 + lastnz_bits lines) s.lsb (omega arith) (place 2 is))
      (rw (field_step g h (t + 74) size room 8 (t1 + lastnz_bits lines + 1) s.gain refl (omega arith) (place 3 is))
      (rw (flag-step g h (t + 74) size room t4 s.tns_first (omega arith) (place 4 is))
      (rw (flag-if g h (t + 74) size room second (t4 + 1) s.tns_second (omega arith) (place 5 is))
      (rw (flag-step g h (t + 74) size room (t4 + 1 + if_there second 1) s.pitch (omega arith) (place 6 is))
      (rw (field_step g h (t + 74) size room 5 t7 n.lf refl (omega arith) (place 7 is))
      (rw (field_step g h (t + 74) size room 5 (t7 + 5) n.hf refl (omega arith) (place 8 is))
      (rw (flag-step g h (t + 74) size room (t7 + 5 + 5) msb (omega arith) (place 9 is))
      (rw (field_step g h (t + 74) size room (part_bits msb) t10 (part_of n) (part-listed msb) (omega arith) (place 10 is))
      (rw (flag-step g h (t + 74) size room (t10 + part_bits msb) n.ls_inda (omega arith) (place 11 is))
      (rw (joint-reads g h (t + 74) size room msb (t10 + part_bits msb + 1) (joint_of n) stage (place 12 is) (joint-low-25 n ok.stages) (joint-low-24 n ok.stages) (omega arith))
      (rw (flag-if g h (t + 74) size room pitched t13 s.active (omega arith) (place 13 is))
      (rw (field-if g h (t + 74) size room pitched 9 (t13 + if_there pitched 1) s.index refl (omega arith) (place 14 is))
      (rw (field_step g h (t + 74) size room 3 t15 s.noise refl (omega arith) (place 15 is))
      (rw (joint-back n ok.stages, end) refl))))))))))))))))

-- values below 2 to their widths are not cut
cut-none : cut_all [] ≡ []
unfolding cut_all
cut-none = refl

cut-one : (x : Field) (xs : List Field) → value x < 2 ^ width x → cut_all xs ≡ xs → cut_all (x ∷ xs) ≡ x ∷ xs
unfolding cut_all
cut-one x xs l e = ap₂ (λ (n : ℕ) (l : List Field). (width x, n) ∷ l) (mod-eq_of_lt l) e

-- a value within what its width holds
bandwidth-fits : (fs b : ℕ) → fs ≤ 4 → b ≤ fs → b < 2 ^ bandwidth_bits fs
bandwidth-fits zero b f l = omega arith
bandwidth-fits (suc zero) b f l = omega arith
bandwidth-fits (suc (suc zero)) b f l = omega arith
bandwidth-fits (suc (suc (suc zero))) b f l = omega arith
bandwidth-fits (suc (suc (suc (suc zero)))) b f l = omega arith
bandwidth-fits (suc (suc (suc (suc (suc fs))))) b f l = absurd (omega arith)

lastnz-fits : (lines : ℕ) → 60 ≤ lines → lines ≤ 400 → lines / 2 ≤ 2 ^ lastnz_bits lines
lastnz-fits lines least largest = go (dec_le (lines / 2) 32) (dec_le (lines / 2) 64) (dec_le (lines / 2) 128)
  where
    go : Dec (lines / 2 ≤ 32) → Dec (lines / 2 ≤ 64) → Dec (lines / 2 ≤ 128) → lines / 2 ≤ 2 ^ lastnz_bits lines
    go (yes h) p q = rw (lastnz-five lines least h) h
    go (no h) (yes p) q = rw (lastnz-six lines least (omega (arith, h)) p) p
    go (no h) (no p) (yes q) = rw (lastnz-seven lines least (omega (arith, p)) q) q
    go (no h) (no p) (no q) = rw (lastnz-eight lines least (omega (arith, q)) (omega arith)) (omega arith)

one-fits : (b : Bool) (v : ℕ) → v ≤ if_there b 1 → v < 2 ^ if_there b 1
one-fits true v l = omega arith
one-fits false v l = omega arith

index-fits : (b : Bool) (v : ℕ) → v ≤ if_there b 511 → v < 2 ^ if_there b 9
index-fits true v l = omega arith
index-fits false v l = omega arith

-- the values of a record that passes are not cut
module _ (s : SideInfo) (fs lines : ℕ) (f : fs ≤ 4) (least : 60 ≤ lines) (largest : lines ≤ 400) (ok : SideLimits fs lines s) where
  pub values-fit : cut_all (side_fields fs lines s) ≡ side_fields fs lines s
  values-fit =
      let n = sns-limits s.sns ok.stages in
      let last : s.lastnz / 2 - 1 < 2 ^ lastnz_bits lines = omega (arith, lastnz-fits lines least largest, ok.two, ok.last) in
      cut-one _ _ (bandwidth-fits fs s.bandwidth f ok.band)
      (cut-one _ _ last
      (cut-one _ _ (omega (arith, ok.bit))
      (cut-one _ _ (omega (arith, ok.level))
      (cut-one _ _ (omega (arith, ok.first))
      (cut-one _ _ (one-fits (leb 3 s.bandwidth) s.tns_second ok.second)
      (cut-one _ _ (omega (arith, ok.filter))
      (cut-one _ _ (omega (arith, n.low))
      (cut-one _ _ (omega (arith, n.high))
      (cut-one _ _ (omega (arith, n.stage))
      (cut-one _ _ (part-fits s.sns ok.stages)
      (cut-one _ _ (omega (arith, n.sign_a))
      (cut-one _ _ (joint-fits s.sns ok.stages)
      (cut-one _ _ (one-fits (eqb s.pitch 1) s.active ok.on-off)
      (cut-one _ _ (index-fits (eqb s.pitch 1) s.index ok.place)
      (cut-one _ _ (omega (arith, ok.noises)) cut-none)))))))))))))))

-- laid into a frame and read back
pub read_back : (k : Configuration) (s : SideInfo) (f : List ℕ) (c : Cursor) {lines : ℕ} →
    frame_lines k (length f) ≡ accepted lines →
    side_passes k.fs_ind lines s ≡ true →
    c.head + 4 + (c.tail + 74) / 8 ≤ length f →
    read_side k (put_fields f c.tail (side_fields k.fs_ind lines s)) c ≡
    accepted (s, record { head = c.head; tail = c.tail + side_length k.fs_ind lines s })
read_back k s f c {lines} sized passes room =
    let fs = k.fs_ind in
    let xs = side_fields fs lines s in
    let (low, least, most, _, short) = frame-ranges k (length f) sized in
    let ok = side-limits fs lines s passes in
    let g = put_fields f c.tail xs in
    let long : length g ≡ length f = put-fields-length f c.tail xs in
    let sum = length-range fs lines s low least most in
    let is : fields_at g c.tail xs ≡ xs = put-fields-same f c.tail xs (omega arith) ∙ values-fit s fs lines low least most ok in
    read-on k g c (ap (frame_lines k) long ∙ sized) ∙ fields_read s fs lines low least most ok g c.head c.tail (omega arith) (omega arith) is

-- a whole frame, from its start
pub start-reads-back : (k : Configuration) (s : SideInfo) (f : List ℕ) {lines : ℕ} →
    frame_lines k (length f) ≡ accepted lines →
    side_passes k.fs_ind lines s ≡ true →
    read_side k (put_fields f 0 (side_fields k.fs_ind lines s)) (record { head = 0; tail = 0 }) ≡
    accepted (s, record { head = 0; tail = side_length k.fs_ind lines s })
start-reads-back k s f {lines} sized passes =
    let (_, _, _, size, _) = frame-ranges k (length f) sized in
    read_back k s f (record { head = 0; tail = 0 }) sized passes (omega arith) ∙
    ap (λ (x : ℕ). accepted (s, record { head = 0; tail = x })) (zero-add (side_length k.fs_ind lines s))
