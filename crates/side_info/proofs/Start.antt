-- Where a frame has room for 74 bits and four bytes, as every whole frame has from its start, the side information is never cut
-- short: each field is found, so only checks of the reader's own refuse, by a number up to 8 and in no step. Assumes nothing.
use Prim.Native.Nat.{ℕ, ◌+◌, ◌*◌, ◌/◌, ◌≤◌}
use mathlib.Core.Path.{◌≡◌, refl}
use mathlib.Core.Bool.{Bool, true, false}
use mathlib.Core.List.{List}
use native.Mathlib.Omega.{arith}
use borrow.Author.Tests.{ltb-true}
use lib.Dec.{leb, ltb, eqb}
use lib.ListN.{length}
use Rattle.common.specs.Reply.{Reply, accepted, refused, nowhere, side, bandwidth_too_large, lastnz_too_large, joint_too_large25, joint_too_large24}
use Rattle.common.specs.Configuration.{configuration_passes, length_passes, frame_lines}
use Rattle.common.specs.declared.configuration.Configuration.{Configuration}
use Rattle.common.proofs.Configurations.{frame-passed, frame-ranges}
use Rattle.buffer_reader.specs.Reads.{listed}
use Rattle.buffer_reader.specs.Steps.{found, if_present}
use Rattle.buffer_reader.specs.declared.Cursor.{Cursor}
use Rattle.buffer_reader.proofs.Rooms.{listed-low}
use Rattle.buffer_reader.proofs.Roomy.{Room, Ahead, Ends, ends-refused, ends-accepted, ends-then, Roomy, roomy-more, roomy-found, roomy-next, roomy-refusing, roomy-if, roomy-present, roomy-field, roomy-flag}
use Rattle.side_info.specs.Reader.{side_field, side_flag, bandwidth_bits, part_bits, joint_bits, read_bandwidth, lastnz_bits, read_lastnz, read_joint, read_all, read_side}
use Rattle.side_info.proofs.Widths.{lastnz-range, part-listed, joint-listed}
use Rattle.side_info.proofs.Lengths.{bandwidth-most, shape-sum}

-- a refusal by a check of the side information's own: a number from 1 up to 8, in no step
pub record Own (r : Reply) : Type 0 where
  pub some : 1 ≤ r.number
  pub low : r.number ≤ 8
  pub place : r.step ≡ nowhere

flag-roomy : Roomy Own 1 side_flag
flag-roomy = roomy-flag Own side

bits-roomy : (n : ℕ) → listed n ≡ true → Roomy Own n (side_field n)
bits-roomy n ok = roomy-field Own side n ok

-- at most 3 bits: none is read where the width is 0
bandwidth-roomy : (fs : ℕ) → fs ≤ 4 → Roomy Own 3 (read_bandwidth fs)
bandwidth-roomy fs h =
    let most = bandwidth-most fs h in
    roomy-next Own 3 0 (if_present (ltb 0 (bandwidth_bits fs)) (side_field (bandwidth_bits fs))) _
    (roomy-present Own (ltb 0 (bandwidth_bits fs)) 3 (side_field (bandwidth_bits fs))
    (λ e. roomy-more Own (bandwidth_bits fs) 3 (side_field (bandwidth_bits fs)) most
    (bits-roomy (bandwidth_bits fs) (listed-low (bandwidth_bits fs) (ltb-true 0 (bandwidth_bits fs) e) (omega arith)))))
    (λ b. roomy-refusing Own (ltb fs b) (bandwidth_too_large b) 0 (found b) (record { some = omega arith; low = omega arith; place = refl }) (roomy-found Own b))

lastnz-roomy : (ne : ℕ) → 60 ≤ ne → ne ≤ 400 → Roomy Own 8 (read_lastnz ne)
lastnz-roomy ne l m =
    let w = lastnz-range ne l m in
    roomy-next Own 8 0 (side_field (lastnz_bits ne)) _
    (roomy-more Own (lastnz_bits ne) 8 (side_field (lastnz_bits ne)) w.1
    (bits-roomy (lastnz_bits ne) (listed-low (lastnz_bits ne) (omega arith) (omega arith))))
    (λ v. roomy-refusing Own (ltb ne (2 * (v + 1))) (lastnz_too_large (2 * (v + 1)) ne) 0 (found (2 * (v + 1)))
    (record { some = omega arith; low = omega arith; place = refl })
    (roomy-found Own (2 * (v + 1))))

joint-roomy : (msb : ℕ) → Roomy Own (joint_bits msb) (read_joint msb)
joint-roomy msb =
    roomy-more Own (joint_bits msb + 0) (joint_bits msb) (read_joint msb) (omega arith)
    (roomy-next Own (joint_bits msb) 0 (side_field (joint_bits msb)) _ (bits-roomy (joint_bits msb) (joint-listed msb))
    (λ j. roomy-if Own (eqb msb 0) 0 _ _
    (roomy-refusing Own (leb 33460056 j) (joint_too_large25 j) 0 (found j) (record { some = omega arith; low = omega arith; place = refl }) (roomy-found Own j))
    (roomy-refusing Own (leb 16708096 j) (joint_too_large24 j) 0 (found j) (record { some = omega arith; low = omega arith; place = refl }) (roomy-found Own j))))

-- 3 bits of bandwidth, 8 of lastnz, 63 of the rest at most: the gain's part and J have 26 together, whichever msb is
pub side-roomy : (fs ne : ℕ) → fs ≤ 4 → 60 ≤ ne → ne ≤ 400 → Roomy Own 74 (read_all fs ne)
side-roomy fs ne h l m =
    roomy-next Own 3 71 (read_bandwidth fs) _ (bandwidth-roomy fs h)
    (λ bandwidth. roomy-next Own 8 63 (read_lastnz ne) _ (lastnz-roomy ne l m)
    (λ lastnz. roomy-next Own 1 62 side_flag _ flag-roomy
    (λ lsb. roomy-next Own 8 54 (side_field 8) _ (bits-roomy 8 refl)
    (λ gain. roomy-next Own 1 53 side_flag _ flag-roomy
    (λ first. roomy-next Own 1 52 (if_present (leb 3 bandwidth) side_flag) _ (roomy-present Own (leb 3 bandwidth) 1 side_flag (λ e. flag-roomy))
    (λ second. roomy-next Own 1 51 side_flag _ flag-roomy
    (λ pitch. roomy-next Own 5 46 (side_field 5) _ (bits-roomy 5 refl)
    (λ lf. roomy-next Own 5 41 (side_field 5) _ (bits-roomy 5 refl)
    (λ hf. roomy-next Own 1 40 side_flag _ flag-roomy
    (λ msb. roomy-more Own (part_bits msb + (1 + (joint_bits msb + 13))) 40 _ (let sum = shape-sum msb in omega arith)
    (roomy-next Own (part_bits msb) (1 + (joint_bits msb + 13)) (side_field (part_bits msb)) _ (bits-roomy (part_bits msb) (part-listed msb))
    (λ part. roomy-next Own 1 (joint_bits msb + 13) side_flag _ flag-roomy
    (λ ls_inda. roomy-next Own (joint_bits msb) 13 (read_joint msb) _ (joint-roomy msb)
    (λ j. roomy-next Own 1 12 (if_present (eqb pitch 1) side_flag) _ (roomy-present Own (eqb pitch 1) 1 side_flag (λ e. flag-roomy))
    (λ active. roomy-next Own 9 3 (if_present (eqb pitch 1) (side_field 9)) _ (roomy-present Own (eqb pitch 1) 9 (side_field 9) (λ e. bits-roomy 9 refl))
    (λ index. roomy-next Own 3 0 (side_field 3) _ (bits-roomy 3 refl)
    (λ noise. roomy-found Own _)))))))))))))))))

module _ (k : Configuration) (f : List ℕ) where
  -- refusals 1 and 2 are its own too
  lines_end : Ends Own (λ n. frame_lines k (length f) ≡ accepted n) (frame_lines k (length f))
  lines_end = by (configuration_passes k) (length_passes (length f)) refl refl
    where
      by : (p q : Bool) → configuration_passes k ≡ p → length_passes (length f) ≡ q → Ends Own (λ n. frame_lines k (length f) ≡ accepted n) (frame_lines k (length f))
      by false q e l = rw e (record { some = omega arith; low = omega arith; place = refl })
      by true false e l = rw (e, l) (record { some = omega arith; low = omega arith; place = refl })
      by true true e l = let whole = frame-passed k (length f) e l in ends-accepted Own (λ n. frame_lines k (length f) ≡ accepted n) (frame_lines k (length f)) whole whole

  pub lines-refusal : {r : Reply} → frame_lines k (length f) ≡ refused r → Own r
  lines-refusal e = ends-refused Own (λ n. frame_lines k (length f) ≡ accepted n) (frame_lines k (length f)) lines_end e

  -- the room is asked for only behind the check of the frame's length
  side-ends : (c : Cursor) → (20 ≤ length f → Room f c 74) → Ends Own (λ r. Ahead c 74 r.1) (read_side k f c)
  side-ends c room =
      ends-then Own (λ r. Ahead c 74 r.1) (λ n. frame_lines k (length f) ≡ accepted n) (frame_lines k (length f)) _ lines_end
      (λ n e h. let (low, least, most, size, short) = frame-ranges k (length f) e in
      (side-roomy k.fs_ind n low least most).ends f c (omega arith) (room size))

  -- a refusal by a check of the side information's own: a number up to 8, in no step
  pub room-refusal : (c : Cursor) (r : Reply) → c.head + 4 + (c.tail + 74) / 8 ≤ length f → read_side k f c ≡ refused r → (r.number ≤ 8) × (r.step ≡ nowhere)
  room-refusal c r room e =
      let own = ends-refused Own (λ x. Ahead c 74 x.1) (read_side k f c) (side-ends c (λ least. room)) e in (own.low, own.place)

  pub room-never-short : (c : Cursor) (r : Reply) → c.head + 4 + (c.tail + 74) / 8 ≤ length f → read_side k f c ≡ refused r → r.number ≡ 9 → ⊥
  room-never-short c r room e nine = let own = room-refusal c r room e in omega arith

  pub start-refusal : (r : Reply) → read_side k f (record { head = 0; tail = 0 }) ≡ refused r → (r.number ≤ 8) × (r.step ≡ nowhere)
  start-refusal r e =
      let first : Cursor = record { head = 0; tail = 0 } in
      let own = ends-refused Own (λ x. Ahead first 74 x.1) (read_side k f first) (side-ends first (λ least. omega arith)) e in
      (own.low, own.place)

  pub start-never-short : (r : Reply) → read_side k f (record { head = 0; tail = 0 }) ≡ refused r → r.number ≡ 9 → ⊥
  start-never-short r e nine = let own = start-refusal r e in omega arith
