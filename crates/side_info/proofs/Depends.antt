-- The side information read depends on its own bits alone: an alteration of the frame elsewhere leaves it as it was, by the laws
-- of readings along the reader's chain. Assumes nothing.
use Prim.Native.Nat.{ℕ, ◌+◌, ◌*◌}
use mathlib.Core.Path.{◌≡◌, sym, ap, ◌∙◌}
use mathlib.Core.List.{List}
use lib.Dec.{leb, ltb, eqb}
use lib.ListN.{length}
use Rattle.common.specs.Reply.{side, accepted, bandwidth_too_large, lastnz_too_large, joint_too_large25, joint_too_large24}
use Rattle.common.specs.Configuration.{frame_lines}
use Rattle.common.specs.declared.configuration.Configuration.{Configuration}
use Rattle.common.proofs.Replies.{then-split}
use Rattle.buffer_reader.specs.Tail.{Agree}
use Rattle.buffer_reader.specs.Steps.{found, refusing, if_present}
use Rattle.buffer_reader.specs.declared.Cursor.{Cursor}
use Rattle.buffer_reader.proofs.Steps.{Local, local-found, local-next, local-refusing, local-if, local-present, local-field, local-flag}
use Rattle.side_info.specs.Reader.{side_field, side_flag, bandwidth_bits, part_bits, joint_bits, read_bandwidth, lastnz_bits, read_lastnz, read_joint, read_all, read_side}
use Rattle.side_info.specs.declared.SideInfo.{SideInfo}
use Rattle.side_info.proofs.Answers.{read-on}

bandwidth-local : (fs : ℕ) → Local (read_bandwidth fs)
bandwidth-local fs =
    local-next (if_present (ltb 0 (bandwidth_bits fs)) (side_field (bandwidth_bits fs))) _
    (local-present (ltb 0 (bandwidth_bits fs)) (side_field (bandwidth_bits fs)) (local-field side (bandwidth_bits fs)))
    (λ b. local-refusing (ltb fs b) (bandwidth_too_large b) (found b) (local-found b))

lastnz-local : (ne : ℕ) → Local (read_lastnz ne)
lastnz-local ne =
    local-next (side_field (lastnz_bits ne)) _ (local-field side (lastnz_bits ne))
    (λ v. local-refusing (ltb ne (2 * (v + 1))) (lastnz_too_large (2 * (v + 1)) ne) (found (2 * (v + 1))) (local-found (2 * (v + 1))))

joint-local : (msb : ℕ) → Local (read_joint msb)
joint-local msb =
    local-next (side_field (joint_bits msb)) _ (local-field side (joint_bits msb))
    (λ j. local-if (eqb msb 0) (refusing (leb 33460056 j) (joint_too_large25 j) (found j)) (refusing (leb 16708096 j) (joint_too_large24 j) (found j))
    (local-refusing (leb 33460056 j) (joint_too_large25 j) (found j) (local-found j))
    (local-refusing (leb 16708096 j) (joint_too_large24 j) (found j) (local-found j)))

flag-local : Local side_flag
flag-local = local-flag side

bits-local : (n : ℕ) → Local (side_field n)
bits-local n = local-field side n

pub side-local : (fs ne : ℕ) → Local (read_all fs ne)
side-local fs ne =
    local-next (read_bandwidth fs) _ (bandwidth-local fs)
    (λ bandwidth. local-next (read_lastnz ne) _ (lastnz-local ne)
    (λ lastnz. local-next side_flag _ flag-local
    (λ lsb. local-next (side_field 8) _ (bits-local 8)
    (λ gain. local-next side_flag _ flag-local
    (λ first. local-next (if_present (leb 3 bandwidth) side_flag) _ (local-present (leb 3 bandwidth) side_flag flag-local)
    (λ second. local-next side_flag _ flag-local
    (λ pitch. local-next (side_field 5) _ (bits-local 5)
    (λ lf. local-next (side_field 5) _ (bits-local 5)
    (λ hf. local-next side_flag _ flag-local
    (λ msb. local-next (side_field (part_bits msb)) _ (bits-local (part_bits msb))
    (λ part. local-next side_flag _ flag-local
    (λ ls_inda. local-next (read_joint msb) _ (joint-local msb)
    (λ j. local-next (if_present (eqb pitch 1) side_flag) _ (local-present (eqb pitch 1) side_flag flag-local)
    (λ active. local-next (if_present (eqb pitch 1) (side_field 9)) _ (local-present (eqb pitch 1) (side_field 9) (bits-local 9))
    (λ index. local-next (side_field 3) _ (bits-local 3)
    (λ noise. local-found _))))))))))))))))

pub side-depends : (k : Configuration) (f g : List ℕ) (c : Cursor) (s : SideInfo) (d : Cursor) → length f ≡ length g → read_side k f c ≡ accepted (s, d) → Agree f g c.tail d.tail → read_side k g c ≡ accepted (s, d)
side-depends k f g c s d l e h =
    let a = then-split (frame_lines k (length f)) (λ n. read_all k.fs_ind n f c) e in
    read-on k g c (ap (frame_lines k) (sym l) ∙ a.1) ∙ (side-local k.fs_ind a.0).own f g c s d l a.2 h
