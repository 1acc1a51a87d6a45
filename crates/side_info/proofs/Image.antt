-- Whatever the side information's reader returns passes the record's test, refusal 13: each field is below its limit where it is
-- read, and the second stage out of J is within its shape's limits. Assumes nothing.
use Prim.Native.Nat.{ℕ, zero, suc, ◌+◌, ◌*◌, ◌/◌, ◌%◌, ◌≤◌, ◌<◌, ◌^◌}
use mathlib.Core.Path.{◌≡◌, refl}
use mathlib.Core.Bool.{Bool, true, false, cond}
use mathlib.Core.List.{List}
use native.Mathlib.Omega.{arith}
use borrow.Author.Tests.{ltb-true, ltb-false}
use lib.Dec.{leb, ltb, eqb}
use lib.ListN.{length}
use Rattle.common.specs.Reply.{Answer, accepted, refused, side, and_then, bandwidth_too_large, lastnz_too_large}
use Rattle.common.specs.Configuration.{ne, frame_lines}
use Rattle.common.specs.declared.configuration.Configuration.{Configuration}
use Rattle.common.proofs.Configurations.{frame-known}
use Rattle.common.proofs.Replies.{then-split}
use Rattle.buffer_reader.specs.Steps.{Reading, if_present}
use Rattle.buffer_reader.specs.declared.Cursor.{Cursor}
use Rattle.buffer_reader.proofs.Steps.{Holds, holds_at, holds_then, field-holds, flag-holds}
use Rattle.side_info.specs.Joint.{sns_of25, sns_of24, sns_of}
use Rattle.side_info.specs.Record.{if_there, sns_passes, side_passes}
use Rattle.side_info.specs.Reader.{side_field, side_flag, bandwidth_bits, part_bits, read_bandwidth, lastnz_bits, read_lastnz, read_joint, read_all, read_side}
use Rattle.side_info.specs.declared.Sns.{Sns}
use Rattle.side_info.specs.declared.SideInfo.{SideInfo}
use Rattle.side_info.proofs.Values.{Below, holds_after, holds-checked, joint_limit, joint-holds}
use Rattle.side_info.proofs.Joints.{SnsLimits, limits-sns}
use Rattle.side_info.proofs.SideLimits.{limits-pass}

-- a value is at most a limit
abbrev Within : ℕ → ℕ × Cursor → Type 0
Within most r = r.0 ≤ most

at_most : (n : ℕ) {x : ℕ} → x < suc n → x ≤ n
at_most n h = omega arith

-- "<" a limit is "≤" the most
most-of : (most : ℕ) (a : Answer (ℕ × Cursor)) → Holds (Below (suc most)) a → Holds (Within most) a
most-of most (accepted r) h = omega arith
most-of most (refused r) h = tt

-- a field that may be absent is within its limit, and 0 if it is absent
present-holds : (t : Bool) (most : ℕ) (s : Reading ℕ) (f : List ℕ) (c : Cursor) → Holds (Below (suc most)) (s f c) → Holds (Within (if_there t most)) (if_present t s f c)
present-holds true most s f c h = most-of most (s f c) h
present-holds false most s f c h = omega arith

-- one of two second stages, by a test
fits-either : (t : Bool) (x y : Sns) → (t ≡ true → SnsLimits x) → (t ≡ false → SnsLimits y) → SnsLimits (cond t x y)
fits-either true x y p q = p refl
fits-either false x y p q = q refl

module _ (lf hf part ls_inda : ℕ) (l : lf < 32) (h : hf < 32) (a : ls_inda < 2) where
  -- J of 25 bits, by its quotient and remainder: below 2 the quotient is a part of the gain, else it holds idx_b and ls_indb
  fits-25 : (q rest : ℕ) → part < 2 → q < 14 → rest < 2390004 → SnsLimits (sns_of25 lf hf part ls_inda q rest)
  fits-25 q rest p m n = fits-either (ltb q 2) _ _ (λ e. let below : q < 2 = ltb-true q 2 e in omega arith) (λ e. omega arith)

  -- J of 24 bits: from 15158272 on its last bit is a part of the gain
  fits-24 : (j : ℕ) → part < 4 → j < 16708096 → SnsLimits (sns_of24 lf hf part ls_inda j)
  fits-24 j p m =
      fits-either (ltb j 15158272) _ _ (λ e. let below : j < 15158272 = ltb-true j 15158272 e in omega arith) (λ e. omega arith)

-- whatever is read of a second stage, with J below its limit, passes
stage-passes : (lf hf msb part ls_inda j : ℕ) → lf < 32 → hf < 32 → msb < 2 → part < 2 ^ part_bits msb → ls_inda < 2 → j < joint_limit msb → sns_passes (sns_of lf hf msb part ls_inda j) ≡ true
stage-passes lf hf zero part ls_inda j l h m p a limit =
    limits-sns (sns_of lf hf 0 part ls_inda j) (fits-25 lf hf part ls_inda l h a (j / 2390004) (j % 2390004) p (omega arith) (omega arith))
stage-passes lf hf (suc zero) part ls_inda j l h m p a limit =
    limits-sns (sns_of lf hf 1 part ls_inda j) (fits-24 lf hf part ls_inda l h a j p limit)
stage-passes lf hf (suc (suc n)) part ls_inda j l h m p a limit = absurd (omega arith)

bandwidth-holds : (fs : ℕ) (f : List ℕ) (c : Cursor) → Holds (Within fs) (read_bandwidth fs f c)
bandwidth-holds fs f c =
    holds_after (Within fs) (if_present (ltb 0 (bandwidth_bits fs)) (side_field (bandwidth_bits fs)) f c) _
    (λ r. holds-checked (Within fs) (ltb fs r.0) (bandwidth_too_large r.0) (accepted r) (λ e. ltb-false fs r.0 e))

-- twice a number from 1 on, and at most the lines
record LastnzFits (ne lastnz : ℕ) : Type 0 where
  even : lastnz % 2 ≡ 0
  least : 2 ≤ lastnz
  most : lastnz ≤ ne

lastnz-holds : (ne : ℕ) (f : List ℕ) (c : Cursor) → Holds (λ r. LastnzFits ne r.0) (read_lastnz ne f c)
lastnz-holds ne f c =
    holds_after (λ r. LastnzFits ne r.0) (side_field (lastnz_bits ne) f c) _
    (λ r. holds-checked (λ x. LastnzFits ne x.0) (ltb ne (2 * (r.0 + 1))) (lastnz_too_large (2 * (r.0 + 1)) ne) (accepted (2 * (r.0 + 1), r.1))
    (λ e. record { even = omega arith; least = omega arith; most = ltb-false ne (2 * (r.0 + 1)) e }))

-- what is shown of every record that is returned
abbrev Passes : ℕ → ℕ → SideInfo × Cursor → Type 0
Passes fs ne r = side_passes fs ne r.0 ≡ true

module _ (fs ne : ℕ) (f : List ℕ) where
  -- a flag, a field, and either where it may be absent, then the rest
  flag : (c : Cursor) (k : ℕ × Cursor → Answer (SideInfo × Cursor)) → ((x : ℕ × Cursor) → x.0 < 2 → Holds (Passes fs ne) (k x)) → Holds (Passes fs ne) (and_then (side_flag f c) k)
  flag c k rest = holds_then (Passes fs ne) (Below 2) (side_flag f c) k (flag-holds side f c) rest

  bits : (n : ℕ) (c : Cursor) (k : ℕ × Cursor → Answer (SideInfo × Cursor)) → ((x : ℕ × Cursor) → x.0 < 2 ^ n → Holds (Passes fs ne) (k x)) → Holds (Passes fs ne) (and_then (side_field n f c) k)
  bits n c k rest = holds_then (Passes fs ne) (Below (2 ^ n)) (side_field n f c) k (field-holds side n f c) rest

  maybe : (t : Bool) (most : ℕ) (s : Reading ℕ) (c : Cursor) (k : ℕ × Cursor → Answer (SideInfo × Cursor)) → Holds (Below (suc most)) (s f c) → ((x : ℕ × Cursor) → x.0 ≤ if_there t most → Holds (Passes fs ne) (k x)) → Holds (Passes fs ne) (and_then (if_present t s f c) k)
  maybe t most s c k h rest =
      holds_then (Passes fs ne) (Within (if_there t most)) (if_present t s f c) k (present-holds t most s f c h) rest

  all-holds : (c : Cursor) → Holds (Passes fs ne) (read_all fs ne f c)
  all-holds c =
      holds_then (Passes fs ne) (Within fs) (read_bandwidth fs f c) _ (bandwidth-holds fs f c)
      (λ bandwidth band. holds_then (Passes fs ne) (λ r. LastnzFits ne r.0) (read_lastnz ne f bandwidth.1) _ (lastnz-holds ne f bandwidth.1)
      (λ lastnz last. flag lastnz.1 _
      (λ lsb bit. bits 8 lsb.1 _
      (λ gain level. flag gain.1 _
      (λ first one. maybe (leb 3 bandwidth.0) 1 side_flag first.1 _ (flag-holds side f first.1)
      (λ second two. flag second.1 _
      (λ pitch filter. bits 5 pitch.1 _
      (λ lf low. bits 5 lf.1 _
      (λ hf high. flag hf.1 _
      (λ msb stage. bits (part_bits msb.0) msb.1 _
      (λ part gains. flag part.1 _
      (λ ls_inda sign. holds_then (Passes fs ne) (Below (joint_limit msb.0)) (read_joint msb.0 f ls_inda.1) _ (joint-holds msb.0 f ls_inda.1)
      (λ j limit. maybe (eqb pitch.0 1) 1 side_flag j.1 _ (flag-holds side f j.1)
      (λ active on-off. maybe (eqb pitch.0 1) 511 (side_field 9) active.1 _ (field-holds side 9 f active.1)
      (λ index place. bits 3 index.1 _
      (λ noise noises. limits-pass fs ne
      (record {
        bandwidth = bandwidth.0;
        lastnz = lastnz.0;
        lsb = lsb.0;
        gain = gain.0;
        tns_first = first.0;
        tns_second = second.0;
        pitch = pitch.0;
        sns = sns_of lf.0 hf.0 msb.0 part.0 ls_inda.0 j.0;
        active = active.0;
        index = index.0;
        noise = noise.0;
      })
      (record {
        band = band;
        even = last.even;
        two = last.least;
        last = last.most;
        bit = at_most 1 bit;
        level = at_most 255 level;
        first = at_most 1 one;
        second = two;
        filter = at_most 1 filter;
        stages = stage-passes lf.0 hf.0 msb.0 part.0 ls_inda.0 j.0 low high stage gains sign limit;
        on-off = on-off;
        place = place;
        noises = at_most 7 noises;
      })))))))))))))))))

pub image-passes : (k : Configuration) (f : List ℕ) (c : Cursor) (s : SideInfo) (d : Cursor) → read_side k f c ≡ accepted (s, d) → side_passes k.fs_ind (ne k.duration k.fs_ind) s ≡ true
image-passes k f c s d e =
    let fs = k.fs_ind in
    let a = then-split (frame_lines k (length f)) (λ n. read_all fs n f c) e in
    let same = (frame-known k (length f) a.1).2 in
    rw (← same) (holds_at (Passes fs a.0) (read_all fs a.0 f c) (all-holds fs a.0 f c) a.2)
