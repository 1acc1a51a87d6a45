-- Document 01, "Side information, in order from the tail": what is read, field after field.
use Rattle.std.specs.Prelude.{ℕ, zero, suc, ◌+◌, ◌*◌, ◌/◌, ◌^◌, cond, [], ◌∷◌, leb, ltb, eqb, length, get_or}
use Rattle.common.specs.Reply.{side, Reply, and_then, in_step, outside_limits, bandwidth_too_large, lastnz_too_large, joint_too_large25, joint_too_large24}
use Rattle.common.specs.Configuration.{frame_lines}
use Rattle.common.specs.declared.configuration.Configuration.{Configuration}
use Rattle.buffer_reader.specs.Reads
use Rattle.buffer_reader.specs.Steps.{Reading, found, next as ◌>>=◌, refusing, if_present, field_in, flag_in}
use Rattle.side_info.specs.Joint.{sns_of}
use Rattle.side_info.specs.declared.SideInfo.{SideInfo}
use Rattle.side_info.specs.declared.fields.SideInfoError.{SideInfoError}
use Rattle.side_info.specs.declared.fields.SideInfoError.TheVariants.{OutsideLimits, BandwidthIdxOutOfRange, LastNonZeroTupleGreaterThanYLen, PlcTriggerSns1OutOfRange, PlcTriggerSns2OutOfRange, Buffer}

-- a field and a bit of the side information
abbrev pub side_field : ℕ → Reading ℕ
side_field n = field_in side n

abbrev pub side_flag : Reading ℕ
side_flag = flag_in side

-- "bandwidth 0,1,2,2,3 bits by fs_ind"
abbrev pub bandwidth_bits : ℕ → ℕ
bandwidth_bits fs = get_or (0 ∷ 1 ∷ 2 ∷ 2 ∷ 3 ∷ []) fs 0

-- refused 5 if it is above fs_ind
abbrev pub read_bandwidth : ℕ → Reading ℕ
read_bandwidth fs = do
  bandwidth ← if_present (ltb 0 (bandwidth_bits fs)) (side_field (bandwidth_bits fs))
  refusing (ltb fs bandwidth) (bandwidth_too_large bandwidth) (found bandwidth)

-- the least w from a first one on, of so many, with n at most 2 ^ w
unfoldable pub least_width : ℕ → ℕ → ℕ → ℕ
least_width zero w n = w
least_width (suc k) w n = cond (leb n (2 ^ w)) w (least_width k (w + 1) n)

-- "ceil(log2(ne/2)) bits"
abbrev pub lastnz_bits : ℕ → ℕ
lastnz_bits ne = least_width 9 0 (ne / 2)

-- "lastnz = 2(v+1)", refused 6 if it is above ne
abbrev pub read_lastnz : ℕ → Reading ℕ
read_lastnz ne = do
  v ← side_field (lastnz_bits ne)
  refusing (ltb ne (2 * (v + 1))) (lastnz_too_large (2 * (v + 1)) ne) (found (2 * (v + 1)))

-- "gain part 1 (msb 0) or 2 bits"
abbrev pub part_bits : ℕ → ℕ
part_bits msb = cond (eqb msb 0) 1 2

-- "joint index J of 25 (msb 0) or 24 bits"
abbrev pub joint_bits : ℕ → ℕ
joint_bits msb = cond (eqb msb 0) 25 24

-- refused 7 or 8 from its limit on
abbrev pub read_joint : ℕ → Reading ℕ
read_joint msb = do
  j ← side_field (joint_bits msb)
  cond (eqb msb 0)
      (refusing (leb 33460056 j) (joint_too_large25 j) (found j))
      (refusing (leb 16708096 j) (joint_too_large24 j) (found j))

-- all of it: a line has a field's name and how it is read, then document 01's words
abbrev pub read_all : ℕ → ℕ → Reading SideInfo
read_all fs ne = do
  bandwidth ← read_bandwidth fs  -- "Bandwidth 0,1,2,2,3 bits by `fs_ind`;
  lastnz ← read_lastnz ne  -- then v in ceil(log2(ne/2)) bits, lastnz = 2(v+1);
  lsb ← side_flag  -- lsb 1;
  gain ← side_field 8  -- gain 8;
  first ← side_flag  -- one TNS flag,
  second ← if_present (leb 3 bandwidth) side_flag  -- or two if bandwidth >= 3;
  pitch ← side_flag  -- pitch 1;
  lf ← side_field 5  -- two 5-bit indices;
  hf ← side_field 5
  msb ← side_flag  -- msb 1;
  part ← side_field (part_bits msb)  -- gain part 1 (msb 0) or 2 bits;
  ls_inda ← side_flag  -- ls_inda 1;
  j ← read_joint msb  -- joint index J of 25 (msb 0) or 24 bits;
  active ← if_present (eqb pitch 1) side_flag  -- if pitch, active 1
  index ← if_present (eqb pitch 1) (side_field 9)  -- and index 9;
  noise ← side_field 3  -- noise 3."
  found
      (record {
        bandwidth = bandwidth;
        lastnz = lastnz;
        lsb = lsb;
        gain = gain;
        tns_first = first;
        tns_second = second;
        pitch = pitch;
        sns = sns_of lf hf msb part ls_inda j;
        active = active;
        index = index;
        noise = noise;
      })

-- refusals 1 and 2, then the fields
abbrev pub read_side : Configuration → Reading SideInfo
read_side k f c = and_then (frame_lines k (length f)) (λ ne. read_all k.fs_ind ne f c)

-- document 01's number and values of each refusal; a buffer's 9 stands in the step `side`
abbrev pub reply_of : SideInfoError → Reply
reply_of OutsideLimits = outside_limits
reply_of (BandwidthIdxOutOfRange bandwidth) = bandwidth_too_large bandwidth
reply_of (LastNonZeroTupleGreaterThanYLen lastnz ne) = lastnz_too_large lastnz ne
reply_of (PlcTriggerSns1OutOfRange j) = joint_too_large25 j
reply_of (PlcTriggerSns2OutOfRange j) = joint_too_large24 j
reply_of (Buffer e) = in_step side (Reads.reply_of e)
