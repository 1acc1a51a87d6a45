-- Document 01, refusal 13: "side or TNS field outside what the reader can return beside the record's other fields, or nonzero
-- where absent", of the side fields: each is within 0 and the most that stands here.
use Rattle.std.specs.Prelude.{ℕ, ◌+◌, ◌*◌, ◌%◌, Bool, cond, ◌&&◌, [], ◌∷◌, leb, eqb, get_or}
use Rattle.side_info.specs.declared.Sns.{Sns}
use Rattle.side_info.specs.declared.SideInfo.{SideInfo}

-- a field's largest value, or its width: 0 where the field is absent
abbrev pub if_there : Bool → ℕ → ℕ
if_there there n = cond there n 0

-- shape = 2*msb + submode_lsb
abbrev pub shape_of : Sns → ℕ
shape_of s = 2 * s.msb + s.submode_lsb

-- by shape 0 to 3: the largest gain
abbrev pub gain_most : ℕ → ℕ
gain_most shape = get_or (1 ∷ 3 ∷ 3 ∷ 7 ∷ []) shape 0

-- by shape 0 to 3: the largest idx_a
abbrev pub idx_most : ℕ → ℕ
idx_most shape = get_or (2390003 ∷ 2390003 ∷ 15158271 ∷ 774911 ∷ []) shape 0

-- ls_indb and idx_b are there in shape 0 alone
abbrev pub sns_passes : Sns → Bool
sns_passes s =
    leb s.lf 31 &&
    leb s.hf 31 &&
    leb s.msb 1 &&
    leb s.submode_lsb 1 &&
    leb s.gain (gain_most (shape_of s)) &&
    leb s.ls_inda 1 &&
    leb s.idx_a (idx_most (shape_of s)) &&
    leb s.ls_indb (if_there (eqb (shape_of s) 0) 1) &&
    leb s.idx_b (if_there (eqb (shape_of s) 0) 5)

-- bandwidth up to fs_ind; lastnz even, 2 to ne; the second TNS flag from bandwidth 3 on, active and index with pitch
abbrev pub side_passes : ℕ → ℕ → SideInfo → Bool
side_passes fs ne s =
    leb s.bandwidth fs &&
    eqb (s.lastnz % 2) 0 &&
    leb 2 s.lastnz &&
    leb s.lastnz ne &&
    leb s.lsb 1 &&
    leb s.gain 255 &&
    leb s.tns_first 1 &&
    leb s.tns_second (if_there (leb 3 s.bandwidth) 1) &&
    leb s.pitch 1 &&
    sns_passes s.sns &&
    leb s.active (if_there (eqb s.pitch 1) 1) &&
    leb s.index (if_there (eqb s.pitch 1) 511) &&
    leb s.noise 7
