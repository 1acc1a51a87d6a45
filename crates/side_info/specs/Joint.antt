-- Document 01, "Side information": the second stage out of the joint index J, and J out of the second stage. The shape is
-- 2*msb + submode_lsb.
use Rattle.std.specs.Prelude.{ℕ, ◌+◌, ◌-◌, ◌*◌, ◌/◌, ◌%◌, cond, ltb, eqb}
use Rattle.side_info.specs.declared.Sns.{Sns}

-- "msb 0: .. q = J/2390004, idx_a the remainder. q < 2: submode_lsb 1, gain = 2*part + q. Otherwise with w = q-2: idx_b = w/2, ls_indb = w mod 2"
abbrev pub sns_of25 : ℕ → ℕ → ℕ → ℕ → ℕ → ℕ → Sns
sns_of25 lf hf part ls_inda q rest =
    cond (ltb q 2)
    (record {
      lf = lf;
      hf = hf;
      msb = 0;
      submode_lsb = 1;
      gain = 2 * part + q;
      ls_inda = ls_inda;
      idx_a = rest;
      ls_indb = 0;
      idx_b = 0;
    })
    (record {
      lf = lf;
      hf = hf;
      msb = 0;
      submode_lsb = 0;
      gain = part;
      ls_inda = ls_inda;
      idx_a = rest;
      ls_indb = (q - 2) % 2;
      idx_b = (q - 2) / 2;
    })

-- "msb 1: .. J >= 15158272: with j = J-15158272, submode_lsb 1, gain = 2*part + j mod 2, idx_a = j/2. Otherwise idx_a = J"
abbrev pub sns_of24 : ℕ → ℕ → ℕ → ℕ → ℕ → Sns
sns_of24 lf hf part ls_inda j =
    cond (ltb j 15158272)
    (record {
      lf = lf;
      hf = hf;
      msb = 1;
      submode_lsb = 0;
      gain = part;
      ls_inda = ls_inda;
      idx_a = j;
      ls_indb = 0;
      idx_b = 0;
    })
    (record {
      lf = lf;
      hf = hf;
      msb = 1;
      submode_lsb = 1;
      gain = 2 * part + (j - 15158272) % 2;
      ls_inda = ls_inda;
      idx_a = (j - 15158272) / 2;
      ls_indb = 0;
      idx_b = 0;
    })

abbrev pub sns_of : ℕ → ℕ → ℕ → ℕ → ℕ → ℕ → Sns
sns_of lf hf msb part ls_inda j =
    cond (eqb msb 0) (sns_of25 lf hf part ls_inda (j / 2390004) (j % 2390004)) (sns_of24 lf hf part ls_inda j)

-- the gain's part that has a field of its own
abbrev pub part_of : Sns → ℕ
part_of s = cond (eqb s.submode_lsb 1) (s.gain / 2) s.gain

-- J, by the same formulas
abbrev pub joint_of : Sns → ℕ
joint_of s =
    cond (eqb s.msb 0)
    (cond (eqb s.submode_lsb 1) (s.gain % 2) (2 + 2 * s.idx_b + s.ls_indb) * 2390004 + s.idx_a)
    (cond (eqb s.submode_lsb 1) (15158272 + (2 * s.idx_a + s.gain % 2)) s.idx_a)
