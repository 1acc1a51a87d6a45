-- Document 01, "Checked by hand", the starred cases: a row is what the definitions give,
-- then what document 01 says.
use Rattle.std.specs.Prelude.{ℕ, zero, suc, ◌+◌, ◌*◌, List, [], ◌∷◌, take, replicate, ℤ, pos}
use Rattle.common.specs.Reply.{Answer, accepted, refused}
use Rattle.common.specs.Flat.{flat_rows}
use Rattle.buffer_reader.specs.declared.Cursor.{Cursor}
use Rattle.side_info.specs.Layout.{put_fields}
use Rattle.side_info.specs.Reader.{part_bits, joint_bits, read_side}
use Rattle.side_info.specs.declared.SideInfo.{SideInfo}
use Rattle.range_decoder.specs.Decoder.{Decoded, decode_symbol}
use Rattle.range_encoder.specs.Finish.{Ending, ending}
use Rattle.range_encoder.specs.declared.EncoderState.{EncoderState}
use Rattle.residual_data.specs.Sums.{seed}

pub record Case : Type 0 where
  pub defined : List ℕ
  pub stated : List ℕ

-- an answer as numbers: 0 and what is shown of the value and the cursor, or the refusal's number and its values
abbrev shown : {A : Type 0} → (A × Cursor → List ℕ) → Answer (A × Cursor) → List ℕ
shown of (accepted r) = 0 ∷ of r
shown of (refused r) = r.number ∷ r.values

-- a symbol on the flat set's first row, by a decoder behind its start: the symbol, low, range and the head
abbrev decoded : ℕ → List ℕ
decoded low =
    shown (λ (r : Decoded × Cursor). r.0.symbol ∷ r.0.state.low ∷ r.0.state.range ∷ r.1.head ∷ [])
    (decode_symbol (record { low = low; range = 0xFFFFFF }) (take 17 (flat_rows (64 * 17))) (replicate 20 0) (record { head = 3; tail = 0 }))

-- the encoder near the end of 24 bits, with a byte in its cache
abbrev near_the_end : EncoderState
near_the_end = record { low = 0xFF0001; range = 0x10000; held = 1; cache = 0; carry = 0; pending = 0; out = 0 }

-- an ending as numbers: bits, value, carry
abbrev ended : Ending → List ℕ
ended e = e.bits ∷ e.value ∷ e.carry ∷ []

-- 20 bytes for configuration 0,0,0 with v, msb and J of the side information, and zeros; 21 bits stand between v and msb
abbrev holding : ℕ → ℕ → ℕ → List ℕ
holding v msb j =
    put_fields (replicate 20 0) 0 ((6, v) ∷ (21, 0) ∷ (1, msb) ∷ (part_bits msb + 1, 0) ∷ (joint_bits msb, j) ∷ [])

-- the side information read from such a frame's start
abbrev read : (SideInfo → List ℕ) → List ℕ → List ℕ
read of f =
    shown (λ (r : SideInfo × Cursor). of r.0) (read_side (record { fs_ind = 0; duration = 0; reading = 0 }) f (record { head = 0; tail = 0 }))

-- what J says
abbrev indices : SideInfo → List ℕ
indices s = s.sns.idx_a ∷ s.sns.idx_b ∷ s.sns.ls_indb ∷ []

abbrev last : SideInfo → List ℕ
last s = s.lastnz ∷ []

-- so many pairs of lines, 0 and 81919
unfoldable pub odd_lines : ℕ → List ℤ
odd_lines zero = []
odd_lines (suc n) = pos 0 ∷ pos 81919 ∷ odd_lines n

abbrev pub starred : List Case
starred =
    -- low 0: symbol 0, range 1048512, no byte (low stays 0, and the head)
    record { defined = decoded 0; stated = 0 ∷ 0 ∷ 0 ∷ 1048512 ∷ 3 ∷ [] } ∷
    -- low 1048512: symbol 1, low 0, range 982980
    record { defined = decoded 1048512; stated = 0 ∷ 1 ∷ 0 ∷ 982980 ∷ 3 ∷ [] } ∷
    -- low 16776191: symbol 16, low 982979
    record { defined = decoded 16776191; stated = 0 ∷ 16 ∷ 982979 ∷ 982980 ∷ 3 ∷ [] } ∷
    -- 16776192: refused 11
    record { defined = decoded 16776192; stated = 11 ∷ 16776192 ∷ 16776192 ∷ [] } ∷
    -- finish at low 0xFF0001, range 0x10000: standard 9 bits, 0xFF8000, no carry
    record { defined = ended (ending 1 near_the_end); stated = 9 ∷ 0xFF8000 ∷ 0 ∷ [] } ∷
    -- crate 8 bits, 0, carry
    record { defined = ended (ending 0 near_the_end); stated = 8 ∷ 0 ∷ 1 ∷ [] } ∷
    -- J 33460055: idx_a 2390003, idx_b 5, ls_indb 1
    record { defined = read indices (holding 0 0 33460055); stated = 0 ∷ 2390003 ∷ 5 ∷ 1 ∷ [] } ∷
    -- 33460056: 7
    record { defined = read indices (holding 0 0 33460056); stated = 7 ∷ 33460056 ∷ [] } ∷
    -- 24 bits 16708095: idx_a 774911
    record { defined = read indices (holding 0 1 16708095); stated = 0 ∷ 774911 ∷ 0 ∷ 0 ∷ [] } ∷
    -- 16708096: 8
    record { defined = read indices (holding 0 1 16708096); stated = 8 ∷ 16708096 ∷ [] } ∷
    -- ne 80: v 39 gives 80
    record { defined = read last (holding 39 0 0); stated = 0 ∷ 80 ∷ [] } ∷
    -- v 40: 6 (82, 80)
    record { defined = read last (holding 40 0 0); stated = 6 ∷ 82 ∷ 80 ∷ [] } ∷
    -- sum rule with the 200 odd lines of 400 at 81919: seed 25536
    record { defined = seed (odd_lines 200) ∷ []; stated = 25536 ∷ [] } ∷
    []
