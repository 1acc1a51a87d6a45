-- Document 01, "Side information, in order from the tail": the fields that the writer lays behind one another.
use Rattle.std.specs.Prelude.{ℕ, ◌+◌, ◌-◌, ◌/◌, ◌&&◌, List, [], ◌∷◌, leb, ltb, eqb}
use Rattle.common.specs.Reply.{Answer, accepted, given, no_tail_room}
use Rattle.buffer_writer.specs.Writes.{put_field}
use Rattle.side_info.specs.Joint.{part_of, joint_of}
use Rattle.side_info.specs.Reader.{bandwidth_bits, lastnz_bits, part_bits, joint_bits}
use Rattle.side_info.specs.Record.{if_there}
use Rattle.side_info.specs.declared.SideInfo.{SideInfo}
use Rattle.side_info.specs.declared.writer.Field.{Field}

-- a field is its width, 0 where it is absent, and the number in it
abbrev pub width : Field → ℕ
width field = field.0

abbrev pub value : Field → ℕ
value field = field.1

abbrev pub side_fields : ℕ → ℕ → SideInfo → List Field
side_fields fs ne s =
    (bandwidth_bits fs, s.bandwidth) ∷  -- "Bandwidth 0,1,2,2,3 bits by `fs_ind`;
    (lastnz_bits ne, s.lastnz / 2 - 1) ∷  -- then v in ceil(log2(ne/2)) bits, lastnz = 2(v+1);
    (1, s.lsb) ∷  -- lsb 1;
    (8, s.gain) ∷  -- gain 8;
    (1, s.tns_first) ∷  -- one TNS flag,
    (if_there (leb 3 s.bandwidth) 1, s.tns_second) ∷  -- or two if bandwidth >= 3;
    (1, s.pitch) ∷  -- pitch 1;
    (5, s.sns.lf) ∷  -- two 5-bit indices;
    (5, s.sns.hf) ∷
    (1, s.sns.msb) ∷  -- msb 1;
    (part_bits s.sns.msb, part_of s.sns) ∷  -- gain part 1 (msb 0) or 2 bits;
    (1, s.sns.ls_inda) ∷  -- ls_inda 1;
    (joint_bits s.sns.msb, joint_of s.sns) ∷  -- joint index J of 25 (msb 0) or 24 bits;
    (if_there (eqb s.pitch 1) 1, s.active) ∷  -- if pitch, active 1
    (if_there (eqb s.pitch 1) 9, s.index) ∷  -- and index 9;
    (3, s.noise) ∷  -- noise 3."
    []

-- the length of fields in bits
unfoldable pub length_of : List Field → ℕ
length_of [] = 0
length_of (field ∷ fields) = width field + length_of fields

abbrev pub side_length : ℕ → ℕ → SideInfo → ℕ
side_length fs ne s = length_of (side_fields fs ne s)

-- refused 9 for the first field that is there and passes the start of a frame of so many bits; else the tail behind them all
unfoldable pub room_for : ℕ → ℕ → List Field → Answer ℕ
room_for bits tail [] = accepted tail
room_for bits tail (field ∷ fields) =
    given (leb 1 (width field) && ltb bits (tail + width field)) (no_tail_room (width field) tail)
    (room_for bits (tail + width field) fields)

-- the fields laid into the frame behind one another
unfoldable pub put_fields : List ℕ → ℕ → List Field → List ℕ
put_fields f tail [] = f
put_fields f tail (field ∷ fields) = put_fields (put_field f tail (value field) (width field)) (tail + width field) fields
