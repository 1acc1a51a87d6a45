-- Not needed to believe anything: what private contracts and proofs here speak by. No public contract cites it.
use Rattle.std.specs.Prelude.{ℕ, ◌*◌, List, leb, eqb, length}
use Rattle.common.specs.Reply.{Answer, accepted, and_then, unless_refused}
use Rattle.buffer_reader.specs.Steps.{Reading, found, next as ◌>>=◌, if_present}
use Rattle.buffer_reader.specs.declared.Cursor.{Cursor}
use Rattle.side_info.specs.Joint.{sns_of}
use Rattle.side_info.specs.Reader.{side_field, side_flag, read_bandwidth, read_lastnz, part_bits, read_joint}
use Rattle.side_info.specs.Layout.{room_for, put_fields}
use Rattle.side_info.specs.declared.Sns.{Sns}
use Rattle.side_info.specs.declared.SideInfo.{SideInfo}
use Rattle.side_info.specs.declared.writer.Field.{Field}

-- "two 5-bit indices; msb 1; gain part 1 (msb 0) or 2 bits; ls_inda 1; joint index J"
abbrev pub read_sns : Reading Sns
read_sns = do
  lf ← side_field 5
  hf ← side_field 5
  msb ← side_flag
  part ← side_field (part_bits msb)
  ls_inda ← side_flag
  j ← read_joint msb
  found (sns_of lf hf msb part ls_inda j)

-- all of it, with these as one part
abbrev pub read_parts : ℕ → ℕ → Reading SideInfo
read_parts fs ne = do
  bandwidth ← read_bandwidth fs
  lastnz ← read_lastnz ne
  lsb ← side_flag
  gain ← side_field 8
  first ← side_flag
  second ← if_present (leb 3 bandwidth) side_flag
  pitch ← side_flag
  sns ← read_sns
  active ← if_present (eqb pitch 1) side_flag
  index ← if_present (eqb pitch 1) (side_field 9)
  noise ← side_field 3
  found
      (record {
        bandwidth = bandwidth;
        lastnz = lastnz;
        lsb = lsb;
        gain = gain;
        tns_first = first;
        tns_second = second;
        pitch = pitch;
        sns = sns;
        active = active;
        index = index;
        noise = noise;
      })

-- fields behind one another: the answer, and the frame behind it
abbrev pub write_fields : List Field → List ℕ → Cursor → Answer Cursor
write_fields fields f c =
    and_then (room_for (8 * length f) c.tail fields) (λ tail. accepted (record { head = c.head; tail = tail }))

abbrev pub fields_written : List Field → List ℕ → Cursor → List ℕ
fields_written fields f c = unless_refused (write_fields fields f c) f (put_fields f c.tail fields)
