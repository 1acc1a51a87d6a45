-- Document 01, "Dump": "tagged fields (tag byte, two-byte big-endian length)", in an input of any length. Nothing says how it arrives.
use Rattle.std.specs.Prelude.{ℕ, ◌+◌, ◌*◌, Bool, true, false, cond, not, ◌&&◌, ◌||◌, List, leb, eqb, length, get_or, Result, Ok, Err, Option, None, Some}
use Rattle.common.specs.Reply.{Answer, accepted, refused, given, field_malformed}
use Rattle.recording.specs.declared.reader.Before.{Before}
use Rattle.recording.specs.declared.reader.Field.{Field}
use Rattle.recording.specs.declared.reader.Malformed.{Malformed}

-- "its length is over 4,096"
abbrev pub field_most : ℕ
field_most = 4096

-- "0x01 configuration (fs_ind, duration, reading), 0x02 frame, 0x10..0x14 tables in the order above, 16-bit big-endian but for lookup"
abbrev pub tag_configuration : ℕ
tag_configuration = 0x01

abbrev pub tag_frame : ℕ
tag_frame = 0x02

abbrev pub tag_lookup : ℕ
tag_lookup = 0x10

abbrev pub tag_frequencies : ℕ
tag_frequencies = 0x11

abbrev pub tag_bits : ℕ
tag_bits = 0x12

abbrev pub tag_orders : ℕ
tag_orders = 0x13

abbrev pub tag_coefficients : ℕ
tag_coefficients = 0x14

-- every tag that is known, with its length
abbrev pub suits : ℕ → ℕ → Bool
suits tag size =
    cond (eqb tag tag_configuration) (eqb size 3)
    (cond (eqb tag tag_frame) true
    (cond (eqb tag tag_lookup) (eqb size 4096)
    (cond (eqb tag tag_frequencies) (eqb size (2 * (64 * 17)))
    (cond (eqb tag tag_bits) (eqb size (2 * (64 * 17)))
    (cond (eqb tag tag_orders) (eqb size (2 * (2 * 8)))
    (cond (eqb tag tag_coefficients) (eqb size (2 * (8 * 17))) false))))))

-- which fields came before: the code's six flags
abbrev pub nothing : Before
nothing =
    record { configuration = false; lookup = false; frequencies = false; bits = false; orders = false; coefficients = false }

-- and a field of a tag behind them
abbrev pub after : Before → ℕ → Before
after b tag =
    record {
      configuration = b.configuration || eqb tag tag_configuration;
      lookup = b.lookup || eqb tag tag_lookup;
      frequencies = b.frequencies || eqb tag tag_frequencies;
      bits = b.bits || eqb tag tag_bits;
      orders = b.orders || eqb tag tag_orders;
      coefficients = b.coefficients || eqb tag tag_coefficients;
    }

-- whether a table of that tag came before
abbrev pub table_seen : Before → ℕ → Bool
table_seen b tag =
    cond (eqb tag tag_lookup) b.lookup
    (cond (eqb tag tag_frequencies) b.frequencies
    (cond (eqb tag tag_bits) b.bits
    (cond (eqb tag tag_orders) b.orders
    (cond (eqb tag tag_coefficients) b.coefficients false))))

-- all five tables and a configuration came before
abbrev pub ready : Before → Bool
ready b = b.configuration && b.lookup && b.frequencies && b.bits && b.orders && b.coefficients

-- "Tables once each and a configuration before any frame"
abbrev pub in_order : Before → ℕ → Bool
in_order b tag = cond (eqb tag tag_frame) (ready b) (not (table_seen b tag))

-- the two-byte length behind the tag byte at an offset
abbrev pub size_at : List ℕ → ℕ → ℕ
size_at input at = get_or input (at + 1) 0 * 256 + get_or input (at + 2) 0

-- the field at an offset: its tag, where its content begins, and how long it is
abbrev pub header_at : List ℕ → ℕ → Field
header_at input at = record { tag = get_or input at 0; at = at; content = at + 3; size = size_at input at }

abbrev pub end_of : Field → ℕ
end_of x = x.content + x.size

-- within an input, and within so many of its first bytes
abbrev pub complete : ℕ → ℕ → Field → Bool
complete most len x = leb (end_of x) len && leb (end_of x) most

-- its tag is known, its length is right for it and not over 4,096, and it keeps the order
abbrev pub formed : Before → Field → Bool
formed b x = suits x.tag x.size && leb x.size field_most && in_order b x.tag

-- what stands at an offset: a field, or the input's end
pub data Next : Type 0 where
  found : Field → Next
  ends : Next

-- the end exactly at the input's length; elsewhere a field, or 18 with the offset. Whoever reads binds the first bytes, `most`: the dump by
-- 65,536, another by nothing
abbrev pub field_at : ℕ → Before → List ℕ → ℕ → Answer Next
field_at most b input at =
    cond (eqb at (length input)) (accepted ends)
    (given (not (complete most (length input) (header_at input at) && formed b (header_at input at))) (field_malformed at)
    (accepted (found (header_at input at))))

-- what the answer says: none is the input's end
abbrev pub answer_of : Result (Option Field) Malformed → Answer Next
answer_of (Ok (Some x)) = accepted (found x)
answer_of (Ok None) = accepted ends
answer_of (Err e) = refused (field_malformed e.0)
