-- `fields::lastnz` meets its contract: the field's value doubled, then the test of refusal 6.
-- Assumes nothing.
use Prim.Native.Nat.{ℕ, ◌≤◌, ◌<◌}
use mathlib.Core.Path.{◌≡◌}
use mathlib.Core.List.{List}
use native.Mathlib.Omega.{arith}
use native.Mathlib.Nat.{lt_of_lt_of_le}
use lib.Pow.{pow_mono}
use Rattle.common.specs.Reply.{accepted}
use Rattle.buffer_reader.specs.declared.Cursor.{Cursor}
use Rattle.side_info.specs.Reader.{side_field, lastnz_bits}
use Rattle.side_info.proofs.Values.{field-low}
use Rattle.side_info.proofs.Widths.{lastnz-most}
use Rattle.side_info.proofs.fields.lastnz.Goals as goal

-- the field has eight bits at most
small : (f : List ℕ) (c : Cursor) (ne w : ℕ) {v : ℕ} {d : Cursor} → 60 ≤ ne → ne ≤ 400 → w ≡ lastnz_bits ne → accepted (v, d) ≡ side_field w f c → v < 256
small f c ne w least most e read =
    lt_of_lt_of_le (field-low f c w read) (pow_mono {i = w} {j = 8} (rw e (lastnz-most ne least most)))

pub overflow_add-lastnz : goal.overflow_add-lastnz
overflow_add-lastnz c =
    omega (arith, small c.args.buf.now c.args.at c.args.ne c.lastnz_bits.result c.requires.0 c.requires.1 c.lastnz_bits.ensures c.in_ok-v.ensures)

pub overflow_mul-lastnz : goal.overflow_mul-lastnz
overflow_mul-lastnz c =
    omega (arith, small c.args.buf.now c.args.at c.args.ne c.lastnz_bits.result c.requires.0 c.requires.1 c.lastnz_bits.ensures c.in_ok-v.ensures)
