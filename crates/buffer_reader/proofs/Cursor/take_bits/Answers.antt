-- `Cursor::take_bits` meets its contract: the checks are the definition's, in its order, and behind them the field at the tail is read.
-- The check finds every return; the refusal for want of room is given here by the law that says it. Assumes nothing.
use Prim.Native.Nat.{ℕ, ◌+◌, ◌/◌}
use mathlib.Core.Path.{◌≡◌, sym, ap, ◌∙◌}
use mathlib.Core.Bool.{true}
use lib.Dec.{ltb}
use lib.ListN.{length}
use Rattle.common.specs.Reply.{refused}
use Rattle.buffer_reader.specs.Reads.{field_beyond}
use Rattle.buffer_reader.proofs.Answers.{bits-refused}
use Rattle.buffer_reader.proofs.Cursor.take_bits.Goals as goal

pub returns-then-field_beyond : goal.returns-then-field_beyond
returns-then-field_beyond c =
    let a = c.args in
    let wanted = ap (λ (w : ℕ). ltb (length a.buf.now) (w + a.self.head + a.self.tail / 8)) c.bytes_wanted-num_bytes.ensures in
    let beyond : field_beyond (length a.buf.now) a.self a.num_bits ≡ true = sym (c.field_beyond.ensures ∙ wanted) ∙ c.if-field_beyond.true in
    ap refused c.no_tail_room.ensures ∙ sym (bits-refused a.buf.now a.self a.num_bits c.if-len-gt65535.false (sym c.listed.ensures ∙ c.if-not-listed.false) beyond)
