-- `write_uint_backward` meets its contract: the checks are the definition's, and behind them the field is put at the tail's place.
-- The check finds every return; the one that writes is given here by the law that says it. Assumes nothing.
use mathlib.Core.Path.{sym, ◌∙◌}
use Rattle.buffer_writer.proofs.Answers.{field_put}
use Rattle.buffer_writer.proofs.write_uint_backward.Goals as goal

pub returns : goal.returns
returns c =
    let a = c.args in
    rw c.put_field.ensures (let p = field_put a.buf.now a.at a.val a.num_bits c.if-len-gt65535.false (sym c.listed.ensures ∙ c.if-not-listed.false) (sym c.beyond.ensures ∙ c.if-beyond.false) in record { answer = p.0; lent = p.1 })
