-- `inner::ac_enc_finish` meets its contract: E leaves room for the shifts of what is chosen, and behind them a byte is in the
-- cache, so the bytes held and the top bits of the last follow. Assumes nothing.
use mathlib.Core.Path.{refl}
use native.Mathlib.Omega.{arith}
use lib.ListN.{length}
use Rattle.range_encoder.specs.Finish.{ended}
use Rattle.range_encoder.specs.Private.{ending_of}
use Rattle.range_encoder.proofs.Sends.{push-ready, last-ready, finish-behind}
use Rattle.range_encoder.proofs.inner.ac_enc_finish.Goals as goal

pub push-last-requires : goal.push-last-requires
push-last-requires c =
    let e = ending_of c.ending-e.result in
    let ready = push-ready c.args.reading c.args.st e c.ending-e.ensures (ended c.args.st e) refl (length c.args.buf.now) c.requires.0 c.requires.1 in
    (ready.0, ready.1, c.requires.2)

pub send_last-requires : goal.send_last-requires
send_last-requires c =
    let e = ending_of c.ending-e.result in
    let ready = last-ready c.args.reading c.args.st e c.ending-e.ensures (ended c.args.st e) refl c.push-last.result c.last_bits.result c.push-last.ensures.state c.last_bits.ensures (length c.push-last.new.buf) c.requires.0 (omega arith) in
    (ready.0, ready.1, ready.2, ready.3, ready.4, omega arith)

pub returns : goal.returns
returns c =
    let a = c.args in
    let e = ending_of c.ending-e.result in
    let p = finish-behind a.reading a.st e c.ending-e.ensures (ended a.st e) refl c.push-last.result c.last_bits.result c.push-last.ensures.state c.last_bits.ensures a.buf.now c.push-last.new.buf c.send_last.new.buf c.send_last.result c.push-last.ensures.lent c.send_last.ensures.end c.send_last.ensures.lent in record { end = p.0; lent = p.1 }
