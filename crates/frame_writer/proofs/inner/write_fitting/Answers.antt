-- `inner::write_fitting` meets its contract: both streams are counted, 16 is judged by E, and where there is room the frame is filled.
-- Assumes nothing.
use Prim.Native.Nat.{◌*◌, ◌≤◌}
use mathlib.Core.Path.{◌≡◌, ◌∙◌}
use native.Mathlib.Omega.{arith}
use lib.ListN.{length}
use Rattle.common.specs.TableSets.{coded_of}
use Rattle.common.proofs.Sets.{coded-lent}
use Rattle.common.proofs.Lasts.{log-range}
use Rattle.range_encoder.specs.Encoder.{start_encoder, shifts_of, reserved_of}
use Rattle.range_encoder.specs.Private.{Fits}
use Rattle.frame_writer.specs.Frame.{symbols_of, reserved}
use Rattle.frame_writer.specs.Returned.{content_of}
use Rattle.frame_writer.proofs.Streams.{early-passed, count-asked-at, count-behind-at}
use Rattle.frame_writer.proofs.Answers.{counted-keeps, refused-room, fill-asked, frame-filled}
use Rattle.frame_writer.proofs.inner.write_fitting.Goals as goal
use Rattle.frame_writer.proofs.inner.write_fitting.Goals.{After-send_symbols-st}

-- the counts leave the frame, and E is told by them
kept : (c : After-send_symbols-st) → c.send_symbols-st.new.buf ≡ c.args.frame.now
kept c =
    let a = c.args in
    counted-keeps a.configuration (coded_of a.tables.now) a.ne (content_of a.content.now) start_encoder a.frame.now c.put_early-early.new.buf c.send_symbols-st.new.buf c.put_early-early.ensures.lent c.send_symbols-st.ensures.lent

counted : (c : After-send_symbols-st) → let a = c.args in (Fits c.send_symbols-st.result) × (0x10000 ≤ c.send_symbols-st.result.range) × (shifts_of c.send_symbols-st.result ≤ 65535) × (reserved_of c.send_symbols-st.result ≡ reserved (symbols_of a.configuration (coded_of a.tables.now) (8 * length a.frame.now) a.ne (content_of a.content.now)))
counted c =
    let a = c.args in
    let p = c.requires in
    count-behind-at a.configuration (coded_of a.tables.now) (coded-lent a.tables.now) a.ne (content_of a.content.now) a.frame.now c.put_early-early.new.buf p.0 p.1 c.put_early-early.ensures.lent c.send_symbols-st.result c.send_symbols-st.ensures.state

pub send_symbols-st-requires : goal.send_symbols-st-requires
send_symbols-st-requires c =
    let a = c.args in
    let p = c.requires in
    count-asked-at a.configuration (coded_of a.tables.now) (coded-lent a.tables.now) a.ne (content_of a.content.now) a.frame.now c.put_early-early.new.buf p.0 p.1 c.put_early-early.ensures.lent

pub reserved_bits-requires : goal.reserved_bits-requires
reserved_bits-requires c = let n = counted (goal.at.reserved_bits-requires c).After-send_symbols-st in (n.0, n.1, n.2)

pub overflow_add-early : goal.overflow_add-early
overflow_add-early c =
    let a = c.args in
    let p = c.requires in
    let few = early-passed a.configuration a.ne (length a.frame.now) (content_of a.content.now) p.0 p.1 in
    let n = counted (goal.at.overflow_add-early c).After-send_symbols-st in
    omega (arith, few, c.put_early-early.ensures.count, c.reserved_bits.ensures, n.2, log-range c.send_symbols-st.result.range n.1 n.0.range-fits)

pub returns-then-frame-early : goal.returns-then-frame-early
returns-then-frame-early c =
    let a = c.args in
    let p = refused-room a.configuration (coded_of a.tables.now) a.ne (content_of a.content.now) a.frame.now c.send_symbols-st.new.buf c.put_early-early.result c.reserved_bits.result (kept (goal.at.returns-then-frame-early c).After-send_symbols-st) c.put_early-early.ensures.count (c.reserved_bits.ensures ∙ (counted (goal.at.returns-then-frame-early c).After-send_symbols-st).3) c.if-frame-early.true in record { answer = p.0; lent = p.1 }

pub fill-requires : goal.fill-requires
fill-requires c =
    let a = c.args in
    let p = c.requires in
    fill-asked a.configuration (coded_of a.tables.now) a.ne (content_of a.content.now) a.frame.now c.send_symbols-st.new.buf c.put_early-early.result c.reserved_bits.result (kept (goal.at.fill-requires c).After-send_symbols-st) c.put_early-early.ensures.count (c.reserved_bits.ensures ∙ (counted (goal.at.fill-requires c).After-send_symbols-st).3) c.if-frame-early.false p.0 p.1

pub returns : goal.returns
returns c =
    let a = c.args in
    let p = frame-filled a.configuration (coded_of a.tables.now) a.ne (content_of a.content.now) a.frame.now c.send_symbols-st.new.buf c.put_early-early.result c.reserved_bits.result (kept (goal.at.returns c).After-send_symbols-st) c.put_early-early.ensures.count (c.reserved_bits.ensures ∙ (counted (goal.at.returns c).After-send_symbols-st).3) c.if-frame-early.false c.fill.new.frame c.fill.ensures in record { answer = p.0; lent = p.1 }
