-- `inner::fill` meets its contract: zeros, the symbols, the tail bits and the finish, each behind the last, make the frame that is defined.
-- Assumes nothing.
use Prim.Native.Nat.{◌*◌}
use mathlib.Core.Path.{◌≡◌, ap, ◌∙◌}
use lib.ListN.{length, replicate}
use Rattle.common.specs.TableSets.{coded_of}
use Rattle.common.proofs.Sets.{coded-lent}
use Rattle.range_encoder.specs.Encoder.{start_encoder}
use Rattle.range_encoder.specs.Runs.{state_behind}
use Rattle.sending.proofs.Puts.{put-bits-length}
use Rattle.frame_writer.specs.Frame.{symbols_of}
use Rattle.frame_writer.specs.Returned.{content_of}
use Rattle.frame_writer.proofs.Fills.{cleared-asked, state-is, head-is, head-length, held-asked, late_asked, finish-asked, filled}
use Rattle.frame_writer.proofs.inner.fill.Goals as goal
use Rattle.frame_writer.proofs.inner.fill.Goals.{After-fill, After-put_early-early, After-put_late, After-send_symbols-st}

-- the cleared frame
cleared : (c : After-fill) → c.fill.new.self ≡ replicate (length c.args.frame.now) 0
cleared c = c.fill.ensures.after (λ y e. e)

-- behind the symbols: the encoder's own state, and as long a frame
state : (c : After-send_symbols-st) → let a = c.args in c.send_symbols-st.result ≡ state_behind start_encoder (symbols_of a.configuration (coded_of a.tables.now) (8 * length a.frame.now) a.ne (content_of a.content.now))
state c =
    let a = c.args in
    let p = c.requires in
    state-is a.configuration (coded_of a.tables.now) (coded-lent a.tables.now) a.ne (content_of a.content.now) a.frame.now p.0 p.1 p.2 c.fill.new.self (cleared (goal.at.After-send_symbols-st c).After-fill) c.send_symbols-st.result c.send_symbols-st.ensures.state

head-long : (c : After-send_symbols-st) → length c.send_symbols-st.new.buf ≡ length c.args.frame.now
head-long c =
    let a = c.args in
    let p = c.requires in
    head-length a.configuration (coded_of a.tables.now) (coded-lent a.tables.now) a.ne (content_of a.content.now) a.frame.now p.0 p.1 p.2 c.fill.new.self (cleared (goal.at.After-send_symbols-st c).After-fill) c.send_symbols-st.new.buf c.send_symbols-st.ensures.lent

-- behind the bits before what comes late, and behind that
early-long : (c : After-put_early-early) → length c.put_early-early.new.buf ≡ length c.args.frame.now
early-long c =
    ap length c.put_early-early.ensures.lent ∙
    put-bits-length c.send_symbols-st.new.buf 0 _ ∙
    head-long (goal.at.After-put_early-early c).After-send_symbols-st

late-long : (c : After-put_late) → length c.put_late.new.buf ≡ length c.args.frame.now
late-long c =
    ap length c.put_late.ensures ∙
    put-bits-length c.put_early-early.new.buf c.put_early-early.result _ ∙
    early-long (goal.at.After-put_late c).After-put_early-early

pub send_symbols-st-requires : goal.send_symbols-st-requires
send_symbols-st-requires c =
    let a = c.args in
    let p = c.requires in
    cleared-asked a.configuration (coded_of a.tables.now) (coded-lent a.tables.now) a.ne (content_of a.content.now) a.frame.now p.0 p.1 p.2 c.fill.new.self (cleared (goal.at.send_symbols-st-requires c).After-fill)

pub held_back-requires : goal.held_back-requires
held_back-requires c =
    let a = c.args in
    let p = c.requires in
    held-asked a.configuration (coded_of a.tables.now) (coded-lent a.tables.now) a.ne (content_of a.content.now) a.frame.now p.0 p.1 p.2 c.send_symbols-st.result (state (goal.at.held_back-requires c).After-send_symbols-st)

pub put_late-requires : goal.put_late-requires
put_late-requires c =
    let a = c.args in
    let p = c.requires in
    late_asked a.configuration (coded_of a.tables.now) (coded-lent a.tables.now) a.ne (content_of a.content.now) a.frame.now p.0 p.1 p.2 c.put_early-early.new.buf c.put_early-early.result c.held_back.result c.saturating_sub-room.result (early-long (goal.at.put_late-requires c).After-put_early-early) c.put_early-early.ensures.count c.saturating_sub-room.ensures

pub ac_enc_finish-requires : goal.ac_enc_finish-requires
ac_enc_finish-requires c =
    let a = c.args in
    let p = c.requires in
    finish-asked a.configuration (coded_of a.tables.now) (coded-lent a.tables.now) a.ne (content_of a.content.now) a.frame.now p.0 p.1 p.2 c.send_symbols-st.result c.put_late.new.buf (state (goal.at.ac_enc_finish-requires c).After-send_symbols-st) (late-long (goal.at.ac_enc_finish-requires c).After-put_late)

pub returns : goal.returns
returns c =
    let a = c.args in
    let p = c.requires in
    let head = head-is a.configuration (coded_of a.tables.now) (coded-lent a.tables.now) a.ne (content_of a.content.now) a.frame.now p.0 p.1 p.2 c.fill.new.self (cleared (goal.at.returns c).After-fill) c.send_symbols-st.new.buf c.send_symbols-st.ensures.lent in
    filled a.configuration (coded_of a.tables.now) (coded-lent a.tables.now) a.ne (content_of a.content.now) a.frame.now p.0 p.1 p.2 c.send_symbols-st.result c.put_early-early.result c.held_back.result c.saturating_sub-room.result c.send_symbols-st.new.buf c.put_early-early.new.buf c.put_late.new.buf c.ac_enc_finish.new.buf (state (goal.at.returns c).After-send_symbols-st) head c.put_early-early.ensures.count c.put_early-early.ensures.lent c.held_back.ensures c.saturating_sub-room.ensures c.put_late.ensures c.ac_enc_finish.ensures.lent
