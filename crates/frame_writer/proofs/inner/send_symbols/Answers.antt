-- `inner::send_symbols` meets its contract: the TNS symbols, and the pairs' behind them. Assumes nothing.
use Rattle.common.specs.TableSets.{coded_of}
use Rattle.frame_writer.specs.Returned.{content_of}
use Rattle.frame_writer.proofs.Streams.{tns-asked, pairs-asked, both-sent}
use Rattle.frame_writer.proofs.inner.send_symbols.Goals as goal

pub send_tns-behind-requires : goal.send_tns-behind-requires
send_tns-behind-requires c =
    let a = c.args in
    let p = c.requires in
    tns-asked a.configuration (coded_of a.tables.now) a.ne (content_of a.content.now) a.buf.now a.writing c.ac_enc_init.result c.weighting_row-weighting.result c.rate_flag-rate.result c.ac_enc_init.ensures c.weighting_row-weighting.ensures c.rate_flag-rate.ensures p.0 p.1 p.2

pub send_pairs-requires : goal.send_pairs-requires
send_pairs-requires c =
    let a = c.args in
    let p = c.requires in
    pairs-asked a.configuration (coded_of a.tables.now) a.ne (content_of a.content.now) a.buf.now a.writing c.ac_enc_init.result c.weighting_row-weighting.result c.rate_flag-rate.result c.ac_enc_init.ensures c.weighting_row-weighting.ensures c.rate_flag-rate.ensures p.0 p.1 p.2 c.send_tns-behind.new.buf c.send_tns-behind.result c.send_tns-behind.ensures.state c.send_tns-behind.ensures.lent

pub returns : goal.returns
returns c =
    let a = c.args in
    let p = both-sent a.configuration (coded_of a.tables.now) a.ne (content_of a.content.now) a.buf.now a.writing c.ac_enc_init.result c.weighting_row-weighting.result c.rate_flag-rate.result c.ac_enc_init.ensures c.weighting_row-weighting.ensures c.rate_flag-rate.ensures c.send_tns-behind.new.buf c.send_pairs.new.buf c.send_tns-behind.result c.send_pairs.result c.send_tns-behind.ensures.state c.send_tns-behind.ensures.lent c.send_pairs.ensures.state c.send_pairs.ensures.lent in record { state = p.0; lent = p.1 }
