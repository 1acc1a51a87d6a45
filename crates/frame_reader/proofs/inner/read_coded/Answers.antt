-- `inner::read_coded` meets its contract: TNS data, then pairs, each where the other left the state and the cursor; behind the TNS
-- data the range passes again. Assumes nothing.
use Prim.Native.Nat.{◌*◌}
use mathlib.Core.Path.{sym, ap, ◌∙◌}
use native.Mathlib.Omega.{arith}
use lib.ListN.{length}
use Rattle.common.specs.TableSets.{coded_of}
use Rattle.common.proofs.Sets.{coded-lent}
use Rattle.common.proofs.Configurations.{frame-ranges}
use Rattle.tns_data.specs.Private.{Told, tns_of}
use Rattle.frame_reader.proofs.Data.{weighting-most, rate-most}
use Rattle.frame_reader.proofs.Coded.{tns-passes}
use Rattle.frame_reader.proofs.inner.read_coded.Goals as goal

pub read_tns-requires : goal.read_tns-requires
read_tns-requires c =
    let a = c.args in
    let p = c.requires in
    (omega (arith, (frame-ranges a.configuration (length a.buf.now) p.0).4), p.1, weighting-most c.weighting_row.result a.configuration.duration (8 * length a.buf.now) c.weighting_row.ensures, p.3)

pub read_pairs-requires : goal.read_pairs-requires
read_pairs-requires c =
    let a = c.args in
    let p = c.requires in
    let r = frame-ranges a.configuration (length a.buf.now) p.0 in
    let x = c.in_ok-first_order in
    let q : Told = (record { first = x.first_order; second = x.second_order; places = c.read_tns.new.indices; state = x.s; cursor = x.c }) in
    let passes = tns-passes a.configuration a.ne a.buf.now (coded_of a.tables.now) (coded-lent a.tables.now) p.0 a.side a.state a.at c.weighting_row.result c.weighting_row.ensures q (sym c.read_tns.ensures ∙ ap (λ r. tns_of r c.read_tns.new.indices) x.was) p.1 in
    (record { short = omega (arith, r.4); range = passes }, rate-most c.rate_flag.result (8 * length a.buf.now) a.configuration.fs_ind c.rate_flag.ensures, omega arith, omega arith, omega arith)
