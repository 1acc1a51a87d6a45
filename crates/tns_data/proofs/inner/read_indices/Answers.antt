-- `inner::read_indices` meets its contract: the indices from k on, laid behind what has been laid, make what the whole asks for,
-- and behind each symbol the range passes again. Assumes nothing.
use Prim.Native.Nat.{ℕ, ◌<◌, ◌*◌}
use mathlib.Core.Path.{◌≡◌, sym, ap, ◌∙◌}
use mathlib.Core.Bool.{true}
use native.Mathlib.Omega.{arith}
use borrow.Author.Rules.{rules}
use lib.ListN.{length-set}
use Rattle.std.proofs.lemmas.Grind.{common_steps}
use Rattle.std.specs.Prelude.{Ok}
use Rattle.common.specs.Tables.{row_at, row_passes}
use Rattle.tns_data.proofs.Turns.{indices-start, indices-turn, indices-refused, indices-end}
use Rattle.tns_data.proofs.Within.{part-row, part_length}
use Rattle.common.specs.Reply.{Reply, refused, in_step, coef}
use Rattle.coding.specs.Coding.{symbol_by}
use Rattle.coding.specs.Private.{symbol_met_of}
use Rattle.tns_data.specs.Tns.{read_indices}
use Rattle.tns_data.specs.Private.{indices_laid}
use Rattle.coding.proofs.Keeps.{symbol-behind}
use Rattle.tns_data.proofs.inner.read_indices.Goals as goal

pub loop-k-init : goal.loop-k-init
loop-k-init c =
    let a = c.args in
    let p = c.requires in
    (p.4, p.1, indices-start a.tables.now.coefficients.now a.filter a.buf.now (8 * a.filter) a.order a.indices.now a.state a.at)

pub symbol-read-requires : goal.symbol-read-requires
symbol-read-requires c =
    let cs = c.args.tables.now.coefficients.now in
    let p = c.requires in
    let rows : (j : ℕ) → j < 8 → row_passes (row_at 17 j cs) ≡ true = λ j h. part-row 8 17 j cs c.args.tables.now.index_rows h in
    let below : c.loop-k.k-counter < 8 = omega arith in
    (p.0, c.loop-k.invariant.1, omega (arith, part_length 8 17 cs c.args.tables.now.index_rows), search (rows, below, rules))

pub returns-in_err-index : goal.returns-in_err-index
returns-in_err-index c =
    let a = c.args in
    let l = c.loop-k in
    let k = l.k-counter in
    let met : (r : Reply) → symbol_by (row_at 17 k a.tables.now.coefficients.now) l.s a.buf.now l.c ≡ refused r → refused (in_step (coef a.filter k) r) ≡ indices_laid a.indices.now (8 * a.filter) a.order (read_indices a.tables.now.coefficients.now a.filter 0 a.order a.state a.buf.now a.at) =
    λ r e. sym (indices-refused a.tables.now.coefficients.now a.filter a.buf.now (8 * a.filter) a.order k l.s l.c l.indices c.loop-k-test.true e) ∙ l.invariant.2 in
    grind (arith, common_steps, met)

pub loop-k-preserved : goal.loop-k-preserved
loop-k-preserved c =
    let a = c.args in
    let p = c.requires in
    let l = c.loop-k in
    let k = l.k-counter in
    let read : c.symbol-read.result ≡ Ok (c.in_ok-index.index, c.in_ok-index.next_state, c.in_ok-index.next) = search rules in
    let e = sym c.symbol-read.ensures ∙ ap symbol_met_of read in (
      rw length-set l.invariant.0,
      (symbol-behind (row_at 17 k a.tables.now.coefficients.now) (part-row 8 17 k a.tables.now.coefficients.now c.args.tables.now.index_rows (omega arith)) l.s a.buf.now l.c p.0 l.invariant.1 e).range,
      sym (indices-turn a.tables.now.coefficients.now a.filter a.buf.now (8 * a.filter) a.order k l.s l.c l.indices c.loop-k-test.true e) ∙ l.invariant.2,
    )

pub returns : goal.returns
returns c =
    let a = c.args in
    let l = c.loop-k in
    sym (indices-end a.tables.now.coefficients.now a.filter a.buf.now (8 * a.filter) a.order l.k-counter l.s l.c l.indices c.loop-k-test.false) ∙ l.invariant.2
