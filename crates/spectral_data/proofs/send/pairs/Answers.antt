-- `send::pairs` meets its contract: the pairs that are left, by the context so far, make of the state and the buffer so far what all of
-- them make. Assumes nothing.
use Rattle.sending.proofs.Left.{Left, left-none}
use Rattle.spectral_data.proofs.Sends.{pairs_end, ready-pair, left-pair}
use Rattle.spectral_data.specs.Sent.{sent_pairs}
use Rattle.contexts.specs.Lines.{magnitude_at}
use Rattle.contexts.proofs.Lookups.{start-low, behind-most}
use Rattle.contexts.proofs.Magnitudes.{magnitude-read}
use native.Mathlib.Omega.{arith}
use mathlib.Core.Path.{◌≡◌, subst, ◌∙◌}
use Prim.Native.Nat.{◌+◌, ◌*◌}
use Rattle.spectral_data.proofs.send.pairs.Goals as goal
use Rattle.spectral_data.proofs.send.pairs.Goals.{After-magnitude_at-b}

-- the two numbers are the magnitudes of the pair's lines
first-is : (c : After-magnitude_at-b) → c.magnitude_at-a.result ≡ magnitude_at c.args.lines.now (2 * c.loop-p.p)
first-is c = c.magnitude_at-a.ensures.value ∙ magnitude-read c.args.lines.now (2 * c.loop-p.p)

second_is : (c : After-magnitude_at-b) → c.magnitude_at-b.result ≡ magnitude_at c.args.lines.now (2 * c.loop-p.p + 1)
second_is c = c.magnitude_at-b.ensures.value ∙ magnitude-read c.args.lines.now (2 * c.loop-p.p + 1)

pub pair-here-requires : goal.pair-here-requires
pair-here-requires c =
    let a = c.args in
    let pre = c.requires in (
      rw c.lookup_start-start.ensures (start-low c.loop-p.context a.rate a.ne (2 * c.loop-p.p) c.loop-p.invariant.1 pre.0),
      c.magnitude_at-a.ensures.most,
      c.magnitude_at-b.ensures.most,
      ready-pair a.tables.now.lookup.now a.tables.now.frequencies.now a.rate a.ne a.lines.now c.loop-p.p a.pairs c.loop-p.context _ _ _ c.loop-p-test.true c.lookup_start-start.ensures (first-is (goal.at.pair-here-requires c).After-magnitude_at-b) (second_is (goal.at.pair-here-requires c).After-magnitude_at-b)
          a.writing a.st a.buf.now _ c.loop-p.here c.loop-p.buf c.loop-p.invariant.0,
    )

pub loop-p-preserved : goal.loop-p-preserved
loop-p-preserved c =
    let a = c.args in (
      left-pair a.tables.now.lookup.now a.tables.now.frequencies.now a.rate a.ne a.lines.now c.loop-p.p a.pairs c.loop-p.context _ _ _ c.loop-p-test.true c.lookup_start-start.ensures (first-is (goal.at.loop-p-preserved c).After-magnitude_at-b) (second_is (goal.at.loop-p-preserved c).After-magnitude_at-b)
          a.writing a.st a.buf.now _ c.loop-p.here c.loop-p.buf c.loop-p.invariant.0 c.context_behind-context.result c.pair-here.result c.pair-here.new.buf c.context_behind-context.ensures c.pair-here.ensures.state c.pair-here.ensures.lent,
      rw c.context_behind-context.ensures (behind-most c.loop-p.context c.magnitude_at-a.result c.magnitude_at-b.result (omega (arith, c.magnitude_at-a.ensures.most)) (omega (arith, c.magnitude_at-b.ensures.most))),
    )

pub returns : goal.returns
returns c =
    let a = c.args in
    let all = sent_pairs a.tables.now.lookup.now a.tables.now.frequencies.now a.rate a.ne a.lines.now 0 a.pairs 0 in
    let p = left-none a.writing a.st a.buf.now all c.loop-p.here c.loop-p.buf
    (subst (Left a.writing a.st a.buf.now all c.loop-p.here c.loop-p.buf) (pairs_end a.tables.now.lookup.now a.tables.now.frequencies.now a.rate a.ne a.lines.now c.loop-p.p a.pairs c.loop-p.context c.loop-p-test.false) c.loop-p.invariant.0) in record { state = p.0; lent = p.1 }
