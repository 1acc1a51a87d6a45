-- `flat::fill_lookup` meets its contract: the entries before place i are the flat ones, and a turn adds the one at i.
-- Assumes nothing.
use Prim.Native.Nat.{◌%◌}
use native.Mathlib.Omega.{arith}
use Rattle.common.proofs.Fills.{fill_none, fill_one, fill-all}
use Rattle.common.proofs.flat.fill_lookup.Goals as goal

pub loop-i-init : goal.loop-i-init
loop-i-init c = fill_none (λ k. k % 64) c.args.lookup.now

pub loop-i-preserved : goal.loop-i-preserved
loop-i-preserved c = fill_one (λ k. k % 64) _ _ (omega arith) c.loop-i.invariant

pub returns : goal.returns
returns c = fill-all (λ k. k % 64) _ c.args.lookup.now c.loop-i.i (omega arith) (omega arith) c.loop-i.invariant
