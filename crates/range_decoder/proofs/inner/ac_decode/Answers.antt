-- `inner::ac_decode` meets its contract: below 1024*r the search finds the owner, low less its begin is below its width, and
-- two turns follow. Assumes nothing.
use native.Mathlib.Omega.{arith}
use Prim.Native.Nat.{◌-◌, ◌≤◌}
use Rattle.range_decoder.specs.Private.{Below}
use Rattle.range_decoder.proofs.Answers.{Found, part-below}
use Rattle.range_decoder.proofs.inner.ac_decode.Goals as goal
use Rattle.range_decoder.proofs.inner.ac_decode.Goals.{After-search-owned}

found-known : (c : After-search-owned) → Found c.args.state c.args.row.now c.search-owned.result.symbol c.search-owned.result.base c.search-owned.result.width
found-known c = record { symbol = c.search-owned.ensures.symbol; base-is = c.search-owned.ensures.base; width-is = c.search-owned.ensures.width }

part-known : (c : After-search-owned) → (c.search-owned.result.base ≤ c.args.state.low) × Below (record { low = c.args.state.low - c.search-owned.result.base; range = c.search-owned.result.width })
part-known c =
    let a = c.args in
    let g = c.search-owned.result in
    part-below a.state a.row.now g.symbol g.base g.width c.requires.0 c.requires.1 (omega (arith, c.if-limit-state.false)) (found-known c)

pub overflow_sub-part : goal.overflow_sub-part
overflow_sub-part c = (part-known (goal.at.overflow_sub-part c).After-search-owned).0

pub append_twice-requires : goal.append_twice-requires
append_twice-requires c = (part-known (goal.at.append_twice-requires c).After-search-owned).1
