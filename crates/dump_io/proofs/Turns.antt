-- What is left of an input while its dump goes on: one more than its bytes from the offset on, and nothing once it has ended.
-- Assumes nothing.
use Prim.Native.Nat.{ℕ, suc, ◌-◌, ◌<◌, ◌≤◌}
use mathlib.Core.Path.{sym}
use mathlib.Core.List.{List}
use lib.ListN.{length}
use lib.Seq.{length-take-le}
use Rattle.std.specs.Prelude.{Option, None, Some}
use Rattle.std.specs.Option.{IfSome}
use native.Mathlib.Omega.{arith}
use Rattle.dump_io.specs.Streams.{IsPrefixLen}
use Rattle.dump_io.specs.Private.{Place, Further}

abbrev pub left : Option Place → ℕ → ℕ
left None len = 0
left (Some p) len = suc (len - p.0)

pub left_less : (p : Place) (q : Option Place) (len : ℕ) → IfSome q (λ r. Further p r len) → left q len < left (Some p) len
left_less p None len f = omega arith
left_less p (Some q) len f = omega (arith, f.forward, f.within)

-- so many bytes at the front of a buffer that is long enough
pub counted : (n : ℕ) (xs : List ℕ) → n ≤ length xs → IsPrefixLen n xs
counted n xs h = (h, sym (length-take-le n xs h))
