-- `inner::read_indices` meets its contract: the indices from k on, laid behind what has been laid, make what the whole asks for,
-- and behind each symbol the range passes again. Assumes nothing.
use Prim.Native.Nat.{◌+◌, ◌-◌, ◌*◌}
use mathlib.Core.Path.{◌≡◌}
use mathlib.Core.Bool.{true}
use lib.ListN.{length}
use Rattle.range_decoder.specs.Decoder.{range_passes}
use Rattle.tns_data.specs.Tns.{read_indices}
use Rattle.tns_data.specs.Private.{indices_laid}
use Rattle.tns_data.proofs.inner.read_indices.Given as goal

abbrev pub invariant-loop-k : goal.invariant-loop-k
invariant-loop-k l =
    (length l.indices ≡ 16) ×
    (range_passes l.s.range ≡ true) ×
    (indices_laid l.indices (8 * l.filter + l.k-counter) l.order (read_indices l.tables.coefficients.now l.filter l.k-counter (l.order - l.k-counter) l.s l.buf l.c) ≡ indices_laid l.initial.indices (8 * l.filter) l.order (read_indices l.tables.coefficients.now l.filter 0 l.order l.initial.s l.buf l.initial.c))
