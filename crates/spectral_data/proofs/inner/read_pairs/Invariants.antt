-- `inner::read_pairs` meets its contract: the pairs that are left, behind what the arrays hold already, are the pairs of the whole.
-- Assumes nothing.
use Rattle.spectral_data.proofs.Pairs.{fill_from}
use Rattle.spectral_data.specs.Private.{filling}
use Rattle.spectral_data.specs.Spectral.{read_pairs}
use Rattle.range_decoder.specs.Decoder.{range_passes}
use mathlib.Core.Path.{◌≡◌}
use mathlib.Core.Bool.{true}
use Prim.Native.Nat.{◌≤◌}
use Rattle.spectral_data.proofs.inner.read_pairs.Given as goal

abbrev pub invariant-loop-p : goal.invariant-loop-p
invariant-loop-p l =
    (l.context ≤ 255) ×
    (range_passes l.here.range ≡ true) ×
    (fill_from l.tables.lookup.now l.tables.frequencies.now l.standard l.lsb l.rate l.ne l.p l.pairs l.context l.lines l.levels l.here l.buf l.place ≡ filling l.pairs l.initial.lines l.initial.levels (read_pairs l.tables.lookup.now l.tables.frequencies.now l.standard l.lsb l.rate l.ne 0 l.pairs 0) l.initial.here l.buf l.initial.place)
