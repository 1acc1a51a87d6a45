-- `inner::read_levels` meets its contract: the levels that are left, with the low bits so far, are the levels of the whole pair.
-- Assumes nothing.
use Rattle.spectral_data.specs.Spectral.{read_levels}
use Rattle.range_decoder.specs.Decoder.{range_passes}
use mathlib.Core.Path.{◌≡◌}
use mathlib.Core.Bool.{true}
use Prim.Native.Nat.{◌-◌, ◌^◌, ◌<◌}
use Rattle.spectral_data.proofs.inner.read_levels.Given as goal

abbrev pub invariant-loop-level : goal.invariant-loop-level
invariant-loop-level l =
    (l.low_first < 2 ^ l.level) ×
    (l.low_second < 2 ^ l.level) ×
    (range_passes l.here.range ≡ true) ×
    (read_levels l.tables.lookup.now l.tables.frequencies.now l.standard l.lsb l.p l.start (14 - l.level) l.level l.low_first l.low_second l.here l.buf l.place ≡ read_levels l.tables.lookup.now l.tables.frequencies.now l.standard l.lsb l.p l.start 14 0 0 0 l.initial.here l.buf l.initial.place)
