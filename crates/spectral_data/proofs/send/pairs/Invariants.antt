-- `send::pairs` meets its contract: the pairs that are left, by the context so far, make of the state and the buffer so far what all of
-- them make. Assumes nothing.
use Rattle.sending.proofs.Left.{Left}
use Rattle.spectral_data.specs.Sent.{sent_pairs}
use Prim.Native.Nat.{◌-◌, ◌≤◌}
use Rattle.spectral_data.proofs.send.pairs.Given as goal

abbrev pub invariant-loop-p : goal.invariant-loop-p
invariant-loop-p l =
    Left l.writing l.initial.here l.initial.buf (sent_pairs l.tables.lookup.now l.tables.frequencies.now l.rate l.ne l.lines 0 l.pairs 0) l.here l.buf (sent_pairs l.tables.lookup.now l.tables.frequencies.now l.rate l.ne l.lines l.p (l.pairs - l.p) l.context) ×
    (l.context ≤ 255)
