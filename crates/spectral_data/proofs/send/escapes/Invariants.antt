-- `send::escapes` meets its contract: the escapes that are left, from the state and the buffer so far, make what all of them make.
-- Assumes nothing.
use Rattle.sending.proofs.Left.{Left}
use Rattle.spectral_data.specs.Sent.{sent_escapes}
use Prim.Native.Nat.{◌-◌}
use Rattle.spectral_data.proofs.send.escapes.Given as goal

abbrev pub invariant-loop-level : goal.invariant-loop-level
invariant-loop-level l =
    Left l.writing l.initial.here l.initial.buf (sent_escapes l.tables.lookup.now l.tables.frequencies.now l.start 0 l.n) l.here l.buf (sent_escapes l.tables.lookup.now l.tables.frequencies.now l.start l.level (l.n - l.level))
