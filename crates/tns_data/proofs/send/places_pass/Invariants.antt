-- `send::places_pass` meets its contract: what is left to judge from place k on is what the whole asks.
-- Assumes nothing.
use mathlib.Core.Path.{◌≡◌}
use lib.ListN.{take, drop}
use Rattle.tns_data.specs.Sent.{places_pass}
use Rattle.tns_data.proofs.Passes.{places_from}
use Rattle.tns_data.proofs.send.places_pass.Given as goal

abbrev pub invariant-loop-k : goal.invariant-loop-k
invariant-loop-k l = (places_from l.indices l.from l.order l.k ≡ places_pass l.order (take 8 (drop l.from l.indices)))
