-- `send::send_indices` meets its contract: the indices from place k on, from the state and the buffer as they are, make what all make.
-- Assumes nothing.
use Rattle.sending.proofs.Left.{Left}
use Rattle.tns_data.proofs.Leaves.{all_indices, indices_from}
use Rattle.tns_data.proofs.send.send_indices.Given as goal

abbrev pub invariant-loop-k : goal.invariant-loop-k
invariant-loop-k l =
    (Left l.writing l.initial.s l.initial.buf (all_indices l.tables.coefficients.now l.indices l.from l.order) l.s l.buf (indices_from l.tables.coefficients.now l.indices l.from l.order l.k))
