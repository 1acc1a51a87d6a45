-- `put::put_pairs` meets its contract: behind p pairs their bits are put, and room for all is room for the next.
-- Assumes nothing.
use Rattle.spectral_data.specs.Sent.{pairs_bits}
use Rattle.spectral_data.specs.Private.{Put}
use Rattle.spectral_data.proofs.put.put_pairs.Given as goal

abbrev pub invariant-loop-p : goal.invariant-loop-p
invariant-loop-p l = Put l.writing l.initial.buf l.place (pairs_bits l.lsb l.lines 0 l.p) l.at l.buf
