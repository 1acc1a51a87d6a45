-- `put::put_lows` meets its contract: behind so many levels their bits are put, and room for all is room for the next.
-- Assumes nothing.
use Prim.Native.Nat.{ℕ}
use Rattle.spectral_data.specs.Sent.{lows_from}
use Rattle.spectral_data.specs.Private.{Put}
use Rattle.spectral_data.proofs.put.put_lows.Given as goal

abbrev pub invariant-loop-level : goal.invariant-loop-level
invariant-loop-level l = (k : ℕ) → Put l.writing l.initial.buf l.place (lows_from l.lsb k l.a l.b 0 l.level) l.at l.buf
