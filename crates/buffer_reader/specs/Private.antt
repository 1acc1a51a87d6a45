-- Not needed to believe anything: what private contracts and proofs here speak by. No public contract cites it.
use Rattle.std.specs.Prelude.{ℕ, zero, suc, ◌+◌, ◌*◌, List}
use Rattle.buffer_reader.specs.Tail.{tail_byte}

-- k bytes from place j from the end on, as one number, the byte nearest the end lowest: what is gathered before a field is cut out
unfoldable pub tail_number : List ℕ → ℕ → ℕ → ℕ
tail_number f j zero = 0
tail_number f j (suc k) = tail_byte f j + 256 * tail_number f (j + 1) k
