-- `inner::read_symbol` meets its contract: the row that the lookup names is one of the 64, so it passes.
-- Assumes nothing.
use Rattle.spectral_data.proofs.Bounds.{row_ok}
use Rattle.spectral_data.proofs.Sends.{frequencies-length}
use Rattle.contexts.proofs.Lookups.{row_low}
use native.Mathlib.Omega.{arith}
use Rattle.spectral_data.proofs.inner.read_symbol.Goals as goal

pub overflow_mul-row : goal.overflow_mul-row
overflow_mul-row c =
    let t = c.args.tables.now in
    omega (arith, c.row-row.ensures, row_low t.lookup.now t.looked c.args.start c.args.level)

pub symbol-requires : goal.symbol-requires
symbol-requires c =
    let a = c.args in
    let t = a.tables.now in
    let looked = t.looked in
    let rows = t.rows in (
      c.requires.0.short,
      c.requires.0.range,
      omega (arith, c.row-row.ensures, row_low t.lookup.now looked a.start a.level, frequencies-length t.lookup.now t.frequencies.now looked rows),
      rw c.row-row.ensures (row_ok t.lookup.now t.frequencies.now looked rows a.start a.level),
    )
