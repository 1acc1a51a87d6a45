-- `inner::read_pair` meets its contract: the levels, then the signs, whose magnitudes keep their bounds.
-- Assumes nothing.
use Rattle.spectral_data.proofs.Bounds.{levels-going}
use Rattle.coding.proofs.Keeps.{both-here, keeps-at}
use native.Mathlib.Omega.{arith}
use mathlib.Core.Path.{refl, sym}
use Rattle.spectral_data.proofs.inner.read_pair.Goals as goal

pub signs-requires : goal.signs-requires
signs-requires c =
    let a = c.args in
    let t = a.tables.now in
    let j = c.requires.0 in (
      j.short,
      (keeps-at (levels-going t.lookup.now t.frequencies.now t.looked t.rows a.standard a.lsb a.p a.start 14 0 0 0 refl (λ is. omega arith) (omega arith) (omega arith)) a.state a.buf.now a.at j.short j.range (both-here a.buf.now a.at)
          (sym c.in_ok-read.ensures)).known.0,
    )
