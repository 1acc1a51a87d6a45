-- `inner::side_length` meets its contract: the record's fields are at most 74 bits. Assumes nothing.
use mathlib.Core.Path.{ap, ◌∙◌}
use native.Mathlib.Omega.{arith}
use Rattle.side_info.specs.Layout.{length_of}
use Rattle.side_info.proofs.Lengths.{length-range}
use Rattle.side_info.proofs.inner.side_length.Goals as goal

pub length_of-requires : goal.length_of-requires
length_of-requires c =
    let a = c.args in
    let p = c.requires in
    rw c.fields_of.ensures (omega (arith, (length-range a.fs_ind a.ne a.side p.0 p.1 p.2).1))

pub returns : goal.returns
returns c = c.length_of.ensures ∙ ap length_of c.fields_of.ensures
