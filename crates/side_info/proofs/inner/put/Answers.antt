-- `inner::put` meets its contract: the record's fields are laid behind one another. Assumes nothing.
use Rattle.side_info.proofs.inner.put.Goals as goal

pub put_fields-requires : goal.put_fields-requires
put_fields-requires c =
    let p = c.requires in
    rw c.fields_of.ensures (p.4, p.5)

pub returns : goal.returns
returns c = rw (← c.fields_of.ensures) c.put_fields.ensures
