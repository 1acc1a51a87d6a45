-- The table set that is lent, as document 01's five lists.
use Rattle.std.specs.Prelude.{[]}
use Rattle.common.specs.Tables.{Tables, tables_of}
use Rattle.common.specs.declared.table_set.TableSet.{TableSet}
use Rattle.common.specs.declared.table_set.PassedSet.{PassedSet}
use Rattle.common.specs.declared.table_set.CodedTables.{CodedTables}

abbrev pub set_of : TableSet → Tables
set_of t = tables_of t.lookup.now t.frequencies.now t.bits.now t.orders.now t.coefficients.now

-- the same of a set that passes
abbrev pub passed_of : PassedSet → Tables
passed_of t = tables_of t.lookup.now t.frequencies.now t.bits.now t.orders.now t.coefficients.now

-- and of what a frame is coded by
abbrev pub coded_of : CodedTables → Tables
coded_of t = tables_of t.pairs.lookup.now t.pairs.frequencies.now [] t.tns.orders.now t.tns.coefficients.now
