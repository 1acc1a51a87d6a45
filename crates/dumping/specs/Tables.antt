-- The tables that are held, as document 01's table set.
use Rattle.common.specs.Tables.{Tables, tables_of}
use Rattle.dumping.specs.declared.HeldTables.{HeldTables}

abbrev pub tables_in : HeldTables → Tables
tables_in t = tables_of t.lookup t.frequencies t.bits t.orders t.coefficients
