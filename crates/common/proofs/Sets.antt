-- What each part's verdict says of the whole set, what a set that passes says of each part, and that the flat set passes.
-- Assumes nothing.
use mathlib.Core.Path.{◌≡◌, refl}
use mathlib.Core.Bool.{Bool, true, false, ◌&&◌}
use borrow.Author.Tests.{ne_eqb, eq-eqb, eqb-true}
use lib.Dec.{eqb}
use lib.ListN.{length}
use Rattle.common.specs.Tables.{Tables, lookup_passes, part_passes, tables_pass, coded_pass, total, all_at_least, all_at_most, rows_pass}
use Rattle.common.specs.TableSets.{coded_of}
use Rattle.common.specs.declared.table_set.CodedTables.{CodedTables}
use Rattle.common.specs.Flat.{flat_set, tabulate}
use Rattle.common.proofs.Bools.{and_left, and_right, and-first-fails, and-second-fails, and_both, and-first-holds}

module _ (t : Tables) where
  abbrev first : Bool
  first = lookup_passes t.lookup

  abbrev second : Bool
  second = part_passes 64 17 t.frequencies

  abbrev third : Bool
  third = eqb (length t.bits) 1088

  abbrev fourth : Bool
  fourth = part_passes 2 8 t.orders

  abbrev last : Bool
  last = part_passes 8 17 t.coefficients

  pub lookup-fails : lookup_passes t.lookup ≡ false → tables_pass t ≡ false
  lookup-fails e = and-first-fails last (and-first-fails fourth (and-first-fails third (and-first-fails second e)))

  pub frequencies-fail : part_passes 64 17 t.frequencies ≡ false → tables_pass t ≡ false
  frequencies-fail e = and-first-fails last (and-first-fails fourth (and-first-fails third (and-second-fails first e)))

  pub bits-fail : (length t.bits ≡ 1088 → ⊥) → tables_pass t ≡ false
  bits-fail h =
      and-first-fails last
      (and-first-fails fourth (and-second-fails (first && second) (ne_eqb (length t.bits) 1088 h)))

  pub orders-fail : part_passes 2 8 t.orders ≡ false → tables_pass t ≡ false
  orders-fail e = and-first-fails last (and-second-fails (first && second && third) e)

  pub coefficients-decide : lookup_passes t.lookup ≡ true → part_passes 64 17 t.frequencies ≡ true → length t.bits ≡ 1088 → part_passes 2 8 t.orders ≡ true → tables_pass t ≡ part_passes 8 17 t.coefficients
  coefficients-decide p q r s =
      and-first-holds last
      (and_both (first && second && third) fourth
      (and_both (first && second) third (and_both first second p q) (eq-eqb (length t.bits) 1088 r)) s)

  -- a set that passes
  pub lookup-passed : tables_pass t ≡ true → lookup_passes t.lookup ≡ true
  lookup-passed e =
      and_left first second
      (and_left (first && second) third
      (and_left (first && second && third) fourth (and_left (first && second && third && fourth) last e)))

  pub frequencies-passed : tables_pass t ≡ true → part_passes 64 17 t.frequencies ≡ true
  frequencies-passed e =
      and_right first second
      (and_left (first && second) third
      (and_left (first && second && third) fourth (and_left (first && second && third && fourth) last e)))

  pub bits-passed : tables_pass t ≡ true → length t.bits ≡ 1088
  bits-passed e =
      eqb-true (length t.bits) 1088
      (and_right (first && second) third
      (and_left (first && second && third) fourth (and_left (first && second && third && fourth) last e)))

  pub orders-passed : tables_pass t ≡ true → part_passes 2 8 t.orders ≡ true
  orders-passed e =
      and_right (first && second && third) fourth (and_left (first && second && third && fourth) last e)

  pub coefficients-passed : tables_pass t ≡ true → part_passes 8 17 t.coefficients ≡ true
  coefficients-passed e = and_right (first && second && third && fourth) last e

  -- a set whose coded parts pass
  pub coded-both : lookup_passes t.lookup ≡ true → part_passes 64 17 t.frequencies ≡ true → part_passes 2 8 t.orders ≡ true → part_passes 8 17 t.coefficients ≡ true → coded_pass t ≡ true
  coded-both p q r s = and_both (first && second && fourth) last (and_both (first && second) fourth (and_both first second p q) r) s

  pub coded-passed : tables_pass t ≡ true → coded_pass t ≡ true
  coded-passed e = coded-both (lookup-passed e) (frequencies-passed e) (orders-passed e) (coefficients-passed e)

  pub lookup-coded : coded_pass t ≡ true → lookup_passes t.lookup ≡ true
  lookup-coded e = and_left first second (and_left (first && second) fourth (and_left (first && second && fourth) last e))

  pub frequencies-coded : coded_pass t ≡ true → part_passes 64 17 t.frequencies ≡ true
  frequencies-coded e = and_right first second (and_left (first && second) fourth (and_left (first && second && fourth) last e))

  pub orders-coded : coded_pass t ≡ true → part_passes 2 8 t.orders ≡ true
  orders-coded e = and_right (first && second) fourth (and_left (first && second && fourth) last e)

  pub coefficients-coded : coded_pass t ≡ true → part_passes 8 17 t.coefficients ≡ true
  coefficients-coded e = and_right (first && second && fourth) last e

-- and those that are lent as such pass
pub coded-lent : (p : CodedTables) → coded_pass (coded_of p) ≡ true
coded-lent p = coded-both (coded_of p) p.pairs.looked p.pairs.rows p.tns.order_rows p.tns.index_rows

-- computed over every entry
pub flat-passes : tables_pass flat_set ≡ true
unfolding total all_at_least all_at_most rows_pass tabulate
flat-passes = refl
