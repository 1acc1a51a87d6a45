-- Document 01, "Configuration and table set": the table set, when it passes, and the cumulatives of a row.
use Rattle.std.specs.Prelude.{ℕ, zero, suc, ◌+◌, ◌*◌, Bool, true, ◌&&◌, List, [], ◌∷◌, leb, eqb, length, take, drop}

-- lookup (4,096 bytes), spectral frequencies and bits (64 rows of 17), TNS order (2 rows of 8) and coefficient (8 rows of 17) frequencies
pub record Tables : Type 0 where
  pub lookup : List ℕ
  pub frequencies : List ℕ
  pub bits : List ℕ
  pub orders : List ℕ
  pub coefficients : List ℕ

abbrev pub tables_of : List ℕ → List ℕ → List ℕ → List ℕ → List ℕ → Tables
tables_of lookup frequencies bits orders coefficients =
    record { lookup = lookup; frequencies = frequencies; bits = bits; orders = orders; coefficients = coefficients }

-- the four that a frame is coded by: the bits are the estimate's
abbrev pub coded_in : Tables → Tables
coded_in t = tables_of t.lookup t.frequencies [] t.orders t.coefficients

unfoldable pub total : List ℕ → ℕ
total [] = 0
total (x ∷ xs) = x + total xs

unfoldable pub all_at_least : ℕ → List ℕ → Bool
all_at_least least [] = true
all_at_least least (x ∷ xs) = leb least x && all_at_least least xs

unfoldable pub all_at_most : ℕ → List ℕ → Bool
all_at_most most [] = true
all_at_most most (x ∷ xs) = leb x most && all_at_most most xs

-- a row, of any length: each frequency at least 1, and the total 1,024
abbrev pub row_passes : List ℕ → Bool
row_passes row = all_at_least 1 row && eqb (total row) 1024

-- each of so many rows of a width, one behind the other
unfoldable pub rows_pass : ℕ → ℕ → List ℕ → Bool
rows_pass zero width xs = true
rows_pass (suc n) width xs = row_passes (take width xs) && rows_pass n width (drop width xs)

-- a part of the set that holds rows of frequencies has its size, and each row passes
abbrev pub part_passes : ℕ → ℕ → List ℕ → Bool
part_passes rows width xs = eqb (length xs) (rows * width) && rows_pass rows width xs

-- the lookup has its size, and each entry is at most 63
abbrev pub lookup_passes : List ℕ → Bool
lookup_passes xs = eqb (length xs) 4096 && all_at_most 63 xs

-- "it passes exactly when every part has its size, each lookup entry is at most 63, each frequency at least 1, each frequency row totals 1,024"
abbrev pub tables_pass : Tables → Bool
tables_pass t =
    lookup_passes t.lookup &&
    part_passes 64 17 t.frequencies &&
    eqb (length t.bits) (64 * 17) &&
    part_passes 2 8 t.orders &&
    part_passes 8 17 t.coefficients

-- what of it a frame is coded by
abbrev pub coded_pass : Tables → Bool
coded_pass t =
    lookup_passes t.lookup &&
    part_passes 64 17 t.frequencies &&
    part_passes 2 8 t.orders &&
    part_passes 8 17 t.coefficients

-- "cumulatives are the running sums from 0": what stands before place k
abbrev pub cumulative : List ℕ → ℕ → ℕ
cumulative row k = total (take k row)

-- the k-th of the rows of a width that stand behind one another in a part
abbrev pub row_at : ℕ → ℕ → List ℕ → List ℕ
row_at width k part = take width (drop (k * width) part)
