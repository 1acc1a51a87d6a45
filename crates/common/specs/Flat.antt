-- Document 01, "The flat set", each part by the place i of an entry, at any length.
use Rattle.std.specs.Prelude.{ℕ, zero, suc, ◌*◌, ◌%◌, cond, List, [], ◌∷◌, eqb}
use Rattle.common.specs.Tables.{Tables}

-- f at n places from i on
unfoldable pub tabulate : (ℕ → ℕ) → ℕ → ℕ → List ℕ
tabulate f i zero = []
tabulate f i (suc n) = f i ∷ tabulate f (suc i) n

-- what stands at place i in rows of a width that have one number first and then another
abbrev pub in_rows : ℕ → ℕ → ℕ → ℕ → ℕ
in_rows width first rest i = cond (eqb (i % width) 0) first rest

-- "lookup i holds i mod 64"
abbrev pub flat_lookup : ℕ → List ℕ
flat_lookup n = tabulate (λ i. i % 64) 0 n

-- "rows of 17 are 64 then sixteen 60s"
abbrev pub flat_rows : ℕ → List ℕ
flat_rows n = tabulate (in_rows 17 64 60) 0 n

-- "order rows are eight 128s"
abbrev pub flat_orders : ℕ → List ℕ
flat_orders n = tabulate (in_rows 8 128 128) 0 n

-- "bits 8,192 then sixteen 8,383s"
abbrev pub flat_bits : ℕ → List ℕ
flat_bits n = tabulate (in_rows 17 8192 8383) 0 n

-- the flat set
abbrev pub flat_set : Tables
flat_set =
    record {
      lookup = flat_lookup 4096;
      frequencies = flat_rows (64 * 17);
      bits = flat_bits (64 * 17);
      orders = flat_orders (2 * 8);
      coefficients = flat_rows (8 * 17);
    }
