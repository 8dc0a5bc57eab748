-- The text of a certificate.
use Rattle.std.specs.Prelude.{ℕ, List, [], ◌∷◌, ◌++◌, codes, decimal}
use Rattle.apex_types.specs.declared.record.Pair.{Pair}

-- the row of a pair: the core, then the number of its record
abbrev pub row_of : Pair → List ℕ
row_of pair = decimal pair.core ++ (codes "," ++ (decimal pair.seq ++ codes "\n"))

-- the rows of pairs, in their order
abbrev pub rows_of : List Pair → List ℕ
rows_of [] = []
rows_of (pair ∷ pairs) = row_of pair ++ rows_of pairs
