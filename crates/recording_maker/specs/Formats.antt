-- The format of a recording that is made.
use Rattle.std.specs.Prelude.{◌≡◌, ℕ, List, [], ◌∷◌}
use Rattle.apex_types.specs.declared.format.Format.{Format}
use Rattle.csv_rows.specs.Stream.{Fields, rows_of}
use Rattle.record_read.specs.Format.{begun_by}

-- the first of these rows gives this format; no rows are in any
abbrev pub BeginsIn : Format → List Fields → Type 0
BeginsIn format [] = Unit {0}
BeginsIn format (fields ∷ rest) = begun_by fields ≡ format

-- a recording is in this format
abbrev pub IsInFormat : Format → List ℕ → Type 0
IsInFormat format text = BeginsIn format (rows_of text)
