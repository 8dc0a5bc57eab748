-- The format of a recording, by its first row.
use Rattle.std.specs.Prelude.{List, [], ◌∷◌, length, ◌==◌, if◌then◌else◌}
use Rattle.csv_rows.specs.Stream.{Fields}
use Rattle.apex_types.specs.Format.{field_count}
use Rattle.apex_types.specs.declared.format.Format.{Format}
use Rattle.apex_types.specs.declared.format.Format.TheVariants as format

-- the format of a recording that begins with this row: format 3 or format 2 if the row has as many fields, and else format 1
abbrev pub begun_by : Fields → Format
begun_by fields =
    if length fields == field_count format.Three then format.Three
    else if length fields == field_count format.Two then format.Two
    else format.One

-- the format of a recording of these rows: the first row gives it, whatever its faults; if there is none it is format 1
abbrev pub format_of : List Fields → Format
format_of [] = format.One
format_of (fields ∷ rest) = begun_by fields
