-- The formats of a recording.
use Rattle.std.specs.Prelude.{ℕ}
use Rattle.apex_types.specs.declared.format.Format.{Format}
use Rattle.apex_types.specs.declared.format.Format.TheVariants as format

-- the number of a format
abbrev pub format_number : Format → ℕ
format_number format.One = 1
format_number format.Two = 2
format_number format.Three = 3

-- how many fields each row has
abbrev pub field_count : Format → ℕ
field_count format.One = 16
field_count format.Two = 18
field_count format.Three = 19
