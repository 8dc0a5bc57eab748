-- Fields of a row: filled or empty, and numbers.
use Rattle.std.specs.Prelude.{ℕ, ℤ, pos, negsuc, List, [], ◌∷◌, Option, Some, None, Result, Ok, Err}
use Rattle.std.specs.Option.{ok_or, unwrap_or}
use Rattle.csv.specs.Records.{field_at}
use Rattle.csv_rows.specs.Decimal.{decimal, signed_decimal}
use Rattle.apex_types.specs.declared.format.Format.{Format}
use Rattle.apex_types.specs.declared.format.Format.TheVariants as format
use Rattle.apex_types.specs.declared.service.Presence.{Presence}
use Rattle.apex_types.specs.declared.service.Presence.TheVariants as presence
use Rattle.record_read.specs.Column.{columns_between, place_of}
use Rattle.record_read.specs.declared.column.Column.{Column}
use Rattle.record_read.specs.declared.fault.RowFault.{RowFault}
use Rattle.record_read.specs.declared.fault.RowFault.TheVariants.{FieldNotForKind, BadNumber}
use Rattle.record_read.specs.declared.misread.Misread.{Misread}
use Rattle.record_read.specs.Steps.{◌>>=◌, located}

-- the bytes of the field at this place
abbrev pub bytes_at : List (List ℕ) → ℕ → List ℕ
bytes_at fields place = unwrap_or (field_at fields place) []

-- the text of a column; empty if the row ends before it
abbrev pub text_at : List (List ℕ) → Column → List ℕ
text_at fields column = bytes_at fields (place_of column)

-- what is read from the text of a column; a fault is at that column
abbrev pub read_at : {A : Type 0} → (List ℕ → Result A RowFault) → List (List ℕ) → Column → Result A Misread
read_at read fields column = located column (read (text_at fields column))

-- a field that must be empty
abbrev pub empty : List ℕ → Result (Unit {0}) RowFault
empty [] = Ok tt
empty (b ∷ bs) = Err FieldNotForKind

-- the fields of these columns, which must be empty
unfoldable pub all_empty : List (List ℕ) → List Column → Result (Unit {0}) Misread
all_empty fields [] = Ok tt
all_empty fields (first ∷ others) = read_at empty fields first >>= (λ u. all_empty fields others)

-- the fields from one column to another, which must be empty
abbrev pub empty_between : List (List ℕ) → Column → Column → Result (Unit {0}) Misread
empty_between fields first last = all_empty fields (columns_between first last)

-- a field that must be filled: what is found in its text, or else this fault
unfoldable pub filled : {A : Type 0} → RowFault → Option A → List ℕ → Result A RowFault
filled bad found [] = Err FieldNotForKind
filled bad found (b ∷ bs) = ok_or found bad

-- a field that may be left out: none if it is empty, and else what is read from its text
unfoldable pub maybe : {A : Type 0} → Result A RowFault → List ℕ → Result (Option A) RowFault
maybe read [] = Ok None
maybe read (b ∷ bs) = read >>= (λ value. Ok (Some value))

-- a number from 0 to `max`, in a field that must be filled
unfoldable pub number : ℕ → List ℕ → Result ℕ RowFault
number max text = filled BadNumber (decimal max text) text

-- a number from 0 to `max`, in a field that may be left out
unfoldable pub maybe_number : ℕ → List ℕ → Result (Option ℕ) RowFault
maybe_number max text = maybe (number max text) text

-- a signed number of 64 bits, in a field that must be filled
unfoldable pub signed : List ℕ → Result ℤ RowFault
signed text = filled BadNumber (signed_decimal text) text

-- a signed number of 64 bits, in a field that may be left out
unfoldable pub maybe_signed : List ℕ → Result (Option ℤ) RowFault
maybe_signed text = maybe (signed text) text

-- an argument that may be left out, in a recording of this format: before format 3 it is; left out, it is -1
unfoldable pub maybe_argument : Format → List ℕ → Result ℤ RowFault
maybe_argument format.Three text = maybe_signed text >>= (λ found. Ok (unwrap_or found (negsuc 0)))
maybe_argument _ text = empty text >>= (λ u. Ok (negsuc 0))

-- an argument: the field is filled if the service takes it, and else empty, which means 0
unfoldable pub argument : Format → Presence → List ℕ → Result ℤ RowFault
argument format presence.Required text = signed text
argument format presence.Absent text = empty text >>= (λ u. Ok (pos 0))
argument format presence.Optional text = maybe_argument format text
