-- What the reader's steps from left to right read is exactly the row grammar.
use Rattle.std.specs.Prelude.{◌≡◌, ◌↔◌, ℕ, Ok, Err}
use Rattle.csv_rows.specs.Stream.{Fields}
use Rattle.apex_types.specs.declared.record.Record.{Record}
use Rattle.record_read.specs.declared.fault.RowFault.{RowFault}
use Rattle.apex_types.specs.declared.format.Format.{Format}
use Rattle.record_read.specs.FirstFault.{IsFirstFault}
use Rattle.record_read.specs.Grammar.{IsRow}
use Rattle.record_read.specs.Row.{record_of}
use Rattle.record_read.specs.Steps.{IsOfRow}

-- a row is read as a record exactly if it is the record's row
abbrev pub RowsAreTheGrammar : Type 0
RowsAreTheGrammar = (format : Format) (next : ℕ) (fields : Fields) (rec : Record) → (record_of format next fields ≡ Ok rec) ↔ IsRow format next fields rec

-- a row is the row of at most one record
abbrev pub OneRecordOfARow : Type 0
OneRecordOfARow = (format : Format) (next : ℕ) (fields : Fields) (rec other : Record) → IsRow format next fields rec → IsRow format next fields other → rec ≡ other

-- a row that is not a record has a fault that the text of a row can have: neither the failure of a source nor a lack of memory
abbrev pub FaultsAreOfRows : Type 0
FaultsAreOfRows = (format : Format) (next : ℕ) (fields : Fields) (fault : RowFault) → record_of format next fields ≡ Err fault → IsOfRow fault

-- a row that is not a record is refused with the fault of its first faulty field, and with no other
abbrev pub FirstFaultsDecide : Type 0
FirstFaultsDecide = (format : Format) (next : ℕ) (fields : Fields) (fault : RowFault) → (record_of format next fields ≡ Err fault) ↔ IsFirstFault format next fields fault
