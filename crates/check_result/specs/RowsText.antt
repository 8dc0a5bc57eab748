-- What is printed for the rows of recordings.
use Rattle.std.specs.Prelude.{◌&&◌, ℕ, suc, Bool, true, List, [], ◌∷◌, ◌++◌, Option, Some, None, Err, codes, decimal, is_none, if◌then◌else◌}
use Rattle.placement.specs.declared.fault.InputFault.TheVariants.{Row}
use Rattle.record_read.specs.declared.fault.RowFault.{RowFault}
use Rattle.report.specs.declared.fault.CheckFault.TheVariants.{Input}
use Rattle.report.specs.Text.{report_of}
use Rattle.rows_check.specs.declared.found.RowsFound.{RowsFound}
use Rattle.rows_check.specs.Found.{record_count}

-- no recording has a fault
abbrev pub are_sound : List RowsFound → Bool
are_sound [] = true
are_sound (one ∷ others) = is_none one.fault && are_sound others

-- the line for a fault of the recording of this number after so many records: that of a check
abbrev pub fault_line : ℕ → ℕ → Option RowFault → List ℕ
fault_line core records None = []
fault_line core records (Some fault) = report_of (Err (Input (Row core records fault)))

-- the lines for the faults of recordings, the first of which has this number
abbrev pub fault_lines : ℕ → List RowsFound → List ℕ
fault_lines core [] = []
fault_lines core (one ∷ others) = fault_line core one.records one.fault ++ fault_lines (suc core) others

-- the text: how many records there are, or a line for each recording that has a fault
abbrev pub rows_text : List RowsFound → List ℕ
rows_text found = if are_sound found then codes "ROWS records=" ++ (decimal (record_count found) ++ codes "\n") else fault_lines 0 found

-- the status: 0, or 2 if a recording has a fault
abbrev pub rows_status : List RowsFound → ℕ
rows_status found = if are_sound found then 0 else 2
