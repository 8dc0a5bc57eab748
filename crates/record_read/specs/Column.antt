-- The columns of a recording.
use Rattle.std.specs.Prelude.{ℕ, ◌+◌, ◌-◌, List, [], ◌∷◌, Option, Some, None, take, drop}
use Rattle.apex_types.specs.declared.limits.TheConstants.{GREATEST_CHANNEL, GREATEST_NUMBER, GREATEST_PARTITION, GREATEST_PRIORITY, MOST_RECORDS}
use Rattle.record_read.specs.declared.column.Column.{Column}
use Rattle.record_read.specs.declared.column.Column.TheVariants as column

-- the place of a column's field in a row; rows of format 1 have the fields up to 15, those of format 2 up to 17
abbrev pub place_of : Column → ℕ
place_of column.Sequence = 0
place_of column.Kind = 1
place_of column.Partition = 2
place_of column.Process = 3
place_of column.Service = 4
place_of column.FirstNumber = 5
place_of column.SecondNumber = 6
place_of column.ThirdNumber = 7
place_of column.Name = 8
place_of column.Message = 9
place_of column.Priority = 10
place_of column.Outcome = 11
place_of column.Value = 12
place_of column.Data = 13
place_of column.Channel = 14
place_of column.Woken = 15
place_of column.SecondValue = 16
place_of column.ThirdValue = 17
place_of column.Error = 18

-- all columns, in their order
abbrev pub every_column : List Column
every_column =
    column.Sequence ∷ column.Kind ∷ column.Partition ∷ column.Process ∷ column.Service ∷ column.FirstNumber ∷ column.SecondNumber ∷ column.ThirdNumber ∷ column.Name ∷ column.Message ∷ column.Priority ∷ column.Outcome ∷ column.Value ∷ column.Data ∷ column.Channel ∷ column.Woken ∷ column.SecondValue ∷ column.ThirdValue ∷ column.Error ∷ []

-- the columns from one to another
abbrev pub columns_between : Column → Column → List Column
columns_between first last = take (place_of last + 1 - place_of first) (drop (place_of first) every_column)

-- the greatest number that a column's field can have, if its numbers are those from 0 on
abbrev pub greatest_of : Column → Option ℕ
greatest_of column.Sequence = Some (MOST_RECORDS - 1)
greatest_of column.Partition = Some GREATEST_PARTITION
greatest_of column.Process = Some GREATEST_NUMBER
greatest_of column.Priority = Some GREATEST_PRIORITY
greatest_of column.Channel = Some GREATEST_CHANNEL
greatest_of _ = None
