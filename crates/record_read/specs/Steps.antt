-- Steps of reading a row, the first fault of which decides.
use Rattle.std.specs.Prelude.{◌≡◌, ◌⊎◌, Bool, true, Some, None, Result, Ok, Err, IsOkAnd}
use Rattle.record_read.specs.declared.column.Column.{Column}
use Rattle.record_read.specs.declared.fault.RowFault.{RowFault}
use Rattle.record_read.specs.declared.fault.RowFault.TheVariants.{Read, Memory, Ended}
use Rattle.record_read.specs.declared.misread.Misread.{Misread}

infixl 10 ◌>>=◌
-- the first fault decides
abbrev pub ◌>>=◌ : {A B Fault : Type 0} → Result A Fault → (A → Result B Fault) → Result B Fault
(Ok x) >>= f = f x
(Err e) >>= f = Err e

-- a fault of the field of a column
abbrev pub misread_at : Column → RowFault → Misread
misread_at column fault = record { fault = fault; column = Some column }

-- what was read in the field of a column; a fault is at that column
abbrev pub located : {A : Type 0} → Column → Result A RowFault → Result A Misread
located column (Ok x) = Ok x
located column (Err fault) = Err (misread_at column fault)

-- a fault that no one field has
abbrev pub no_field : RowFault → Misread
no_field fault = record { fault = fault; column = None }

-- what was read, and of a fault only the cause
abbrev pub fault_only : {A : Type 0} → Result A Misread → Result A RowFault
fault_only (Ok x) = Ok x
fault_only (Err misread) = Err misread.fault

-- a fault that does not come from the text: the failure of a source that can fail, or a lack of memory
abbrev pub IsOutside : Bool → RowFault → Type 0
IsOutside can_fail fault = ((fault ≡ Read) × (can_fail ≡ true)) ⊎ (fault ≡ Memory)

-- a fault that the text of a row can have
abbrev pub IsOfRow : RowFault → Type 0
IsOfRow Read = ⊥
IsOfRow Memory = ⊥
IsOfRow Ended = ⊥
IsOfRow _ = Unit {0}

-- a refusal: the text has this fault; or it has none, and memory was refused for a value that needs memory
abbrev pub Refuses : {A : Type 0} → (A → Type 0) → RowFault → Result A RowFault → Type 0
Refuses needs fault read = (IsOfRow fault × (read ≡ Err fault)) ⊎ ((fault ≡ Memory) × IsOkAnd read needs)

-- the same, with the column of the fault
abbrev pub RefusesAt : {A : Type 0} → (A → Type 0) → Misread → Result A Misread → Type 0
RefusesAt needs misread read = (IsOfRow misread.fault × (read ≡ Err misread)) ⊎ ((misread ≡ no_field Memory) × IsOkAnd read needs)
