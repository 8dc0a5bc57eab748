-- What the rows of a recording are found to be.
use Rattle.std.specs.Prelude.{◌≡◌, ◌⊎◌, ◌+◌, ℕ, Bool, true, List, [], ◌∷◌, ◌++◌, Option, Some, None, Ok, Err, length, map}
use Rattle.apex_types.specs.declared.record.Record.{Record}
use Rattle.record_read.specs.declared.fault.RowFault.{RowFault}
use Rattle.record_read.specs.declared.fault.RowFault.TheVariants.{Read}
use Rattle.record_read.specs.Row.{Item}
use Rattle.rows_check.specs.declared.found.RowsFound.{RowsFound}

-- what comes after the sound records: no row is left, or the next row has this fault; or a reader that can fail has failed
abbrev pub Follows : Bool → List Item → Option RowFault → Type 0
Follows can_fail items None = items ≡ []
Follows can_fail items (Some fault) = ((rest : List Item) × (items ≡ Err fault ∷ rest)) ⊎ ((fault ≡ Read) × (can_fail ≡ true))

-- this is found in a recording of these items: so many sound records, and what comes after them
pub record IsFoundIn (can_fail : Bool) (items : List Item) (found : RowsFound) : Type 0 where
  pub records : List Record
  pub rest : List Item
  pub begins : items ≡ map Ok records ++ rest
  pub count : length records ≡ found.records
  pub follows : Follows can_fail rest found.fault

-- how many sound records recordings begin with together
abbrev pub record_count : List RowsFound → ℕ
record_count [] = 0
record_count (one ∷ others) = one.records + record_count others
