-- A recording has at most so many sound records.
use Rattle.std.proofs.Common.{◌≡◌, ◌+◌, ◌<◌, ◌≤◌, ℕ, suc, List, [], ◌∷◌, ◌++◌, Bool, true, false, Result, Ok, Err, length, map, refl, ap, arith, nat_lt, ltb-true, if◌then◌else◌}
use Rattle.apex_types.specs.declared.format.Format.{Format}
use Rattle.apex_types.specs.declared.limits.TheConstants.{MOST_RECORDS}
use Rattle.apex_types.specs.declared.record.Record.{Record}
use Rattle.csv_rows.specs.Source.{items_from}
use Rattle.csv_rows.specs.Stream.{Fields}
use Rattle.record_read.specs.declared.fault.RowFault.TheVariants.{TooMany}
use Rattle.record_read.specs.declared.misread.Misread.{Misread}
use Rattle.record_read.specs.Row.{Item, record_of, row_in}
use Rattle.record_read.specs.Steps.{fault_only, no_field}

-- a row that is tested for a fault that it has not
passes : (test : Bool) (steps : Result Record Misread) (rec : Record) → ◌≡◌ {A = Item} (fault_only (if test then steps else Err (no_field TooMany))) (Ok rec) → test ≡ true
passes true steps rec is = refl
passes false steps rec is = let no : ◌≡◌ {A = Item} (Err TooMany) (Ok rec) = is in cc

-- the number of a sound row
numbered : (format : Format) (next : ℕ) (fields : Fields) (rec : Record) → record_of format next fields ≡ Ok rec → next < MOST_RECORDS
unfolding record_of row_in
numbered format next fields rec is = ltb-true next MOST_RECORDS (passes (nat_lt next MOST_RECORDS) _ rec is)

-- the first of a list, and the others
first_of : Item → List Item → Item
first_of other [] = other
first_of other (item ∷ items) = item

others_of : List Item → List Item
others_of [] = []
others_of (item ∷ items) = items

pub at_most : (format : Format) (number : ℕ) (rows : List Fields) (records : List Record) (rest : List Item) → number ≤ MOST_RECORDS
    → items_from (record_of format) number rows ≡ map Ok records ++ rest → number + length records ≤ MOST_RECORDS
unfolding record_of first_of others_of
at_most format number rows [] rest room is = omega arith
at_most format number [] (rec ∷ records) rest room is = let no : ◌≡◌ {A = List Item} [] (Ok rec ∷ map Ok records ++ rest) = is in cc
at_most format number (fields ∷ rows) (rec ∷ records) rest room is =
    let below : number < MOST_RECORDS = numbered format number fields rec (ap (first_of (Err TooMany)) is) in
    let onward : suc number + length records ≤ MOST_RECORDS = at_most format (suc number) rows records rest (omega arith) (ap others_of is) in
    omega arith
