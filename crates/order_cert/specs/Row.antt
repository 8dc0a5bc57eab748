-- The rows of a certificate, each read as a pair of a core and a number.
use Rattle.std.specs.Prelude.{◌≡◌, ◌⊎◌, ℕ, Bool, true, List, Result, Ok, Err, length, nat_lt, ◌==◌, if◌then◌else◌, option_and_then}
use Rattle.std.specs.Option.{ok_or}
use Rattle.csv.specs.Records.{field_at}
use Rattle.csv_rows.specs.Decimal.{decimal}
use Rattle.csv_rows.specs.Stream.{Fields}
use Rattle.csv_rows.specs.Source.{items_of}
use Rattle.apex_types.specs.declared.limits.TheConstants.{PLACE_COUNT}
use Rattle.apex_types.specs.declared.record.Pair.{Pair}
use Rattle.order_cert.specs.declared.fault.CertFault.{CertFault}
use Rattle.order_cert.specs.declared.fault.CertFault.TheVariants.{Read, Memory, TooMany, FieldCount, BadNumber}

-- a pair, or why a row is not a pair
abbrev pub Item : Type 0
Item = Result Pair CertFault

-- a fault that does not come from the text: the failure of a source that can fail, or a lack of memory
abbrev pub IsOutside : Bool → CertFault → Type 0
IsOutside can_fail fault = ((fault ≡ Read) × (can_fail ≡ true)) ⊎ (fault ≡ Memory)

-- a fault that the text itself has
abbrev pub IsOfRow : CertFault → Type 0
IsOfRow fault = (fault ≡ TooMany) ⊎ (fault ≡ FieldCount) ⊎ (fault ≡ BadNumber)

infixl 10 ◌>>=◌
-- the first fault decides
abbrev pub ◌>>=◌ : {A B : Type 0} → Result A CertFault → (A → Result B CertFault) → Result B CertFault
(Ok x) >>= f = f x
(Err e) >>= f = Err e

-- the canonical decimal of at most 4,294,967,295 in the field at this place
unfoldable pub number_at : List (List ℕ) → ℕ → Result ℕ CertFault
number_at fields place = ok_or (option_and_then (decimal 0xFFFFFFFF) (field_at fields place)) BadNumber

-- a row has two fields: the core, then the number of its record
unfoldable pub pair_of : Fields → Item
pair_of fields = if length fields == 2 then (do
  core ← number_at fields 0
  seq ← number_at fields 1
  Ok (record { core = core; seq = seq })) else Err FieldCount

-- the row of this number, counted from 0; there are no more rows than sixteen cores have records
abbrev pub item_of : ℕ → Fields → Item
item_of number fields = if nat_lt number PLACE_COUNT then pair_of fields else Err TooMany

-- the items of a certificate's text
abbrev pub pairs_of : List ℕ → List Item
pairs_of text = items_of item_of text

-- the law

-- a row that is not a pair has a fault of the text itself: neither the failure of a source nor a lack of memory
abbrev pub FaultsAreOfRows : Type 0
FaultsAreOfRows = (number : ℕ) (fields : Fields) (fault : CertFault) → item_of number fields ≡ Err fault → IsOfRow fault
