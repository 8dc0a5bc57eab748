-- How the value under one key is read: it is missing, has the wrong type, is out of range, or is taken.
use Rattle.std.specs.Prelude.{◌≡◌, ◌≢◌, ℕ, ◌+◌, List, [], ◌∷◌, length, Option, Some, None, is_some, Result, Ok, Err, Bool, true, false, ◌&&◌, nat_le, pos, negsuc, codes, if◌then◌else◌}
use Rattle.std.specs.List.{list_all}
use Rattle.std.specs.Str.{bytes_eq}
use Rattle.toml.specs.Data.{Data, integer, string, array, table, Items, no_items, item, Members, get_item}
use Rattle.toml.specs.Text.{has_items}
use Rattle.apex_types.specs.declared.limits.TheConstants.{GREATEST_SPAN, LONGEST_NAME}
use Rattle.apex_types.specs.declared.discipline.Discipline.{Discipline}
use Rattle.apex_types.specs.declared.discipline.Discipline.TheVariants as discipline
use Rattle.apex_machine.specs.declared.state.Direction.{Direction}
use Rattle.apex_machine.specs.declared.state.Direction.TheVariants as direction
use Rattle.apex_machine.specs.declared.state.ErrorPolicy.{ErrorPolicy}
use Rattle.apex_machine.specs.declared.state.ErrorPolicy.TheVariants as policy
use Rattle.module_config.specs.declared.fault.ConfigFault.{ConfigFault}
use Rattle.module_config.specs.declared.fault.ConfigFault.TheVariants.{Missing, WrongType, OutOfRange, Memory}
use Rattle.module_config.specs.declared.keys.ItemType.{ItemType}
use Rattle.module_config.specs.declared.keys.ItemType.TheVariants as of
use Rattle.module_config.specs.declared.refusal.ConfigRefusal.{ConfigRefusal}

infixl 10 ◌>>=◌
-- a reading followed by the next one; the first refusal is the answer
abbrev pub ◌>>=◌ : {A B Refusal : Type 0} → Result A Refusal → (A → Result B Refusal) → Result B Refusal
(Ok value) >>= next = next value
(Err refusal) >>= next = Err refusal

-- the answer of a call is the reading: its value as the definitions see it, or its refusal
abbrev pub Reads : {A B Refusal : Type 0} → (A → B) → Result A Refusal → Result B Refusal → Type 0
Reads view (Ok value) reading = reading ≡ Ok (view value)
Reads view (Err refusal) reading = reading ≡ Err refusal

-- the answer of a call is the reading, unless memory ran out
abbrev pub Gives : {A B : Type 0} → (A → B) → Result A ConfigFault → Result B ConfigFault → Type 0
Gives view (Ok value) reading = reading ≡ Ok (view value)
Gives view (Err fault) reading = fault ≢ Memory → reading ≡ Err fault

-- the answer of a call is the reading with the place of its refusal, unless memory ran out
abbrev pub GivesPlaced : {A B : Type 0} → (A → B) → Result A ConfigRefusal → Result B ConfigRefusal → Type 0
GivesPlaced view (Ok value) reading = reading ≡ Ok (view value)
GivesPlaced view (Err refusal) reading = refusal.fault ≢ Memory → reading ≡ Err refusal

-- a value that is required
abbrev pub required : Option Data → Result Data ConfigFault
required None = Err Missing
required (Some value) = Ok value

-- an integer that is not negative
abbrev pub natural_in : Data → Result ℕ ConfigFault
natural_in (integer (pos number)) = Ok number
natural_in (integer (negsuc number)) = Err OutOfRange
natural_in _ = Err WrongType

-- the number under a key
abbrev pub natural_at : Option Data → Result ℕ ConfigFault
natural_at value = required value >>= natural_in

-- a number from the least to the greatest that is allowed
abbrev pub within : ℕ → ℕ → ℕ → Result ℕ ConfigFault
within least most number = if nat_le least number && nat_le number most then Ok number else Err OutOfRange

-- the integer under a key, from the least to the greatest that is allowed
abbrev pub integer_at : ℕ → ℕ → Option Data → Result ℕ ConfigFault
integer_at least most value = natural_at value >>= within least most

-- a number of ticks
abbrev pub ticks_at : Option Data → Result ℕ ConfigFault
ticks_at value = integer_at 1 GREATEST_SPAN value

-- a string
abbrev pub text_in : Data → Result (List ℕ) ConfigFault
text_in (string text) = Ok text
text_in _ = Err WrongType

-- the string under a key
abbrev pub text_at : Option Data → Result (List ℕ) ConfigFault
text_at value = required value >>= text_in

-- a byte of printable ASCII
abbrev pub is_printable : ℕ → Bool
is_printable byte = nat_le 0x20 byte && nat_le byte 0x7E

-- a text of 1 to 32 bytes, all printable
abbrev pub is_name : List ℕ → Bool
is_name text = nat_le 1 (length text) && (nat_le (length text) LONGEST_NAME && list_all is_printable text)

-- a name
abbrev pub name_in : List ℕ → Result (List ℕ) ConfigFault
name_in text = if is_name text then Ok text else Err OutOfRange

-- the name under a key
abbrev pub name_at : Option Data → Result (List ℕ) ConfigFault
name_at value = text_at value >>= name_in

-- the discipline of this name
abbrev pub discipline_in : List ℕ → Result Discipline ConfigFault
discipline_in text =
    if bytes_eq text (codes "FIFO") then Ok discipline.Fifo
    else if bytes_eq text (codes "PRIORITY") then Ok discipline.Priority
    else Err OutOfRange

-- the discipline under a key
abbrev pub discipline_at : Option Data → Result Discipline ConfigFault
discipline_at value = text_at value >>= discipline_in

-- the end of this name
abbrev pub end_named : List ℕ → Result (Option Direction) ConfigFault
end_named text =
    if bytes_eq text (codes "SOURCE") then Ok (Some direction.Source)
    else if bytes_eq text (codes "DESTINATION") then Ok (Some direction.Destination)
    else Err OutOfRange

-- which end of a channel is outside the module: none if the key is missing
abbrev pub outside_at : Option Data → Result (Option Direction) ConfigFault
outside_at None = Ok None
outside_at (Some value) = text_in value >>= end_named

-- the policy of this name
abbrev pub policy_named : List ℕ → Result ErrorPolicy ConfigFault
policy_named text =
    if bytes_eq text (codes "IGNORE") then Ok policy.Ignore
    else if bytes_eq text (codes "IDLE") then Ok policy.Idle
    else if bytes_eq text (codes "COLD_START") then Ok policy.ColdStart
    else if bytes_eq text (codes "WARM_START") then Ok policy.WarmStart
    else Err OutOfRange

-- what is done about an error that no handler takes: it is ignored if the key is missing
abbrev pub error_policy_at : Option Data → Result ErrorPolicy ConfigFault
error_policy_at None = Ok policy.Ignore
error_policy_at (Some value) = text_in value >>= policy_named

-- a table
abbrev pub table_in : Data → Result Members ConfigFault
table_in (table keys) = Ok keys
table_in _ = Err WrongType

-- the value is of this type
abbrev pub is_of : ItemType → Data → Bool
is_of of.Integer (integer number) = true
is_of of.Table (table keys) = true
is_of _ _ = false

-- each item of a list passes the test
abbrev pub all_items : (Data → Bool) → Items → Bool
all_items test no_items = true
all_items test (item value items) = test value && all_items test items

-- a list, each item of which has the type that it needs
abbrev pub list_of : (Data → Bool) → Data → Result Items ConfigFault
list_of test (array items) = if all_items test items then Ok items else Err WrongType
list_of test _ = Err WrongType

-- a list with at least one item
abbrev pub at_least_one : Items → Result Items ConfigFault
at_least_one items = if has_items items then Ok items else Err OutOfRange

-- the list under a key, with at least one item, each of this type
abbrev pub some_at : ItemType → Option Data → Result Items ConfigFault
some_at item_type value = required value >>= list_of (is_of item_type) >>= at_least_one

-- a list with at most this many items: it has no item at this index
abbrev pub at_most : ℕ → Items → Result Items ConfigFault
at_most most items = if is_some (get_item most items) then Err OutOfRange else Ok items

-- the readings of the items of a list, in turn; the first item has this index
abbrev pub each_from : {A : Type 0} → (ℕ → Data → Result A ConfigRefusal) → ℕ → Items → Result (List A) ConfigRefusal
each_from reading index no_items = Ok []
each_from reading index (item value items) = reading index value >>= (λ first. each_from reading (index + 1) items >>= (λ rest. Ok (first ∷ rest)))

-- the readings of the items of a list, by their indexes
abbrev pub each_item : {A : Type 0} → (ℕ → Data → Result A ConfigRefusal) → Items → Result (List A) ConfigRefusal
each_item reading items = each_from reading 0 items

-- the table under a key
abbrev pub table_at : Option Data → Result Members ConfigFault
table_at value = required value >>= table_in

-- a list of tables
abbrev pub tables_in : Data → Result Items ConfigFault
tables_in value = list_of (is_of of.Table) value

-- the tables of the list under a key; there are none if the key is missing
abbrev pub tables_at : Option Data → Result Items ConfigFault
tables_at None = Ok no_items
tables_at (Some value) = tables_in value
