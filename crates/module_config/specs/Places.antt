-- Where a table of a configuration is refused: the texts of its keys, and the key of a refusal.
use Rattle.std.specs.Prelude.{List, [], ◌∷◌, ℕ, Option, Some, None, Result, Ok, Err, if◌then◌else◌}
use Rattle.toml.specs.Data.{Data, Members, get_member}
use Rattle.module_config.specs.contracts.place.ConfigKeyPartialEq.TheImpl as keys
use Rattle.module_config.specs.declared.fault.ConfigFault.{ConfigFault}
use Rattle.module_config.specs.declared.place.ConfigKey.{ConfigKey}
use Rattle.module_config.specs.declared.place.ConfigTable.{ConfigTable}
use Rattle.module_config.specs.declared.place.ConfigTable.TheVariants as table
use Rattle.module_config.specs.declared.place.TheConstants.{KEYS}
use Rattle.module_config.specs.declared.refusal.ConfigRefusal.{ConfigRefusal}
use Rattle.module_config.specs.Keys.{◌>>=◌, each_item, table_in, tables_at}

-- the text beside a key in the table of texts
abbrev pub text_among : List (ConfigKey × record { now : List ℕ }) → ConfigKey → List ℕ
text_among [] key = []
text_among (row ∷ rows) key = if keys.eq-value.it row.0 key then row.1.now else text_among rows key

-- the text of a key
unfoldable pub text_of : ConfigKey → List ℕ
text_of key = text_among KEYS key

-- a reading of the value under a key of a table; a refusal is at that key
abbrev pub placed : {A : Type 0} → ConfigTable → ConfigKey → Result A ConfigFault → Result A ConfigRefusal
placed table key (Ok value) = Ok value
placed table key (Err fault) = Err (record { fault = fault; place = Some (record { table = table; key = key }) })

-- the value under a key of a table, by this reading
abbrev pub at : {A : Type 0} → ConfigTable → Members → ConfigKey → (Option Data → Result A ConfigFault) → Result A ConfigRefusal
at table keys key reading = placed table key (reading (get_member (text_of key) keys))

-- the readings of the tables in the list under a key of a table, by their indexes; there are none if the key is missing
abbrev pub each_under : {A : Type 0} → ConfigTable → Members → ConfigKey → (ℕ → Data → Result A ConfigRefusal) → Result (List A) ConfigRefusal
each_under table keys key reading = at table keys key tables_at >>= each_item reading

-- the table that an item of one of the module's lists must be
abbrev pub item_in : ConfigKey → Data → Result Members ConfigRefusal
item_in list value = placed table.Module list (table_in value)

-- a refusal at no key
abbrev pub nowhere : ConfigFault → ConfigRefusal
nowhere fault = record { fault = fault; place = None }

-- a reading without the place of its refusal
abbrev pub without_place : {A : Type 0} → Result A ConfigRefusal → Result A ConfigFault
without_place (Ok value) = Ok value
without_place (Err refusal) = Err refusal.fault
