-- The two sides of a comparison: a field or a memory, and what it is compared with.
use Rattle.std.specs.Prelude.{ℕ, ℤ, suc, List, Bool, false, Option, Some, None, Result, Ok, Err, codes, if◌then◌else◌}
use Rattle.std.specs.Option.{ok_or, option_and_then, option_map}
use Rattle.std.specs.Str.{bytes_eq}
use Rattle.toml.specs.Data.{Data, integer, string, table, Items, no_items, item, Members, get_member}
use Rattle.apex_types.specs.declared.view.Field.{Field}
use Rattle.user_rules.specs.declared.quantity.Quantity.{Quantity}
use Rattle.user_rules.specs.declared.quantity.Quantity.TheVariants as quantity
use Rattle.asked_rules.specs.declared.fault.RuleFault.TheVariants.{UnknownField, UnknownMemory, UnknownName, WrongType}
use Rattle.asked_rules.specs.declared.refusal.RuleKey.{RuleKey}
use Rattle.asked_rules.specs.declared.refusal.RuleKey.TheVariants as key
use Rattle.asked_rules.specs.declared.refusal.RuleRefusal.{RuleRefusal}
use Rattle.asked_rules.specs.declared.side.Side.{Side}
use Rattle.asked_rules.specs.Keys.{◌>>=◌, at, no_more, required, text_in}
use Rattle.asked_rules.specs.Names.{field_named, number_named}

-- the field of the name under this key
abbrev pub field_in : RuleKey → Data → Result Field RuleRefusal
field_in under value = text_in under value >>= (λ name. ok_or (field_named name) (at under UnknownField))

-- a value as a text
abbrev pub as_text : Option Data → Option (List ℕ)
as_text (Some (string text)) = Some text
as_text _ = None

-- the text under a key of a table
abbrev pub text_under : List ℕ → Data → Option (List ℕ)
text_under under (table keys) = as_text (get_member under keys)
text_under under _ = None

-- whether there is a text, and it is this name
abbrev pub is_text : List ℕ → Option (List ℕ) → Bool
is_text name None = false
is_text name (Some text) = bytes_eq text name

-- whether a table has this name
abbrev pub is_named : List ℕ → Data → Bool
is_named name value = is_text name (text_under (codes "name") value)

-- the field that the memory of a table takes, if it takes one
abbrev pub taken_field : Data → Option Field
taken_field value = option_and_then field_named (text_under (codes "take") value)

-- the first of these tables with this name, as the memory of its number; its values have names if they are those of a field
abbrev pub named_from : ℕ → Items → List ℕ → Option Side
named_from number no_items name = None
named_from number (item value items) name =
    if is_named name value then Some (record { quantity = quantity.Memory number; names = taken_field value }) else named_from (suc number) items name

-- the memory of this name among those of these tables
abbrev pub memory_named : Items → List ℕ → Option Side
memory_named above name = named_from 0 above name

-- the memory of the name that a value is
abbrev pub side_in : Items → Data → Result Side RuleRefusal
side_in above value = text_in key.Memory value >>= (λ name. ok_or (memory_named above name) (at key.Memory UnknownMemory))

-- a field
abbrev pub side_of : Field → Side
side_of field = record { quantity = quantity.Field field; names = Some field }

-- what a table names: a memory under `memory`, else a field under `field`
abbrev pub side_by : Items → Members → Option Data → Result Side RuleRefusal
side_by above keys (Some value) = side_in above value
side_by above keys None = required key.Field (get_member (codes "field") keys) >>= field_in key.Field >>= (λ field. Ok (side_of field))

abbrev pub side_under : Items → Members → Result Side RuleRefusal
side_under above keys = side_by above keys (get_member (codes "memory") keys)

-- the number that a name means for a side
abbrev pub number_under : Side → List ℕ → Option ℤ
number_under side name = option_and_then (λ field. number_named field name) side.names

-- what a side is compared with: an integer, a name that means one for this side, or the field or the memory that a table names
abbrev pub other_side_in : Items → Side → Data → Result Quantity RuleRefusal
other_side_in above side (integer number) = Ok (quantity.Number number)
other_side_in above side (table keys) = no_more 1 keys >>= (λ _. side_under above keys >>= (λ other. Ok other.quantity))
other_side_in above side (string name) = ok_or (option_map quantity.Number (number_under side name)) (at key.Number UnknownName)
other_side_in above side _ = Err (at key.Number WrongType)
