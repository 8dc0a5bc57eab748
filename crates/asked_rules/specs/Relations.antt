-- The views for which the relation that a value describes holds.
use Rattle.std.specs.Prelude.{ℕ, zero, suc, Bool, ◌&&◌, ◌||◌, not, int_lt, Option, Some, None, Result, Ok, Err, codes, nat_le, if◌then◌else◌}
use Rattle.std.specs.Ordering.{int_eq}
use Rattle.toml.specs.Data.{Data, table, Items, no_items, item, Members, get_member}
use Rattle.apex_types.specs.declared.limits.TheConstants.{MOST_RELATIONS}
use Rattle.user_rules.specs.Meets.{Valued, quantity_of}
use Rattle.asked_rules.specs.declared.fault.RuleFault.TheVariants.{Empty, Missing, TooDeep, TooMany, WrongType}
use Rattle.asked_rules.specs.declared.refusal.RuleKey.TheVariants as key
use Rattle.asked_rules.specs.declared.refusal.RuleRefusal.{RuleRefusal}
use Rattle.asked_rules.specs.Keys.{◌>>=◌, at, list_in, no_more, nowhere}
use Rattle.asked_rules.specs.declared.side.Side.{Side}
use Rattle.asked_rules.specs.Sides.{other_side_in, side_under}

-- for which views, with the values of the memories at them, a relation holds
abbrev pub Holds : Type 0
Holds = Valued → Bool

-- a side is compared by the first of `less`, `equal` and `greater` that is given; the memories above are those of these tables
abbrev pub compared : Items → Side → Option Data → Option Data → Option Data → Result Holds RuleRefusal
compared above side (Some value) equal greater =
    other_side_in above side value >>= (λ other. Ok (λ one. int_lt (quantity_of side.quantity one) (quantity_of other one)))
compared above side None (Some value) greater =
    other_side_in above side value >>= (λ other. Ok (λ one. int_eq (quantity_of side.quantity one) (quantity_of other one)))
compared above side None None (Some value) =
    other_side_in above side value >>= (λ other. Ok (λ one. int_lt (quantity_of other one) (quantity_of side.quantity one)))
compared above side None None None = Err (at key.Number Missing)

-- the comparison that a table describes: `field` or `memory`, one of `less`, `equal` and `greater`, and no other key
abbrev pub comparison_under : Items → Members → Result Holds RuleRefusal
comparison_under above keys =
    no_more 2 keys >>= (λ _.
    side_under above keys >>= (λ side.
    compared above side (get_member (codes "less") keys) (get_member (codes "equal") keys) (get_member (codes "greater") keys)))

-- relations combined, one after the other
abbrev pub joined : (Bool → Bool → Bool) → (Data → Result Holds RuleRefusal) → Items → Result Holds RuleRefusal
joined join reading no_items = Err (nowhere Empty)
joined join reading (item value no_items) = reading value
joined join reading (item value (item next items)) =
    reading value >>= (λ first.
    joined join reading (item next items) >>= (λ others.
    Ok (λ view. join (first view) (others view))))

-- how many items a list has
abbrev pub item_count : Items → ℕ
item_count no_items = 0
item_count (item value items) = suc (item_count items)

-- a list of at most this many items
abbrev pub at_most : ℕ → Items → Result Items RuleRefusal
at_most most items = if nat_le (item_count items) most then Ok items else Err (nowhere TooMany)

-- the relations of a list of 1 to 64, combined
abbrev pub joined_in : (Bool → Bool → Bool) → (Data → Result Holds RuleRefusal) → Data → Result Holds RuleRefusal
joined_in join reading value = list_in value >>= at_most MOST_RELATIONS >>= joined join reading

-- a relation that holds exactly if the one that a value describes does not
abbrev pub negated_in : (Data → Result Holds RuleRefusal) → Data → Result Holds RuleRefusal
negated_in reading value = reading value >>= (λ negated. Ok (λ view. not (negated view)))

-- the relation that a table describes: by the value under `not`, `and` or `or`, else by a comparison
abbrev pub described : Items → (Data → Result Holds RuleRefusal) → Members → Option Data → Option Data → Option Data → Result Holds RuleRefusal
described above reading keys (Some value) all any = no_more 1 keys >>= (λ _. negated_in reading value)
described above reading keys None (Some value) any = no_more 1 keys >>= (λ _. joined_in (λ one other. one && other) reading value)
described above reading keys None None (Some value) = no_more 1 keys >>= (λ _. joined_in (λ one other. one || other) reading value)
described above reading keys None None None = comparison_under above keys

-- the relation that a table describes
abbrev pub relation_under : Items → (Data → Result Holds RuleRefusal) → Members → Result Holds RuleRefusal
relation_under above reading keys = described above reading keys (get_member (codes "not") keys) (get_member (codes "and") keys) (get_member (codes "or") keys)

-- the relation that a value describes, which must be a table, with at most this many levels; it may name the memories of these tables
unfoldable pub relation_in : Items → ℕ → Data → Result Holds RuleRefusal
relation_in above zero value = Err (nowhere TooDeep)
relation_in above (suc levels) (table keys) = relation_under above (relation_in above levels) keys
relation_in above (suc levels) _ = Err (nowhere WrongType)
