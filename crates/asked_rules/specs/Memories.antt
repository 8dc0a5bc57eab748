-- The memories that tables describe.
use Rattle.std.specs.Prelude.{ℕ, ◌+◌, List, Option, Some, None, Result, Ok, Err, codes, string_bytes, if◌then◌else◌}
use Rattle.std.specs.Option.{ok_or, option_map}
use Rattle.std.specs.Str.{bytes_eq}
use Rattle.toml.specs.Data.{Data, table, Items, Members, get_member}
use Rattle.apex_types.specs.declared.limits.TheConstants.{MOST_LEVELS}
use Rattle.apex_types.specs.declared.view.Field.{Field}
use Rattle.user_rules.specs.declared.memory.Keeps.{Keeps}
use Rattle.user_rules.specs.declared.memory.Keeps.TheVariants as keeps
use Rattle.user_rules.specs.declared.memory.Per.{Per}
use Rattle.user_rules.specs.declared.memory.Per.TheVariants as per
use Rattle.user_rules.specs.declared.memory.RuleMemory.{RuleMemory}
use Rattle.user_rules.specs.Meets.{meets}
use Rattle.asked_rules.specs.declared.fault.RuleFault.TheVariants.{Missing, SameName, UnknownHolder, WrongType}
use Rattle.asked_rules.specs.declared.refusal.RuleKey.TheVariants as key
use Rattle.asked_rules.specs.declared.refusal.RuleRefusal.{RuleRefusal}
use Rattle.asked_rules.specs.declared.side.Side.{Side}
use Rattle.asked_rules.specs.Keys.{◌>>=◌, at, given, name_in, no_more, nowhere, required, text_in}
use Rattle.asked_rules.specs.Relations.{Holds, relation_in}
use Rattle.asked_rules.specs.Sides.{field_in, memory_named}

-- what a memory keeps, as the text gives it: the time since the last view of some, a count of views less others since the last of others
-- again, or a field of the last view of some
pub data SaidKeeps : Type 0 where
  since : Holds → SaidKeeps
  count : Holds → Option Holds → Option Holds → SaidKeeps
  last : Holds → Field → SaidKeeps

-- a memory as the text gives it: its name, what it keeps, and for whom it keeps a value each
pub record SaidMemory : Type 0 where
  pub name : List ℕ
  pub keeps : SaidKeeps
  pub per : Per

-- what a memory of the code keeps, as the text gives it
abbrev pub said_keeps : Keeps → SaidKeeps
said_keeps (keeps.Since relation) = SaidKeeps.since (meets relation)
said_keeps (keeps.Count counted) = SaidKeeps.count (meets counted.relation) (option_map meets counted.back) (option_map meets counted.reset)
said_keeps (keeps.Last relation field) = SaidKeeps.last (meets relation) field

-- a memory of the code, as the text gives it
abbrev pub said_memory : RuleMemory → SaidMemory
said_memory memory = record { name = string_bytes memory.name; keeps = said_keeps memory.keeps; per = memory.per }

-- for whom a memory keeps a value each, by its name
abbrev pub per_named : List ℕ → Option Per
per_named text =
    if bytes_eq text (codes "module") then Some per.Module
    else if bytes_eq text (codes "core") then Some per.Core
    else if bytes_eq text (codes "partition") then Some per.Partition
    else if bytes_eq text (codes "process") then Some per.Process
    else None

-- for whom a memory keeps a value each; for the module if nothing is given
abbrev pub per_in : Option Data → Result Per RuleRefusal
per_in None = Ok per.Module
per_in (Some value) = text_in key.Per value >>= (λ text. ok_or (per_named text) (at key.Per UnknownHolder))

-- the name of a memory, which none of those of these tables has
abbrev pub no_other : Option Side → List ℕ → Result (List ℕ) RuleRefusal
no_other None name = Ok name
no_other (Some side) name = Err (at key.Name SameName)

abbrev pub new_name_in : Items → Data → Result (List ℕ) RuleRefusal
new_name_in above value = name_in value >>= (λ name. no_other (memory_named above name) name)

-- a relation that may be given; it may name the memories of these tables
abbrev pub optional_in : Items → Option Data → Result (Option Holds) RuleRefusal
optional_in above None = Ok None
optional_in above (Some value) = relation_in above MOST_LEVELS value >>= (λ holds. Ok (Some holds))

-- a count of the views that meet a relation; there may be `back` and `reset`
abbrev pub counted_in : Items → Members → Data → Result SaidKeeps RuleRefusal
counted_in above keys value =
    relation_in above MOST_LEVELS value >>= (λ holds.
    optional_in above (get_member (codes "back") keys) >>= (λ back.
    optional_in above (get_member (codes "reset") keys) >>= (λ reset. Ok (SaidKeeps.count holds back reset))))

-- the field under `take` of the last view that meets a relation
abbrev pub last_in : Items → Members → Data → Result SaidKeeps RuleRefusal
last_in above keys value =
    relation_in above MOST_LEVELS value >>= (λ holds.
    required key.Take (get_member (codes "take") keys) >>= field_in key.Take >>= (λ field. Ok (SaidKeeps.last holds field)))

-- what is kept is under the first of `since`, `count` and `last` that is given
abbrev pub keeps_by : Items → Members → Option Data → Option Data → Option Data → Result SaidKeeps RuleRefusal
keeps_by above keys (Some value) _ _ = relation_in above MOST_LEVELS value >>= (λ holds. Ok (SaidKeeps.since holds))
keeps_by above keys None (Some value) _ = counted_in above keys value
keeps_by above keys None None (Some value) = last_in above keys value
keeps_by above keys None None None = Err (at key.Keeps Missing)

abbrev pub keeps_under : Items → Members → Result SaidKeeps RuleRefusal
keeps_under above keys = keeps_by above keys (get_member (codes "since") keys) (get_member (codes "count") keys) (get_member (codes "last") keys)

-- how many keys a memory may have: its name, what it keeps and what goes with that, and for whom
abbrev pub allowed_by : Members → Option Data → Option Data → ℕ
allowed_by keys (Some value) _ = 2
allowed_by keys None (Some value) = 2 + given (get_member (codes "back") keys) + given (get_member (codes "reset") keys)
allowed_by keys None None = 2 + given (get_member (codes "take") keys)

abbrev pub allowed : Members → ℕ
allowed keys = allowed_by keys (get_member (codes "since") keys) (get_member (codes "count") keys) + given (get_member (codes "per") keys)

-- the memory that a table describes; its relations may name the memories of the tables above it
abbrev pub memory_under : Items → Members → Result SaidMemory RuleRefusal
memory_under above keys =
    no_more (allowed keys) keys >>= (λ _.
    required key.Name (get_member (codes "name") keys) >>= new_name_in above >>= (λ name.
    keeps_under above keys >>= (λ keeps.
    per_in (get_member (codes "per") keys) >>= (λ per.
    Ok (record { name = name; keeps = keeps; per = per })))))

-- the memory that a value describes, which must be a table
abbrev pub memory_in : Items → Data → Result SaidMemory RuleRefusal
memory_in above (table keys) = memory_under above keys
memory_in above _ = Err (nowhere WrongType)
