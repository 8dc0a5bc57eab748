-- The memories and the rules of a text, or its first refusal.
use Rattle.std.specs.Prelude.{◌≡◌, ◌≢◌, ℕ, ◌+◌, zero, suc, ◌++◌, List, Vec, [], ◌∷◌, length, map, Option, Some, None, Result, Ok, Err, codes, nat_lt, string_bytes, if◌then◌else◌}
use Rattle.std.specs.Str.{is_utf8}
use Rattle.std.specs.declared.alloc.Global.{Global}
use Rattle.toml.specs.Data.{Data, table, Items, no_items, item, Members, get_member}
use Rattle.toml.specs.Parse.{parse_document}
use Rattle.apex_types.specs.declared.limits.TheConstants.{LONGEST_RULES_FILE, MOST_LEVELS, MOST_RULES}
use Rattle.user_rules.specs.declared.memory.TheConstants.{MOST_MEMORIES}
use Rattle.user_rules.specs.Meets.{meets}
use Rattle.asked_rules.specs.declared.fault.RuleFault.TheVariants.{NotToml, TooMany, WrongType}
use Rattle.asked_rules.specs.declared.fault.RulesFault.{RulesFault}
use Rattle.asked_rules.specs.declared.fault.RulesFault.TheVariants.{File, Memory, Rule}
use Rattle.asked_rules.specs.declared.fault.RulesFault.TheVariants.{RuleMemory as InMemory}
use Rattle.asked_rules.specs.declared.refusal.RuleKey.TheVariants as key
use Rattle.asked_rules.specs.declared.refusal.RuleRefusal.{RuleRefusal}
use Rattle.asked_rules.specs.declared.refusal.RulesRefusal.{RulesRefusal}
use Rattle.asked_rules.specs.declared.rule.NamedRule.{NamedRule}
use Rattle.asked_rules.specs.declared.rules_file.RulesFile.{RulesFile}
use Rattle.asked_rules.specs.Keys.{◌>>=◌, given, list_in, name_in, no_more, nowhere, required}
use Rattle.asked_rules.specs.Memories.{SaidMemory, memory_in, said_memory}
use Rattle.asked_rules.specs.Relations.{Holds, at_most, relation_in}

-- a rule as the text gives it: its name, and the views for which it holds
pub record SaidRule : Type 0 where
  pub name : List ℕ
  pub holds : Holds

-- a rule of the code, as the text gives it
abbrev pub said : NamedRule → SaidRule
said rule = record { name = string_bytes rule.name; holds = meets rule.relation }

-- a rules file as its text gives it: its memories and its rules, each in their order
pub record SaidFile : Type 0 where
  pub memories : List SaidMemory
  pub rules : List SaidRule

-- a rules file of the code, as the text gives it
abbrev pub said_file : RulesFile → SaidFile
said_file file = record { memories = map said_memory file.memories.items; rules = map said file.rules.items }

-- memories or rules followed by one more; there are none if memory ran out
abbrev pub IsAdded : {A : Type 0} → Option (Vec A Global) → Option A → Option (Vec A Global) → Type 0
IsAdded before one None = Unit {0}
IsAdded (Some before) (Some one) (Some all) = all.items ≡ before.items ++ one ∷ []
IsAdded _ _ (Some all) = ⊥

-- a refusal at no key
abbrev pub keyless : RulesFault → RulesRefusal
keyless fault = record { fault = fault; key = None }

-- the answer of a call is the reading, unless memory is refused to the call
abbrev pub GivesPlaced : {A B : Type 0} → (A → B) → Result A RulesRefusal → Result B RulesRefusal → Type 0
GivesPlaced view (Ok value) reading = reading ≡ Ok (view value)
GivesPlaced view (Err refusal) reading = refusal.fault ≢ Memory → reading ≡ Err refusal

-- the rule that a table describes: `name`, `holds` and no other key; it may name the memories of these tables
abbrev pub rule_under : Items → Members → Result SaidRule RuleRefusal
rule_under memories keys =
    no_more 2 keys >>= (λ _.
    required key.Name (get_member (codes "name") keys) >>= name_in >>= (λ name.
    required key.Holds (get_member (codes "holds") keys) >>= relation_in memories MOST_LEVELS >>= (λ holds.
    Ok (record { name = name; holds = holds }))))

-- the rule that a value describes, which must be a table
abbrev pub rule_in : Items → Data → Result SaidRule RuleRefusal
rule_in memories (table keys) = rule_under memories keys
rule_in memories _ = Err (nowhere WrongType)

-- the reading of the memory of this number
abbrev pub of_memory : {A : Type 0} → ℕ → Result A RuleRefusal → Result A RulesRefusal
of_memory number (Ok value) = Ok value
of_memory number (Err refusal) = Err (record { fault = InMemory number refusal.fault; key = refusal.key })

-- the reading of the rule of this number
abbrev pub of_rule : {A : Type 0} → ℕ → Result A RuleRefusal → Result A RulesRefusal
of_rule number (Ok value) = Ok value
of_rule number (Err refusal) = Err (record { fault = Rule number refusal.fault; key = refusal.key })

-- the reading of the text outside the memories and the rules
abbrev pub of_file : {A : Type 0} → Result A RuleRefusal → Result A RulesRefusal
of_file (Ok value) = Ok value
of_file (Err refusal) = Err (record { fault = File refusal.fault; key = refusal.key })

-- the items of a list, each read under its number, which begins here
abbrev pub each_from : {A : Type 0} → (ℕ → Data → Result A RulesRefusal) → ℕ → Items → Result (List A) RulesRefusal
each_from reading number no_items = Ok []
each_from reading number (item value items) =
    reading number value >>= (λ one.
    each_from reading (number + 1) items >>= (λ others. Ok (one ∷ others)))

-- this many of the first items of a list
abbrev pub first_items : ℕ → Items → Items
first_items zero items = no_items
first_items (suc count) no_items = no_items
first_items (suc count) (item value items) = item value (first_items count items)

-- the memories that the items of a list describe; each may name those above it
abbrev pub memories_from : Items → Result (List SaidMemory) RulesRefusal
memories_from items = each_from (λ number value. of_memory number (memory_in (first_items number items) value)) 0 items

-- the rules that the items of a list describe; they may name these memories
abbrev pub rules_from : Items → Items → Result (List SaidRule) RulesRefusal
rules_from memories items = each_from (λ number value. of_rule number (rule_in memories value)) 0 items

-- the list of memories of a table, under `memory`; there are none if there is no such key
abbrev pub memories_listed : Option Data → Result Items RuleRefusal
memories_listed None = Ok no_items
memories_listed (Some value) = list_in value >>= at_most MOST_MEMORIES

-- the list of rules of a table: it is under `rule`, and beside `memory` there is no other key
abbrev pub listed_under : Members → Result Items RuleRefusal
listed_under keys =
    no_more (1 + given (get_member (codes "memory") keys)) keys >>= (λ _.
    required key.Rule (get_member (codes "rule") keys) >>= list_in >>= at_most MOST_RULES)

-- the memories and the rules of a table: both lists are judged first, then each memory, then each rule
abbrev pub rules_under : Members → Result SaidFile RulesRefusal
rules_under keys =
    of_file (listed_under keys) >>= (λ items.
    of_file (memories_listed (get_member (codes "memory") keys)) >>= (λ above.
    memories_from above >>= (λ memories.
    rules_from above items >>= (λ rules. Ok (record { memories = memories; rules = rules })))))

-- the table that a text is, if the text is UTF-8 and TOML
abbrev pub document_of : List ℕ → Option Members
document_of text = if is_utf8 text then parse_document text else None

-- the memories and the rules of a document, if the text is a document
abbrev pub rules_in : Option Members → Result SaidFile RulesRefusal
rules_in None = Err (keyless (File NotToml))
rules_in (Some keys) = rules_under keys

-- the memories and the rules of a text, or where the walk over it stops; a text of more than 1,048,576 bytes is refused unread
abbrev pub walk_of : List ℕ → Result SaidFile RulesRefusal
walk_of text = if nat_lt LONGEST_RULES_FILE (length text) then Err (keyless (File TooMany)) else rules_in (document_of text)

-- a reading without the key of its refusal
abbrev pub without_key : {A : Type 0} → Result A RulesRefusal → Result A RulesFault
without_key (Ok value) = Ok value
without_key (Err refusal) = Err refusal.fault

-- the memories and the rules of a text, or its first fault
abbrev pub rules_of : List ℕ → Result SaidFile RulesFault
rules_of text = without_key (walk_of text)
