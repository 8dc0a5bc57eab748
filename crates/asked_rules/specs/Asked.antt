-- The rules that options and a rules file ask for.
use Rattle.std.specs.Prelude.{◌≡◌, ◌++◌, ℕ, List, [], Option, Some, None, Result, Ok, map}
use Rattle.asked_rules.specs.declared.option.RuleOption.{RuleOption}
use Rattle.asked_rules.specs.Options.{SayInTurn}
use Rattle.asked_rules.specs.declared.fault.RulesFault.{RulesFault}
use Rattle.asked_rules.specs.declared.refusal.RulesRefusal.{RulesRefusal}
use Rattle.asked_rules.specs.Memories.{SaidMemory, said_memory}
use Rattle.asked_rules.specs.Reading.{SaidFile, SaidRule, walk_of, without_key}
use Rattle.user_rules.specs.declared.relation.Relation.{Relation}
use Rattle.user_rules.specs.declared.memory.RuleMemory.{RuleMemory}
use Rattle.user_rules.specs.Meets.{Valued, meets}
use Rattle.user_rules.specs.Remembered.{Requirements, required_by}

-- the memories and the rules of a rules file, or where the walk over it stops; there are none if there is no file
abbrev pub walk_given : Option (List ℕ) → Result SaidFile RulesRefusal
walk_given None = Ok (record { memories = []; rules = [] })
walk_given (Some text) = walk_of text

-- the memories and the rules of a rules file, or its first fault
abbrev pub rules_given : Option (List ℕ) → Result SaidFile RulesFault
rules_given text = without_key (walk_given text)

-- relations hold for exactly the views, with the values of memories at them, for which the rules of a file say so, one relation for each rule, in their order
abbrev pub HoldInTurn : List SaidRule → List Relation → Type 0
HoldInTurn rules relations = (one : Valued) → map (λ relation. meets relation one) relations ≡ map (λ rule. rule.holds one) rules

-- relations say what options request, followed by what the rules of a file say
abbrev pub SayBoth : List RuleOption → List SaidRule → List Relation → Type 0
SayBoth options rules relations =
    (front : List Relation) × (those_after : List Relation) × (relations ≡ front ++ those_after) × SayInTurn options front × HoldInTurn rules those_after

-- what is required from the first view on: the memories are those of a file, and the relations say what options request, followed by what
-- the rules of the file say
pub record AreRequired (options : List RuleOption) (file : SaidFile) (requirements : Requirements) : Type 0 where
  pub memories : List RuleMemory
  pub relations : List Relation
  pub required : requirements ≡ required_by memories relations
  pub remember : map said_memory memories ≡ file.memories
  pub say : SayBoth options file.rules relations
