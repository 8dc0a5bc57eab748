-- Rules as contracts see them.
use Rattle.std.specs.Prelude.{List, map}
use Rattle.user_rules.specs.declared.memory.Cell.{Cell}
use Rattle.user_rules.specs.declared.memory.RuleMemory.{RuleMemory}
use Rattle.user_rules.specs.declared.relation.Relation.{Relation}
use Rattle.user_rules.specs.declared.rule.Rule.{Rule}
use Rattle.user_rules.specs.Remembered.{Requirements, required_by}

-- the relations of the rules, in their order, whatever their tests are
abbrev pub relations_of : {type : _} {calls : _} {answers : _} → List (Rule type calls answers) → List Relation
relations_of rules = map (λ rule. rule.relation) rules

-- what memories and rules require, if the memories have kept this of the views so far
abbrev pub requirements_of : {type : _} {calls : _} {answers : _} → List RuleMemory → List (List Cell) → List (Rule type calls answers) → Requirements
requirements_of memories kept rules = record { memories = memories; kept = kept; relations = relations_of rules }

-- what memories and rules require from the first view on
abbrev pub required_of : {type : _} {calls : _} {answers : _} → List RuleMemory → List (Rule type calls answers) → Requirements
required_of memories rules = required_by memories (relations_of rules)
