-- The error conditions of a call are exactly what the sentences say, and its codes are theirs.
use Rattle.std.specs.Prelude.{◌≡◌, ◌↔◌, ℕ, Contains}
use Rattle.apex_types.specs.declared.code.Code.{Code}
use Rattle.apex_types.specs.declared.record.Who.{Who}
use Rattle.apex_types.specs.declared.request.Request.{Request}
use Rattle.apex_machine.specs.declared.condition.Condition.{Condition}
use Rattle.apex_machine.specs.Conditions.{code_of}
use Rattle.apex_machine.specs.Configuration.{Configuration}
use Rattle.apex_machine.specs.ServiceConditions.{conditions_of}
use Rattle.apex_machine.specs.State.{Partition}
use Rattle.apex_machine.specs.Step.{IsCodeOf}
use Rattle.apex_laws.specs.ConditionSentences.{HasCondition}

-- a condition is among those of a call exactly if it is one of its service and holds
abbrev pub ConditionsAreTheSentences : Type 0
ConditionsAreTheSentences =
    (configuration : Configuration) (now : ℕ) (who : Who) (partition : Partition) (asked : Request) (condition : Condition)
    → Contains (conditions_of configuration now who partition asked) condition ↔ HasCondition configuration now who partition asked condition

-- a code is one of a call exactly if an error condition of its service with that code holds
abbrev pub CodesAreTheSentences : Type 0
CodesAreTheSentences =
    (configuration : Configuration) (now : ℕ) (who : Who) (partition : Partition) (asked : Request) (code : Code)
    → IsCodeOf (conditions_of configuration now who partition asked) code
    ↔ ((condition : Condition) × HasCondition configuration now who partition asked condition × (code ≡ code_of condition))
