-- A round under memories and rules.
use Rattle.std.specs.Prelude.{◌+◌, Bool, true, false, ℕ, List, [], ◌∷◌, length}
use Rattle.apex_types.specs.declared.record.Ordered.{Ordered}
use Rattle.apex_machine.specs.Configuration.{Configuration}
use Rattle.piece_check.specs.Parts.{Holding}
use Rattle.user_rules.specs.declared.memory.Cell.{Cell}
use Rattle.user_rules.specs.declared.memory.RuleMemory.{RuleMemory}
use Rattle.user_rules.specs.declared.relation.Relation.{Relation}
use Rattle.user_rules.specs.Remembered.{Requirements}
use Rattle.verdict_merge.specs.declared.survey.Survey.{Survey}
use Rattle.verdict_merge.specs.Rounds.{AreGoing, HaveRunOver, IsTested, parts_in}

-- whether there is a memory
abbrev pub has_any : List RuleMemory → Bool
has_any [] = false
has_any (memory ∷ memories) = true

-- the relations by which pieces test their views at once: none if there are memories
abbrev pub tested_at_once : List RuleMemory → List Relation → List Relation
tested_at_once [] relations = relations
tested_at_once (memory ∷ memories) relations = []

-- all pieces judged records from this place on: their outcome, and the first view that breaks a rule, with the values of memories at it;
-- they may judge the records after these, and the memories have kept this
pub record IsSurveyedUnder (configuration : Configuration) (first : ℕ) (records : List Ordered) (requirements : Requirements) (old : List Holding) (survey : Survey) (kept : List (List Cell)) : Type 0 where
  pub outcome : HaveRunOver configuration old records survey.found survey.pieces.items
  pub tested : IsTested configuration requirements (parts_in old) records survey.found survey.breach kept
  pub going : AreGoing configuration (first + length records) survey.pieces.items
