-- What is gathered from the first pieces of a round.
use Rattle.std.proofs.Common.{◌≡◌, ◌<◌, ℕ, List, Option, length}
use Rattle.apex_types.specs.declared.record.Ordered.{Ordered}
use Rattle.apex_types.specs.declared.view.View.{View}
use Rattle.apex_machine.specs.Configuration.{Configuration}
use Rattle.piece_check.specs.Parts.{Holding}
use Rattle.user_rules.specs.declared.relation.Relation.{Relation}
use Rattle.verdict_merge.specs.declared.breach.Breach.{Breach}
use Rattle.verdict_merge.specs.declared.finding.Refused.{Refused}
use Rattle.verdict_merge.specs.declared.judged.Judged.{Judged}
use Rattle.verdict_merge.specs.Rounds.{parts_in, pieces_in}
use Rattle.verdict_merge.proofs.Breaking.{IsFirstIn}
use Rattle.verdict_merge.proofs.Rounds.{HasBeen, IsFound}
use Rattle.verdict_merge.proofs.Viewing.{AreSound, HasFilled}

-- this many of the first pieces have been taken in: the least refusal of theirs, the views that they gave, each in the slot of its record,
-- and the first of these that breaks a rule
pub record AreTakenIn (configuration : Configuration) (records : List Ordered) (relations : List Relation) (old : List Holding) (judged : List Judged) (count : ℕ) (found : Option Refused) (breach : Option Breach) : Type 0 where
  pub been : (number : ℕ) → number < count → HasBeen configuration (parts_in old) records (parts_in (pieces_in judged)) found number
  pub least : IsFound configuration (parts_in old) (parts_in (pieces_in judged)) records count found
  pub slots : List (Option View)
  pub whole : length slots ≡ length records
  pub sound : AreSound configuration (parts_in old) records slots
  pub filled : (number : ℕ) → number < count → HasFilled configuration (parts_in old) records slots number
  pub first : IsFirstIn configuration (parts_in old) relations records slots breach
