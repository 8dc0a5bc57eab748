-- What a witness is shown: of a No, a piece as it was before the record that it rejects; of a broken rule, the view that breaks it.
use Rattle.std.specs.Prelude.{◌≡◌, ◌<◌, ◌+◌, ℕ, List, [], ◌∷◌, ◌++◌, Contains, Option, Some, Result, Ok, length}
use Rattle.apex_types.specs.declared.record.Ordered.{Ordered}
use Rattle.apex_types.specs.declared.view.View.{View}
use Rattle.apex_machine.specs.Configuration.{Configuration}
use Rattle.apex_machine.specs.Pieces.{Part, part, pieces}
use Rattle.apex_machine.specs.Runs.{PieceRun}
use Rattle.apex_machine.specs.State.{cold_state}
use Rattle.piece_check.specs.Parts.{holder}
use Rattle.user_rules.specs.declared.memory.Cell.{Cell}
use Rattle.user_rules.specs.Remembered.{Requirements, valued_at, with_kept}
use Rattle.user_rules.specs.FirstBroken.{IsFirstRuleBroken}
use Rattle.verdict_merge.specs.declared.breach.Breach.{Breach}
use Rattle.verdict_merge.specs.declared.verdict.Verdict.{Verdict}
use Rattle.verdict_merge.specs.declared.verdict.Verdict.TheVariants.{No, Broken}
use Rattle.verdict_merge.specs.Rounds.{Judging, Rejects, Runs, cold_parts, parts_of}
use Rattle.verdict_merge.specs.Verdicts.{ViewsLead}
use Rattle.verdict_merge.specs.Views.{IsViewOf}
use Rattle.report.specs.declared.fault.CheckFault.{CheckFault}

-- of a No

-- a part is reached before a record: its piece runs to it, from the cold state, over as many records as the place of this one
abbrev pub IsReachedBefore : Configuration → Part → Ordered → Type 0
IsReachedBefore configuration reached ordered =
    (before : List Ordered) × (length before ≡ ordered.pos)
    × PieceRun configuration (holder reached) (part (holder reached) (cold_state configuration)) before reached

-- after a No, one of these records is at its place; the part of the piece of its number is reached before that record, and there the
-- piece rejects it for its cause
abbrev pub StillRejects : Configuration → List Ordered → Result Verdict CheckFault → Judging → Type 0
StillRejects configuration records (Ok (No place number cause)) judging =
    (ordered : Ordered) × Contains records ordered × (ordered.pos ≡ place)
    × IsReachedBefore configuration (parts_of judging number) ordered
    × Rejects configuration (holder (parts_of judging number)) (parts_of judging number) ordered cause
StillRejects configuration records _ judging = Unit {0}

-- of a broken rule

-- a record's view is seen after others: from these parts, all pieces run over those records and over this one; the views of those, with the
-- values of memories at them, meet every relation, after which the memories have kept this; and this is the view of the record after them
pub record IsSeenAfter (configuration : Configuration) (requirements : Requirements) (parts : ℕ → Part) (before : List Ordered) (ordered : Ordered) (view : View) (kept : List (List Cell)) : Type 0 where
  pub runs : (number : ℕ) → number < length (pieces configuration) → Runs configuration parts number (before ++ ordered ∷ [])
  pub meet : ViewsLead configuration requirements parts before (with_kept requirements kept)
  pub viewed : IsViewOf configuration parts before ordered view

-- a record's view is seen at its place: from the cold state, after as many records as the place
abbrev pub IsSeenAt : Configuration → Requirements → Ordered → View → List (List Cell) → Type 0
IsSeenAt configuration requirements ordered view kept =
    (before : List Ordered) × (length before ≡ ordered.pos) × IsSeenAfter configuration requirements (cold_parts configuration) before ordered view kept

-- a breach is at this place: one of these records is there; the breach has that record's view, seen from these parts on, which are
-- reached after this many records; and of the rules that the view breaks, with the values at it, the one of this number is the first
pub record IsBreachAt (configuration : Configuration) (requirements : Requirements) (parts : ℕ → Part) (count : ℕ) (records : List Ordered) (place rule : ℕ) (breach : Breach) (kept : List (List Cell)) : Type 0 where
  pub before : List Ordered
  pub ordered : Ordered
  pub among : Contains records ordered
  pub there : ordered.pos ≡ place
  pub counted : count + length before ≡ place
  pub seen : IsSeenAfter configuration requirements parts before ordered breach.seen.view kept
  pub first : IsFirstRuleBroken requirements.relations (valued_at requirements.memories kept breach.seen.view) rule

-- after a broken rule over records, from parts that are reached after this many records, there is the breach at its place, and the memories
-- have kept this of the views before it
abbrev pub HasBreach : Configuration → Requirements → (ℕ → Part) → ℕ → List Ordered → Result Verdict CheckFault → Option Breach → List (List Cell) → Type 0
HasBreach configuration requirements parts count records (Ok (Broken place rule)) breach kept =
    (one : Breach) × (breach ≡ Some one) × IsBreachAt configuration requirements parts count records place rule one kept
HasBreach configuration requirements parts count records _ breach kept = Unit {0}

-- the same from the cold state
abbrev pub StillBreaks : Configuration → Requirements → List Ordered → Result Verdict CheckFault → Judging → Type 0
StillBreaks configuration requirements records answer judging =
    HasBreach configuration requirements (cold_parts configuration) 0 records answer judging.breach judging.kept
