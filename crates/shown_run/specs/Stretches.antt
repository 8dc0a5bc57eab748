-- The stretch of a run that a picture shows.
use Rattle.std.specs.Prelude.{◌≡◌, ◌≤◌, ◌-◌, ◌+◌, ℕ, suc, List, ◌++◌, Option, Some, None, Result, Ok, Err, false, true, length, min, take}
use Rattle.apex_types.specs.declared.record.Ordered.{Ordered}
use Rattle.apex_machine.specs.Configuration.{Configuration}
use Rattle.piece_check.specs.Parts.{Holding}
use Rattle.report.specs.declared.fault.CheckFault.{CheckFault}
use Rattle.shown_run.specs.Kept.{AreRecent, IsBegun, IsKept}
use Rattle.shown_run.specs.Walks.{EachRuns}
use Rattle.verdict_merge.specs.declared.verdict.Verdict.{Verdict}
use Rattle.verdict_merge.specs.declared.verdict.Verdict.TheVariants.{Yes, No, Broken}
use Rattle.verdict_merge.specs.Rounds.{AllRun, AreGoing, cold_parts, parts_in}
use Rattle.shown_run.specs.declared.gathering.Gathering.{Gathering}
use Rattle.shown_run.specs.declared.stretch.Stretch.{Stretch}

-- its records are the last of some that were taken, and its pieces are those that the run has reached before the first of them
abbrev pub IsWhole : Configuration → Stretch → Type 0
IsWhole configuration stretch = (taken : List Ordered) × IsKept configuration taken stretch.before stretch.kept.items

-- the first of these records, up to the last place that is asked for
abbrev pub up_to : Option ℕ → List Ordered → List Ordered
up_to None records = records
up_to (Some at) records = take (suc at) records

-- how many of so many records, the first of which is at this place, are not after the last place that is asked for
abbrev pub asked_of : Option ℕ → ℕ → ℕ → ℕ
asked_of None first count = count
asked_of (Some at) first count = min count (suc at - first)

-- none of so many first records of a run is after the last place that is asked for
abbrev pub NoneIsAfter : Option ℕ → ℕ → Type 0
NoneIsAfter None count = Unit {0}
NoneIsAfter (Some at) count = count ≤ suc at

-- so many first records of a run have the one at the last place that is asked for
abbrev pub ReachTheLast : Option ℕ → ℕ → Type 0
ReachTheLast asked count = (at : ℕ) × (asked ≡ Some at) × (suc at ≤ count)

-- how many records a run with this verdict accepts: those before a rejected record, and those up to one whose view breaks a rule
abbrev pub accepted : Verdict → ℕ
accepted (Yes records) = records
accepted (No pos piece cause) = pos
accepted (Broken pos rule) = suc pos

-- the stretch of a run over these records that has this verdict: its records are the last of those that the run accepts, up to the last
-- place that is asked for, and its pieces are those that the run has reached before the first of them
abbrev pub IsStretchOf : Configuration → Option ℕ → List Ordered → Verdict → Stretch → Type 0
IsStretchOf configuration at records verdict stretch =
    IsKept configuration (up_to at (take (accepted verdict) records)) stretch.before stretch.kept.items

-- the records that are gathered are the last of those that were taken, up to the last place that is asked for
abbrev pub IsGathered : Configuration → List Ordered → Gathering → Type 0
IsGathered configuration taken gathering = AreRecent configuration (up_to gathering.asked.at taken) gathering.recent

-- the records that are gathered are the last of some that were taken
abbrev pub IsGatheredOfSome : Configuration → Gathering → Type 0
IsGatheredOfSome configuration gathering = (taken : List Ordered) × IsGathered configuration taken gathering

-- it keeps its records, its pieces are as they were, and the same is asked for
abbrev pub KeepsSame : Gathering → Gathering → Type 0
KeepsSame old new = (new.recent ≡ old.recent) × (new.asked ≡ old.asked)

-- records are gathered. While the picture goes on, none of them is after the last place that is asked for, and the next round begins a
-- span; once it has ended, they have the record at that place
pub record GoesOn (configuration : Configuration) (taken : List Ordered) (gathering : Gathering) : Type 0 where
  pub gathered : IsGathered configuration taken gathering
  pub few : gathering.has_ended ≡ false → NoneIsAfter gathering.asked.at (length taken)
  pub begun : gathering.has_ended ≡ false → IsBegun gathering.recent
  pub full : gathering.has_ended ≡ true → ReachTheLast gathering.asked.at (length taken)

-- how many of the records of a round are accepted, by the verdict that decides there: those before a rejected record, and those up to one
-- whose view breaks a rule
abbrev pub accepted_by : ℕ → ℕ → Option Verdict → ℕ
accepted_by first count (Some (No pos piece cause)) = pos - first
accepted_by first count (Some (Broken pos rule)) = suc (pos - first)
accepted_by first count _ = count

-- these records and those of a round that are accepted, by the verdict that decides there
abbrev pub with_accepted : List Ordered → List Ordered → Option Verdict → List Ordered
with_accepted taken records verdict = taken ++ take (accepted_by (length taken) (length records) verdict) records

-- after these records come those of a round: the pieces have taken all of them, or have a run over those that are accepted
abbrev pub HaveTaken : Configuration → List Ordered → List Ordered → Option Verdict → List Holding → Type 0
HaveTaken configuration taken records None pieces =
    AllRun configuration (cold_parts configuration) (taken ++ records) (parts_in pieces) × AreGoing configuration (length taken + length records) pieces
HaveTaken configuration taken records (Some verdict) pieces =
    EachRuns configuration (cold_parts configuration) (with_accepted taken records (Some verdict))

-- the answer of a run whose stretch is gathered
abbrev pub answer_of : Result (Verdict × Stretch) CheckFault → Result Verdict CheckFault
answer_of (Ok (verdict, stretch)) = Ok verdict
answer_of (Err fault) = Err fault
