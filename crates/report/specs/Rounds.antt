-- What the records of a round decide, and how a round is placed.
use Rattle.std.specs.Prelude.{◌≡◌, ◌+◌, ◌⊎◌, List, ◌++◌, Option, Some, None, Result, Ok, Err, false, length}
use Rattle.apex_types.specs.declared.record.Ordered.{Ordered}
use Rattle.apex_machine.specs.Configuration.{Configuration}
use Rattle.apex_machine.specs.Runs.{ArePlaced, AreOfCores}
use Rattle.order_cert.specs.Kept.{place_of}
use Rattle.placement.specs.declared.fault.InputFault.{InputFault}
use Rattle.placement.specs.declared.placer.Filled.{Filled}
use Rattle.placement.specs.declared.placer.Filled.TheVariants.{Full}
use Rattle.placement.specs.Lanes.{AreHonest, IsFilled, Placing}
use Rattle.placement.specs.Reading.{CanFail}
use Rattle.user_rules.specs.Remembered.{Requirements, with_kept}
use Rattle.verdict_merge.specs.declared.verdict.Verdict.{Verdict}
use Rattle.verdict_merge.specs.declared.verdict.Verdict.TheVariants.{No}
use Rattle.verdict_merge.specs.Verdicts.{IsVerdictFrom, ViewsLead}
use Rattle.verdict_merge.specs.Rounds.{AllRun, EndsInNo, IsReady, Judging, parts_of}
use Rattle.report.specs.declared.fault.CheckFault.{CheckFault}
use Rattle.report.specs.declared.fault.CheckFault.TheVariants.{Memory}
use Rattle.report.specs.Outcome.{answer_with}
use Rattle.report.specs.Shown.{HasBreach}

-- all pieces may judge these records next: they have judged those before them
pub record MayJudge (configuration : Configuration) (judging : Judging) (records : List Ordered) : Type 0 where
  pub ready : IsReady configuration judging
  pub placed : ArePlaced judging.count records
  pub cores : AreOfCores configuration.cores records

-- a verdict that holds however the input ends
abbrev pub IsFinal : Verdict → Type 0
IsFinal verdict = (end : Result (Unit {0}) InputFault) → Ok verdict ≡ answer_with verdict end

-- after a No over these records, its piece is left as it was before the one that it rejects
abbrev pub LeavesItsPiece : Configuration → Judging → List Ordered → Result Verdict CheckFault → Judging → Type 0
LeavesItsPiece configuration old records (Ok (No place number cause)) new =
    EndsInNo configuration (parts_of old) records (record { pos = place; piece = number; cause = cause }) (parts_of new)
LeavesItsPiece configuration old records _ new = Unit {0}

-- after a broken rule over these records, the breach of the record at its place is left
abbrev pub LeavesItsBreach : Configuration → Requirements → Judging → List Ordered → Result Verdict CheckFault → Judging → Type 0
LeavesItsBreach configuration requirements old records answer new = HasBreach configuration requirements (parts_of old) old.count records answer new.breach new.kept

-- what the records of a round decide: nothing, if each piece ran over them and each of their views meets every relation; or the verdict
-- over them, whatever comes after them, and after a No its piece is left as it was
abbrev pub IsDecided : Configuration → Requirements → Judging → List Ordered → Option Verdict → Judging → Type 0
IsDecided configuration requirements old records None new =
    AllRun configuration (parts_of old) records (parts_of new) × (new.count ≡ old.count + length records)
    × ViewsLead configuration requirements (parts_of old) records (with_kept requirements new.kept) × IsReady configuration new
IsDecided configuration requirements old records (Some verdict) new =
    ((later : List Ordered) → IsVerdictFrom configuration requirements (parts_of old) old.count (records ++ later) verdict) × IsFinal verdict
    × LeavesItsPiece configuration old records (Ok verdict) new

-- the answer over the last records, after which the input ends in this way; a lack of memory outranks it
abbrev pub IsLastAnswer : Configuration → Requirements → Judging → List Ordered → Result (Unit {0}) InputFault → Result Verdict CheckFault → Type 0
IsLastAnswer configuration requirements judging records end answer =
    (answer ≡ Err Memory)
    ⊎ ((verdict : Verdict) × IsVerdictFrom configuration requirements (parts_of judging) judging.count records verdict × (answer ≡ answer_with verdict end))

-- how a round was filled: its records are at the next places, and what was ahead is known if the recordings were answered honestly
pub record IsPlaced (can_fail : CanFail) (old : Placing) (records : List Ordered) (filled : Filled) (new : Placing) : Type 0 where
  pub known : AreHonest can_fail.recordings new.lanes → IsFilled can_fail old records filled new
  pub honest : AreHonest can_fail.recordings new.lanes → AreHonest can_fail.recordings old.lanes
  pub placed : ArePlaced (place_of old.kept) records
  pub cores : AreOfCores (length old.lanes) records
  pub going : filled ≡ Full → new.ended ≡ false
  pub place : filled ≡ Full → place_of new.kept ≡ place_of old.kept + length records
  pub lanes : length new.lanes ≡ length old.lanes
