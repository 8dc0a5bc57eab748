-- What a run that is shown comes to.
use Rattle.std.specs.Prelude.{◌≡◌, ◌⊎◌, ℕ, List, Option, Some, None, Result, Ok, Err, IfOk, take}
use Rattle.apex_machine.specs.Configuration.{Configuration}
use Rattle.piece_check.specs.Parts.{Holding}
use Rattle.placement.specs.declared.fault.InputFault.{InputFault}
use Rattle.placement.specs.declared.placer.Filled.{Filled}
use Rattle.placement.specs.declared.placer.Filled.TheVariants.{Ended, Full}
use Rattle.placement.specs.Lanes.{IsAhead, Placing}
use Rattle.placement.specs.Reading.{CanFail}
use Rattle.placement.specs.Scan.{Scan}
use Rattle.report.specs.declared.fault.CheckFault.{CheckFault}
use Rattle.report.specs.declared.fault.CheckFault.TheVariants.{Memory}
use Rattle.report.specs.Outcome.{IsJudged, answer_with}
use Rattle.user_rules.specs.declared.memory.Cell.{Cell}
use Rattle.user_rules.specs.Remembered.{Requirements}
use Rattle.verdict_merge.specs.declared.breach.Breach.{Breach}
use Rattle.verdict_merge.specs.declared.verdict.Verdict.{Verdict}
use Rattle.verdict_merge.specs.declared.verdict.Verdict.TheVariants.{Yes}
use Rattle.verdict_merge.specs.Rounds.{Judging}
use Rattle.shown_run.specs.declared.fault.FollowFault.{FollowFault}
use Rattle.shown_run.specs.declared.fault.FollowFault.TheVariants.{Refused, Stopped}
use Rattle.shown_run.specs.declared.gathering.Gathering.{Gathering}
use Rattle.shown_run.specs.declared.stretch.Stretch.{Stretch}
use Rattle.shown_run.specs.Stretches.{IsGathered, IsStretchOf, accepted, answer_of}

-- the pieces after so many records, and what memories have kept of their views, as a check has them
abbrev pub judging_of : ℕ → List Holding → List (List Cell) → Judging
judging_of place pieces kept = record { count = place; pieces = pieces; breach = None; kept = kept }

-- the same with a breach
abbrev pub judging_with : ℕ → List Holding → List (List Cell) → Option Breach → Judging
judging_with place pieces kept breach = record { count = place; pieces = pieces; breach = breach; kept = kept }

-- how a placer fills a round after which the input ends so, or goes on
abbrev pub filled_of : Option (Result (Unit {0}) InputFault) → Filled
filled_of None = Full
filled_of (Some end) = Ended end

-- the answer of a run after a round, up to this place: the verdict that decides in it, if one does; else, if the input ends so after it, Yes
-- with the number of all records or the fault; and none if the run goes on
abbrev pub answer_after : ℕ → Option (Result (Unit {0}) InputFault) → Option Verdict → Option (Result Verdict CheckFault)
answer_after next end (Some verdict) = Some (Ok verdict)
answer_after next (Some end) None = Some (answer_with (Yes next) end)
answer_after next None None = None

-- the answer is that of a check of what is ahead of the placer; a lack of memory outranks it
abbrev pub IsAnswerOf : CanFail → Configuration → Requirements → Placing → Result Verdict CheckFault → Type 0
IsAnswerOf can_fail configuration requirements start answer =
    (answer ≡ Err Memory) ⊎ ((scanned : Scan) × IsAhead can_fail start scanned × IsJudged configuration requirements scanned answer)

-- the same, and with a verdict comes the stretch of the run over the records that are ahead, up to the last place that is asked for
abbrev pub IsShownOf : CanFail → Configuration → Requirements → Placing → Option ℕ → Result (Verdict × Stretch) CheckFault → Type 0
IsShownOf can_fail configuration requirements start at shown =
    (shown ≡ Err Memory)
    ⊎ ((scanned : Scan) × IsAhead can_fail start scanned × IsJudged configuration requirements scanned (answer_of shown)
    × IfOk shown (λ found. IsStretchOf configuration at scanned.placed found.0 found.1))

-- the same of an answer, and of what was gathered of the run
abbrev pub IsGatheredOf : CanFail → Configuration → Requirements → Placing → Result Verdict CheckFault → Gathering → Type 0
IsGatheredOf can_fail configuration requirements start answer gathering =
    (answer ≡ Err Memory)
    ⊎ ((scanned : Scan) × IsAhead can_fail start scanned × IsJudged configuration requirements scanned answer
    × IfOk answer (λ verdict. IsGathered configuration (take (accepted verdict) scanned.placed) gathering))

-- the same of a run that is followed, unless its follower stops it
abbrev pub IsFollowed : {Stop : Type 0} → CanFail → Configuration → Requirements → Placing → Result Verdict (FollowFault Stop) → Type 0
IsFollowed can_fail configuration requirements start (Ok verdict) = IsAnswerOf can_fail configuration requirements start (Ok verdict)
IsFollowed can_fail configuration requirements start (Err (Refused fault)) = IsAnswerOf can_fail configuration requirements start (Err fault)
IsFollowed can_fail configuration requirements start (Err (Stopped stop)) = Unit {0}

-- the answer of a run that its follower does not stop
abbrev pub followed_by : {Stop : Type 0} → Result Verdict CheckFault → Result Verdict (FollowFault Stop)
followed_by (Ok verdict) = Ok verdict
followed_by (Err fault) = Err (Refused fault)
