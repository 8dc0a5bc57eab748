-- What a run that was followed comes to.
use Rattle.std.specs.Prelude.{Result, Ok, Err}
use Rattle.report.specs.declared.fault.CheckFault.{CheckFault}
use Rattle.report.specs.declared.fault.CheckFault.TheVariants.{Memory}
use Rattle.shown_run.specs.declared.fault.FollowFault.{FollowFault}
use Rattle.shown_run.specs.declared.fault.FollowFault.TheVariants.{Refused, Stopped}
use Rattle.verdict_merge.specs.declared.verdict.Verdict.{Verdict}

-- its answer, or a lack of memory if its follower stopped it
abbrev pub outcome_of : {Stop : Type 0} → Result Verdict (FollowFault Stop) → Result Verdict CheckFault
outcome_of (Ok verdict) = Ok verdict
outcome_of (Err (Refused fault)) = Err fault
outcome_of (Err (Stopped stop)) = Err Memory
