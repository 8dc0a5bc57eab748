-- How a run that is shown ends, by its answer.
use Rattle.std.proofs.Common.{◌≡◌, ◌⊎◌, Result, Ok, Err, inl, inr, refl}
use Rattle.apex_machine.specs.Configuration.{Configuration}
use Rattle.placement.specs.Lanes.{Placing}
use Rattle.placement.specs.Reading.{CanFail}
use Rattle.program_ends.specs.declared.ending.Ending.{Ending}
use Rattle.program_ends.specs.declared.ending.Ending.TheVariants.{Own}
use Rattle.program_ends.specs.Endings.{out_of_memory}
use Rattle.report.specs.declared.fault.CheckFault.{CheckFault}
use Rattle.report.specs.declared.fault.CheckFault.TheVariants.{Memory}
use Rattle.shown_run.specs.declared.ending.ViewEnd.{ViewEnd}
use Rattle.shown_run.specs.declared.ending.ViewEnd.TheVariants.{Checked, Unwritten}
use Rattle.shown_run.specs.declared.fault.FollowFault.{FollowFault}
use Rattle.shown_run.specs.declared.fault.FollowFault.TheVariants.{Refused, Stopped}
use Rattle.shown_run.specs.Endings.{refusing}
use Rattle.shown_run.specs.Judged.{IsAnswerOf, IsFollowed}
use Rattle.shown_run.specs.Shown.{IsShown}
use Rattle.user_rules.specs.Remembered.{Requirements}
use Rattle.verdict_merge.specs.declared.verdict.Verdict.{Verdict}
use Rattle.view_drawing.specs.Followed.{outcome_of}

-- what was ahead is shown, if the end is the answer of a check of it, or is cut off
pub shown_as : (can_fail : CanFail) (configuration : Configuration) (requirements : Requirements) (start : Placing) (outcome : Result Verdict CheckFault) (ending : Ending ViewEnd)
    → (ending ≡ Own Unwritten) ⊎ (ending ≡ out_of_memory refusing) ⊎ (ending ≡ Own (Checked outcome)) → IsAnswerOf can_fail configuration requirements start outcome
    → IsShown can_fail configuration requirements start ending
shown_as can_fail configuration requirements start outcome ending (inl unwritten) answer = inl unwritten
shown_as can_fail configuration requirements start outcome ending (inr (inl memory)) answer = inr (Err Memory, memory, inl refl)
shown_as can_fail configuration requirements start outcome ending (inr (inr checked)) answer = inr (outcome, checked, answer)

-- what a run that was followed comes to is the answer of a check
followed_answer : {Stop : Type 0} (can_fail : CanFail) (configuration : Configuration) (requirements : Requirements) (start : Placing) (followed : Result Verdict (FollowFault Stop))
    → IsFollowed can_fail configuration requirements start followed → IsAnswerOf can_fail configuration requirements start (outcome_of followed)
followed_answer can_fail configuration requirements start (Ok verdict) answer = answer
followed_answer can_fail configuration requirements start (Err (Refused fault)) answer = answer
followed_answer can_fail configuration requirements start (Err (Stopped stop)) answer = inl refl

-- the same of a run that was followed
pub followed_shown : {Stop : Type 0} (can_fail : CanFail) (configuration : Configuration) (requirements : Requirements) (start : Placing) (followed : Result Verdict (FollowFault Stop)) (ending : Ending ViewEnd)
    → (ending ≡ Own Unwritten) ⊎ (ending ≡ out_of_memory refusing) ⊎ (ending ≡ Own (Checked (outcome_of followed))) → IsFollowed can_fail configuration requirements start followed
    → IsShown can_fail configuration requirements start ending
followed_shown can_fail configuration requirements start followed ending ends answer =
    shown_as can_fail configuration requirements start (outcome_of followed) ending ends (followed_answer can_fail configuration requirements start followed answer)
