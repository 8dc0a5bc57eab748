-- How a run that is shown ends.
use Rattle.std.specs.Prelude.{◌≡◌, ◌⊎◌, Result}
use Rattle.apex_machine.specs.Configuration.{Configuration}
use Rattle.placement.specs.Lanes.{Placing}
use Rattle.placement.specs.Reading.{CanFail}
use Rattle.program_ends.specs.declared.ending.Ending.{Ending}
use Rattle.program_ends.specs.declared.ending.Ending.TheVariants.{Own}
use Rattle.report.specs.declared.fault.CheckFault.{CheckFault}
use Rattle.report.specs.declared.settings.Settings.{Settings}
use Rattle.report.specs.Answers.{Answers, Given}
use Rattle.shown_run.specs.Judged.{IsAnswerOf}
use Rattle.user_rules.specs.Remembered.{Requirements}
use Rattle.verdict_merge.specs.declared.verdict.Verdict.{Verdict}
use Rattle.shown_run.specs.declared.ending.ViewEnd.{ViewEnd}
use Rattle.shown_run.specs.declared.ending.ViewEnd.TheVariants.{Checked, Unwritten}

-- the end is an outcome of which this holds, or standard output could not be written
abbrev pub EndsWith : (Result Verdict CheckFault → Type 0) → Ending ViewEnd → Type 0
EndsWith Holds ending = (ending ≡ Own Unwritten) ⊎ ((outcome : Result Verdict CheckFault) × (ending ≡ Own (Checked outcome)) × Holds outcome)

-- the end is the answer of a check of what is ahead of the placer
abbrev pub IsShown : CanFail → Configuration → Requirements → Placing → Ending ViewEnd → Type 0
IsShown can_fail configuration requirements start ending = EndsWith (IsAnswerOf can_fail configuration requirements start) ending

-- the end is the answer of a check of these inputs
abbrev pub EndsAs : Given → Requirements → Settings → Ending ViewEnd → Type 0
EndsAs given requirements settings ending = EndsWith (Answers given requirements settings) ending
