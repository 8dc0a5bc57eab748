-- What a run that is made is.
use Rattle.std.specs.Prelude.{◌≡◌, ℕ, [], false, All, List, Option, Some, None, Result, Ok, map}
use Rattle.placement.specs.Reading.{CanFail}
use Rattle.recording_walk.specs.declared.walking.WalkPlan.{WalkPlan}
use Rattle.report.specs.declared.fault.CheckFault.{CheckFault}
use Rattle.report.specs.declared.last.LastItem.{LastItem}
use Rattle.report.specs.declared.settings.Settings.{Settings}
use Rattle.report.specs.Answers.{IsAnswer}
use Rattle.report.specs.Inputs.{Texts}
use Rattle.report.specs.Text.{report_of}
use Rattle.user_rules.specs.Remembered.{required_by}
use Rattle.verdict_merge.specs.declared.verdict.Verdict.{Verdict}
use Rattle.verdict_merge.specs.declared.verdict.Verdict.TheVariants.{Yes, No, Broken}
use Rattle.recording_maker.specs.declared.made.MadeRun.{MadeRun}
use Rattle.recording_maker.specs.Formats.{IsInFormat}

-- the texts of a check: the configuration, the recordings and the certificate
abbrev pub texts_of : List ℕ → List (List ℕ) → List ℕ → Texts
texts_of config recordings certificate = record { config = config; recordings = recordings; certificate = certificate }

-- reading a text in memory cannot fail
abbrev pub in_memory : CanFail
in_memory = record { recordings = false; certificate = false }

-- the texts of a run that was made over this configuration
abbrev pub texts_made : List ℕ → MadeRun → Texts
texts_made config made = texts_of config (map (λ recording. recording.items) made.recordings.items) made.certificate.items

-- an outcome is the answer that a check of these texts has under no rules
pub record IsAnswerTo (texts : Texts) (outcome : Result Verdict CheckFault) : Type 0 where
  pub settings : Settings
  pub last : List LastItem
  pub answer : IsAnswer settings texts in_memory (required_by [] []) outcome last

-- a verdict is one that a plan asks for: Yes for as many records; or, if a record is to be spoilt, No for the cause
abbrev pub IsWanted : WalkPlan → Verdict → Type 0
IsWanted plan (Yes records) = (plan.spoil ≡ None) × (records ≡ plan.records)
IsWanted plan (No pos piece cause) = plan.spoil ≡ Some cause
IsWanted plan (Broken pos rule) = ⊥

-- a run was made over this configuration by this plan: its verdict is the answer that a check of its texts has, and one that the plan asks
-- for; its recordings are in the format of the plan; and its line is the report of the answer
pub record IsMade (config : List ℕ) (plan : WalkPlan) (made : MadeRun) : Type 0 where
  pub checked : IsAnswerTo (texts_made config made) (Ok made.verdict)
  pub wanted : IsWanted plan made.verdict
  pub format : All (λ recording. IsInFormat plan.format recording.items) made.recordings.items
  pub line : made.line.items ≡ report_of (Ok made.verdict)
