-- A run that is made, and the outcome of a check.
use Rattle.std.specs.Prelude.{◌≡◌, ℕ, List, [], Ok, None}
use Rattle.report.specs.declared.settings.Settings.{Settings}
use Rattle.report.specs.Inputs.{whole}
use Rattle.report.specs.No.{NoMeansRefusal}
use Rattle.report.specs.Outcome.{IsOutcome, argument_fault_of}
use Rattle.report.specs.Yes.{YesMeansRun}
use Rattle.user_rules.specs.Remembered.{required_by}
use Rattle.recording_maker.specs.declared.made.MadeRun.{MadeRun}
use Rattle.recording_walk.specs.declared.walking.WalkPlan.{WalkPlan}
use Rattle.recording_maker.specs.Made.{IsMade, texts_made}

-- the verdict of a run that is made is what a check of its texts answers under no rules, whatever its settings if they are not refused,
-- where no reader fails and no memory is refused. A Yes means that the recordings are a lawful run in the order of the certificate; a No
-- means that the records before its place are such a run, and that the machine has no step for the record there
abbrev pub MadeIsTheOutcome : Type 0
MadeIsTheOutcome =
    (settings : Settings) (config : List ℕ) (plan : WalkPlan) (made : MadeRun) → argument_fault_of settings ≡ None → IsMade config plan made
    → IsOutcome settings (texts_made config made) whole (required_by [] []) (Ok made.verdict) × YesMeansRun (texts_made config made) (required_by [] []) (Ok made.verdict)
    × NoMeansRefusal (texts_made config made) (required_by [] []) (Ok made.verdict)
