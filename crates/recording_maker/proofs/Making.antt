-- A run that is made is one that was asked for.
use Rattle.std.proofs.Common.{◌≡◌, ◌∙◌, ℕ, List, Result, Ok, All, ap, subst}
use Rattle.report.specs.declared.fault.CheckFault.{CheckFault}
use Rattle.report.specs.Text.{report_of}
use Rattle.verdict_merge.specs.declared.verdict.Verdict.{Verdict}
use Rattle.recording_maker.specs.declared.made.MadeRun.{MadeRun}
use Rattle.recording_walk.specs.declared.walking.WalkPlan.{WalkPlan}
use Rattle.recording_maker.specs.Formats.{IsInFormat}
use Rattle.recording_maker.specs.Made.{IsAnswerTo, IsMade, IsWanted, texts_made}

pub made_so : (config : List ℕ) (plan : WalkPlan) (made : MadeRun) (outcome : Result Verdict CheckFault) → IsAnswerTo (texts_made config made) outcome → outcome ≡ Ok made.verdict
    → IsWanted plan made.verdict → All (λ recording. IsInFormat plan.format recording.items) made.recordings.items → made.line.items ≡ report_of outcome
    → IsMade config plan made
made_so config plan made outcome answer same wanted format line = record {
  checked = subst (λ (found : Result Verdict CheckFault). IsAnswerTo (texts_made config made) found) same answer;
  wanted = wanted;
  format = format;
  line = line ∙ ap report_of same;
}
