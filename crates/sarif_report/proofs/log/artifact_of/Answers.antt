use Rattle.std.proofs.Common.{◌∙◌, ap₂}
use Rattle.std.proofs.lemmas.Result.{IfOk-weaker}
use Rattle.sarif_report.specs.Log.{artifact_from}
use Rattle.sarif_report.proofs.log.artifact_of.Goals as goal

pub returns : goal.returns
returns c = IfOk-weaker c.artifact_with.result _ _ (λ artifact is. is ∙ ap₂ artifact_from c.in_ok-uri.ensures c.base_of-base.ensures) c.artifact_with.ensures
