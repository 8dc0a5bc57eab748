use Rattle.std.proofs.Common.{◌∙◌, map}
use Rattle.std.proofs.lemmas.Result.{IfOk-weaker}
use Rattle.serde_json.specs.View.{view}
use Rattle.sarif_report.proofs.Parts.{result_is}
use Rattle.sarif_report.proofs.log.result_of.Goals as goal

pub returns : goal.returns
returns c =
    let is = result_is c.args.finding.now c.args.earlier.now (view c.in_ok-place.place) (view c.in_ok-found.found) (view c.in_ok-message.message) (view c.in_ok-fingerprints.fingerprints)
    (map view c.in_ok-related.related.items) c.in_ok-place.ensures c.in_ok-found.ensures c.in_ok-message.ensures c.in_ok-fingerprints.ensures c.in_ok-related.ensures in
    IfOk-weaker c.result_with.result _ _ (λ value with_parts. with_parts ∙ is) c.result_with.ensures
