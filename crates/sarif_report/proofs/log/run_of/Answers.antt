use Rattle.std.proofs.Common.{◌∙◌, map}
use Rattle.std.proofs.lemmas.Result.{IfOk-weaker}
use Rattle.serde_json.specs.View.{view}
use Rattle.sarif_report.proofs.Parts.{run_is}
use Rattle.sarif_report.proofs.log.run_of.Goals as goal

pub returns : goal.returns
returns c =
    let is = run_is c.args.of.now (view c.in_ok-details.details) (view c.args.invocation) (view c.in_ok-root.root) (view c.in_ok-folders.folders) (view c.args.driver)
    (view c.in_ok-tool.tool) (map view c.args.results.items) c.in_ok-details.ensures c.in_ok-root.ensures c.in_ok-folders.ensures c.in_ok-tool.ensures in
    IfOk-weaker c.run_with.result _ _ (λ value with_parts. with_parts ∙ is) c.run_with.ensures
