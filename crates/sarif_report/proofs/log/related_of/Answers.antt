use Rattle.std.proofs.Common.{ap, ◌∙◌, map}
use Rattle.serde_json.specs.View.{view}
use Rattle.sarif_report.proofs.Related.{next}
use Rattle.sarif_report.proofs.log.related_of.Goals as goal

pub loop-id-preserved : goal.loop-id-preserved
loop-id-preserved c =
    ap (λ l. map view l) c.in_ok-push.ensures.items
    ∙ next c.args.earlier.now c.loop-id.id _ c.loop-id.related.items c.in_ok-earlier_of.field-0 c.loop-id-test.true c.loop-id.invariant c.in_ok-earlier_of.ensures
