use Rattle.std.proofs.Common.{ap, ◌∙◌, map}
use Rattle.serde_json.specs.View.{view}
use Rattle.json_report.specs.Answer.{record_data}
use Rattle.json_report.proofs.Lists.{next}
use Rattle.json_report.proofs.values.last_value.Goals as goal

pub loop-before-preserved : goal.loop-before-preserved
loop-before-preserved c =
    ap (λ l. map view l) c.in_ok-push.ensures.items
    ∙ next record_data c.args.records.now c.loop-before.before-index _ c.loop-before.values.items c.in_ok-record_value.field-0 c.loop-before-test.true c.loop-before.invariant c.in_ok-record_value.ensures
