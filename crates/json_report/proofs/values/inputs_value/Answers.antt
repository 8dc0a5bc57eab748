use Rattle.std.proofs.Common.{ap, ◌∙◌, map}
use Rattle.serde_json.specs.View.{view}
use Rattle.json_report.specs.Answer.{input_data}
use Rattle.json_report.proofs.Lists.{next}
use Rattle.json_report.proofs.values.inputs_value.Goals as goal

pub loop-input-preserved : goal.loop-input-preserved
loop-input-preserved c =
    ap (λ l. map view l) c.in_ok-push.ensures.items
    ∙ next input_data c.args.inputs.now c.loop-input.input-index c.input-item.result c.loop-input.values.items c.in_ok-input_value.field-0 c.loop-input-test.true c.loop-input.invariant (c.in_ok-input_value.ensures ∙ ap input_data c.input-item.is)
