use Rattle.std.proofs.Common.{ap, ◌∙◌, map}
use Rattle.serde_json.specs.Data.{string}
use Rattle.serde_json.specs.View.{view}
use Rattle.json_report.specs.Answer.{text_data}
use Rattle.json_report.proofs.Lists.{next}
use Rattle.json_report.proofs.values.texts_value.Goals as goal

pub loop-text-preserved : goal.loop-text-preserved
loop-text-preserved c =
    ap (λ l. map view l) c.in_ok-push.ensures.items
    ∙ next text_data c.args.texts.now c.loop-text.text-index c.text-item.result c.loop-text.values.items c.in_ok-text_value.field-0 c.loop-text-test.true c.loop-text.invariant (c.in_ok-text_value.ensures ∙ ap string c.as_str.ensures.value ∙ ap text_data c.text-item.is)
