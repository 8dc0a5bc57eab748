use Rattle.std.proofs.Common.{ap, ◌∙◌, map}
use Rattle.serde_json.specs.View.{view}
use Rattle.json_report.specs.Answer.{sentence_data}
use Rattle.json_report.proofs.Lists.{next}
use Rattle.json_report.proofs.values.sentences_value.Goals as goal

pub loop-sentence-preserved : goal.loop-sentence-preserved
loop-sentence-preserved c =
    ap (λ l. map view l) c.in_ok-push.ensures.items
    ∙ next sentence_data c.args.sentences.now c.loop-sentence.sentence-index c.sentence-item.result c.loop-sentence.values.items c.in_ok-sentence_value.field-0 c.loop-sentence-test.true c.loop-sentence.invariant (c.in_ok-sentence_value.ensures ∙ ap sentence_data c.sentence-item.is)
