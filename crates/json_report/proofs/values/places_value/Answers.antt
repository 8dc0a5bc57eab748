use Rattle.std.proofs.Common.{ap, ◌∙◌, map}
use Rattle.serde_json.specs.View.{view}
use Rattle.json_report.specs.Answer.{place_data}
use Rattle.json_report.proofs.Lists.{next}
use Rattle.json_report.proofs.values.places_value.Goals as goal

pub loop-place-preserved : goal.loop-place-preserved
loop-place-preserved c =
    ap (λ l. map view l) c.in_ok-push.ensures.items
    ∙ next place_data c.args.places.now c.loop-place.place-index _ c.loop-place.values.items c.in_ok-place_value.field-0 c.loop-place-test.true c.loop-place.invariant c.in_ok-place_value.ensures
