use Rattle.std.proofs.lemmas.Result.{on_ok_weaker}
use Rattle.view_trace.proofs.timeline.Timeline.add_record.Goals as goal

pub returns : goal.returns
returns g c =
    on_ok_weaker c.add.result
    (λ added. record { event = c.record-event.result; is_record = c.record-event.ensures.record; is_placed = c.record-event.ensures.place; is_added = added })
    c.add.ensures.added
