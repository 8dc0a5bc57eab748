use Rattle.std.proofs.lemmas.Result.{on_ok_weaker}
use Rattle.view_trace.proofs.timeline.Timeline.add_fault.Goals as goal

pub returns : goal.returns
returns g c =
    on_ok_weaker c.add.result
    (λ added. record {
      event = c.fault-event.result;
      is_fault = c.fault-event.ensures.fault;
      is_placed = c.fault-event.ensures.place;
      is_named = c.fault-event.ensures.answer;
      is_explained = c.fault-event.ensures.explanation;
      is_added = added;
    })
    c.add.ensures.added
