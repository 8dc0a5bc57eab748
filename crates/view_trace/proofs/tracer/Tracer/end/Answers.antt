use Rattle.std.proofs.lemmas.Result.{on_ok_weaker}
use Rattle.view_trace.proofs.Traces.{ends_after, others_then}
use Rattle.view_trace.proofs.tracer.Tracer.end.Goals as goal

pub returns : goal.returns
returns g c =
    on_ok_weaker c.end.result
    (λ written. ends_after (others_then (others_then c.in_ok-end_sent.ensures c.in_ok-end_shown.ensures) c.in_ok-end_open.ensures) written)
    c.end.ensures.written
