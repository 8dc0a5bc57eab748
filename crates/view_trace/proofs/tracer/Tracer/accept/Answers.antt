use Rattle.std.proofs.lemmas.Result.{on_ok_weaker}
use Rattle.view_trace.proofs.Traces.{others_then, record_between}
use Rattle.view_trace.proofs.tracer.Tracer.accept.Goals as goal

pub returns : goal.returns
returns g c =
    on_ok_weaker c.follow.result
    (λ last. record_between (others_then c.in_ok-begin_wakes.ensures c.in_ok-apply.ensures) c.in_ok-add_record.ensures (others_then c.in_ok-end_wakes.ensures last))
    c.follow.ensures
