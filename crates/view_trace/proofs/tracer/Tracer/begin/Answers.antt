use Rattle.view_trace.proofs.Traces.{others_from, others_last}
use Rattle.view_trace.proofs.tracer.Tracer.begin.Goals as goal

pub returns : goal.returns
returns g c = others_last _ c.apply.result (others_from c.in_ok-begin.ensures c.in_ok-name_processes.ensures) c.apply.ensures
