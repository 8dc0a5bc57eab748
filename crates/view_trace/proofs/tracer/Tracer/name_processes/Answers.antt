use Rattle.view_trace.proofs.Traces.{others_last, others_then}
use Rattle.view_trace.proofs.tracer.Tracer.name_processes.Goals as goal

pub returns : goal.returns
returns g c = others_last _ c.name_pieces.result (others_then c.in_ok-name_process.ensures c.in_ok-name_process-2.ensures) c.name_pieces.ensures
