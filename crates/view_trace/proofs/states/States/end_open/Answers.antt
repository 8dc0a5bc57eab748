use Rattle.view_trace.proofs.Traces.{others_last, others_then}
use Rattle.view_trace.proofs.states.States.end_open.Goals as goal

pub returns : goal.returns
returns g c = others_last _ c.end_processes.result (others_then c.in_ok-end_cores.ensures c.in_ok-end_modes.ensures) c.end_processes.ensures
