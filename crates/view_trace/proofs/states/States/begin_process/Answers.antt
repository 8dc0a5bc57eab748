use Rattle.view_trace.proofs.Traces.{others_last}
use Rattle.view_trace.proofs.states.States.begin_process.Goals as goal

pub returns : goal.returns
returns g c = others_last _ c.begin_all.result c.in_ok-name_thread.ensures c.begin_all.ensures
