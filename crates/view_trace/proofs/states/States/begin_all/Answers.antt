use Rattle.view_trace.proofs.Traces.{others_last, others_then}
use Rattle.view_trace.proofs.states.States.begin_all.Goals as goal

pub returns : goal.returns
returns g c = others_last _ c.begin_wait.result (others_then c.in_ok-count_priority.ensures c.in_ok-begin_state.ensures) c.begin_wait.ensures
