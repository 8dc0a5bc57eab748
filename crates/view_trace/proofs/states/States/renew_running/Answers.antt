use Rattle.view_trace.proofs.Traces.{others_none, others_then}
use Rattle.view_trace.proofs.states.States.renew_running.Goals as goal

pub loop-index-init : goal.loop-index-init
loop-index-init g c = others_none _

pub loop-index-preserved : goal.loop-index-preserved
loop-index-preserved g c = others_then c.loop-index.invariant c.in_ok-renew_runner.ensures
