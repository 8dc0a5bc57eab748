use Rattle.view_trace.proofs.Traces.{others_none, others_then}
use Rattle.view_trace.proofs.flows.Flows.end_wakes.Goals as goal

pub loop-who-init : goal.loop-who-init
loop-who-init g c = others_none _

pub loop-who-preserved : goal.loop-who-preserved
loop-who-preserved g c = others_then c.loop-who.invariant c.in_ok-end_flow.ensures
