use Rattle.view_trace.proofs.Traces.{others_none, others_then}
use Rattle.view_trace.proofs.flows.Flows.end_sent.Goals as goal

pub loop-message-init : goal.loop-message-init
loop-message-init g c = others_none _

pub loop-message-preserved : goal.loop-message-preserved
loop-message-preserved g c = others_then c.loop-message.invariant c.in_ok-end_flow.ensures
