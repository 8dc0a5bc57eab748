use Rattle.view_trace.proofs.Traces.{others_none, others_then}
use Rattle.view_trace.proofs.tracer.Tracer.apply_all.Goals as goal

pub loop-change-init : goal.loop-change-init
loop-change-init g c = others_none _

pub loop-change-preserved : goal.loop-change-preserved
loop-change-preserved g c = others_then c.loop-change.invariant c.in_ok-is_moved.ensures
