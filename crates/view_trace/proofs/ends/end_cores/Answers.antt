use Rattle.view_trace.proofs.Traces.{others_none, others_then}
use Rattle.view_trace.proofs.ends.end_cores.Goals as goal

pub loop-core-init : goal.loop-core-init
loop-core-init g c = others_none _

pub loop-core-preserved : goal.loop-core-preserved
loop-core-preserved g c = others_then c.loop-core.invariant c.in_ok-end_slice.ensures
