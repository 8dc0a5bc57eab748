use Rattle.view_trace.proofs.Traces.{others_none, others_then}
use Rattle.view_trace.proofs.ends.end_modes.Goals as goal

pub loop-part-init : goal.loop-part-init
loop-part-init g c = others_none _

pub loop-part-preserved : goal.loop-part-preserved
loop-part-preserved g c = others_then c.loop-part.invariant c.in_ok-end_slice.ensures
