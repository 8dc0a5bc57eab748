use Rattle.view_trace.proofs.Traces.{others_none, others_then}
use Rattle.view_trace.proofs.ends.end_processes.Goals as goal

pub loop-process-init : goal.loop-process-init
loop-process-init g c = others_none _

pub loop-process-preserved : goal.loop-process-preserved
loop-process-preserved g c = others_then c.loop-process.invariant c.in_ok-end_process.ensures
