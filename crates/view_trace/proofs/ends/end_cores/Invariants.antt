use Rattle.view_trace.specs.Trace.{AddsOthers}
use Rattle.view_trace.specs.Traced.{timed}
use Rattle.view_trace.proofs.ends.end_cores.Given as goal

abbrev pub invariant-loop-core : goal.invariant-loop-core
invariant-loop-core g l = AddsOthers (timed g.W.Sink.bytes l.fn.timeline) (timed g.W.Sink.bytes l.timeline)
