use Rattle.view_trace.specs.Trace.{AddsOthers}
use Rattle.view_trace.specs.Traced.{timed}
use Rattle.view_trace.proofs.flows.Flows.begin_wakes.Given as goal

abbrev pub invariant-loop-index : goal.invariant-loop-index
invariant-loop-index g l = AddsOthers (timed g.W.Sink.bytes l.fn.timeline) (timed g.W.Sink.bytes l.timeline)
