use Rattle.view_trace.specs.Trace.{AddsOthers}
use Rattle.view_trace.specs.Traced.{timed}
use Rattle.view_trace.proofs.flows.Flows.end_wakes.Given as goal

abbrev pub invariant-loop-who : goal.invariant-loop-who
invariant-loop-who g l = AddsOthers (timed g.W.Sink.bytes l.fn.timeline) (timed g.W.Sink.bytes l.timeline)
