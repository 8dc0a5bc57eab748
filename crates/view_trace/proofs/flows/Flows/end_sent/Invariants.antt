use Rattle.view_trace.specs.Trace.{AddsOthers}
use Rattle.view_trace.specs.Traced.{timed}
use Rattle.view_trace.proofs.flows.Flows.end_sent.Given as goal

abbrev pub invariant-loop-message : goal.invariant-loop-message
invariant-loop-message g l = AddsOthers (timed g.W.Sink.bytes l.fn.timeline) (timed g.W.Sink.bytes l.timeline)
