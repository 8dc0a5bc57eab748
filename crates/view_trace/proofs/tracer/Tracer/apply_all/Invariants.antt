use Rattle.view_trace.specs.Trace.{AddsOthers}
use Rattle.view_trace.specs.Traced.{traced}
use Rattle.view_trace.proofs.tracer.Tracer.apply_all.Given as goal

abbrev pub invariant-loop-change : goal.invariant-loop-change
invariant-loop-change g l = AddsOthers (traced g.W.Sink.bytes l.fn.self) (traced g.W.Sink.bytes l.self)
