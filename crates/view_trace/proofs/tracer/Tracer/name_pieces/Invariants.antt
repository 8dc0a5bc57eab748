use Rattle.view_trace.specs.Trace.{AddsOthers}
use Rattle.view_trace.specs.Traced.{traced}
use Rattle.view_trace.proofs.tracer.Tracer.name_pieces.Given as goal

abbrev pub invariant-loop-piece : goal.invariant-loop-piece
invariant-loop-piece g l = AddsOthers (traced g.W.Sink.bytes l.fn.self) (traced g.W.Sink.bytes l.self)
