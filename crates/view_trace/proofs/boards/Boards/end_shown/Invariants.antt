use Rattle.view_trace.specs.Trace.{AddsOthers}
use Rattle.view_trace.specs.Traced.{timed}
use Rattle.view_trace.proofs.boards.Boards.end_shown.Given as goal

abbrev pub invariant-loop-board : goal.invariant-loop-board
invariant-loop-board g l = AddsOthers (timed g.W.Sink.bytes l.fn.timeline) (timed g.W.Sink.bytes l.timeline)
