use Rattle.view_page.specs.Sent.{Sends, taken_by}
use Rattle.view_page.proofs.written.write_alone.Given as goal

-- markup went out so far
abbrev pub invariant-loop-strip : goal.invariant-loop-strip
invariant-loop-strip g l = Sends (taken_by g.W.Sink.bytes g.W.Sink.failures l.fn.output) (taken_by g.W.Sink.bytes g.W.Sink.failures l.output)
