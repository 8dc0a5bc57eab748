use Rattle.std.proofs.Common.{◌≡◌, take}
use Rattle.sink.specs.Written.{IsWritten}
use Rattle.report.specs.Last.{last_lines}
use Rattle.report.proofs.last_text.write_last.Given as goal

abbrev pub invariant-items : goal.invariant-items
invariant-items g l = record {
  out : IsWritten (g.W.Sink.bytes l.fn.w) (last_lines (take l.index l.last)) (g.W.Sink.bytes l.w);
  same : g.W.Sink.failures l.w ≡ g.W.Sink.failures l.fn.w;
}
