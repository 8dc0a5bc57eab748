use Rattle.std.proofs.Common.{◌≡◌, take}
use Rattle.sink.specs.Written.{IsWritten}
use Rattle.check_result.specs.RowsText.{fault_lines}
use Rattle.check_result.proofs.rows_text.write_faults.Given as goal

abbrev pub invariant-loop-core : goal.invariant-loop-core
invariant-loop-core g l = record {
  out : IsWritten (g.W.Sink.bytes l.fn.w) (fault_lines 0 (take l.core l.found)) (g.W.Sink.bytes l.w);
  same : g.W.Sink.failures l.w ≡ g.W.Sink.failures l.fn.w;
}
