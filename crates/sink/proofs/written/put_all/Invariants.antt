use Rattle.std.proofs.Common.{◌≡◌, length}
use Rattle.sink.proofs.SoFar.{IsOutSoFar}
use Rattle.sink.proofs.written.put_all.Given as goal

abbrev pub invariant-loop-left : goal.invariant-loop-left
invariant-loop-left g l = record {
  out : IsOutSoFar (g.W.Sink.bytes l.fn.w) l.fn.text l.left (g.W.Sink.bytes l.w);
  same : g.W.Sink.failures l.w ≡ g.W.Sink.failures l.fn.w;
}

abbrev pub decreases-loop-left : goal.decreases-loop-left
decreases-loop-left g l = length l.left
