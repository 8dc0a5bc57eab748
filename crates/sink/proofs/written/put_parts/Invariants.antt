use Rattle.std.proofs.Common.{◌≡◌, drop}
use Rattle.sink.proofs.SoFar.{ArePartsOut}
use Rattle.sink.proofs.written.put_parts.Given as goal

abbrev pub invariant-loop-part : goal.invariant-loop-part
invariant-loop-part g l = record {
  out : ArePartsOut (g.W.Sink.bytes l.fn.w) l.parts (drop l.part-index l.parts) (g.W.Sink.bytes l.w);
  same : g.W.Sink.failures l.w ≡ g.W.Sink.failures l.fn.w;
}
